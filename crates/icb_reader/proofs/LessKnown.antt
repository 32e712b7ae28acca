-- What is answered over less is answered over more, and answers of one file say the same.
use Rattle.std.proofs.Common.{◌≡◌, ℕ, ℤ, List, Option, Some, None, option_map, Result, Ok, Err, OnOk, sym, ap, ◌∙◌}
use Rattle.icb_base.specs.Contents.{KnowsNoMore}
use Rattle.icb_base.proofs.LawLemmas.{less_is_filled}
use Rattle.icb_container.specs.declared.fault.ContainerFault.TheVariants as inner
use Rattle.icb_container.specs.Known.{ForEachFile, KnownFromTo}
use Rattle.icb_container.specs.Less.{LessIsKnown, SayTheSame}
use Rattle.icb_container.proofs.LessKnown.{filled, known_of_more}
use Rattle.icb_container.proofs.Refused.{ok_more}
use Rattle.icb_fields.specs.Fields.{Row}
use Rattle.icb_reader.specs.declared.fault.RecordsFault.{RecordsFault}
use Rattle.icb_reader.specs.declared.fault.RecordsFault.TheVariants as fault
use Rattle.icb_reader.specs.declared.records.Records.{Records}
use Rattle.icb_reader.specs.Records.{Refusal, next_of, opening_of}
use Rattle.icb_reader.specs.Answers.{GivesRecord, OpensRecords, ReadsRecord, RefusesRecord, reading_of}
use Rattle.icb_reader.specs.Less.{refusal_of, said, with_reading}

-- what follows from a fact that an answer goes with
on_ok_more : {A E : Type 0} (r : Result A E) (P Q : Type 0) → (P → Q) → OnOk r P → OnOk r Q
on_ok_more (Ok x) P Q more p = more p
on_ok_more (Err e) P Q more p = tt

-- ---- what is answered over less is answered over more

pub opens_of_more : {F : Type 0} (known all : List (Option ℕ)) (file : List ℕ) (r : Result Records (RecordsFault F)) → KnowsNoMore known all → OpensRecords r known file → OpensRecords r all file
opens_of_more known all file r h o = record {
  gives = o.gives;
  there = ok_more r (λ c. KnownFromTo known 0 c.container.place) (λ c. KnownFromTo all 0 c.container.place) (λ c. known_of_more known all 0 c.container.place h) o.there;
}

pub reads_of_more : {A F : Type 0} (make : Row → Result A ℤ) (known all : List (Option ℕ)) (file : List ℕ) (r : Result (Option A) (RecordsFault F)) (old new : Records) → KnowsNoMore known all
    → ReadsRecord make r old new known file → ReadsRecord make r old new all file
reads_of_more make known all file r old new h k = record {
  gives = k.gives;
  there = on_ok_more r _ _ (known_of_more known all old.container.place new.container.place h) k.there;
}

-- ---- answers of one file

-- what a fault says of the file is what the definition gives, or it says nothing
abbrev Means : {C : Type 0} → Option Refusal → Result C Refusal → Type 0
Means None r = Unit {0}
Means (Some v) r = r ≡ Err v

refusal_means : {C F : Type 0} (e : RecordsFault F) (r : Result C Refusal) → RefusesRecord e r → Means (refusal_of e) r
refusal_means (fault.Container (inner.Reader f)) r h = tt
refusal_means (fault.Container inner.NotAvro) r h = h
refusal_means (fault.Container (inner.Avro f)) r h = h
refusal_means (fault.Container (inner.Large what place size)) r h = h
refusal_means (fault.Container (inner.Codec name)) r h = h
refusal_means (fault.Container (inner.Schema f)) r h = h
refusal_means (fault.Container (inner.Sync block)) r h = h
refusal_means (fault.Container inner.NoMemory) r h = tt
refusal_means (fault.Field place id) r h = h
refusal_means fault.NoMemory r h = tt

-- two refusals
refusals_agree : (B : Type 0) {C : Type 0} (m n : Option Refusal) (r : Result C Refusal) → Means m r → Means n r → SayTheSame {A = Result B Refusal} (option_map (λ v. Err v) m) (option_map (λ v. Err v) n)
refusals_agree B None n r h k = tt
refusals_agree B (Some v) None r h k = tt
refusals_agree B (Some v) (Some u) r h k = let e : v ≡ u = (let same = sym h ∙ k in cc) in ap (λ (z : Refusal). Err z) e

-- an answer beside a refusal
answer_first : {B C : Type 0} (y : B) (m : Option Refusal) (r : Result C Refusal) (x : C) → r ≡ Ok x → Means m r → SayTheSame {A = Result B Refusal} (Some (Ok y)) (option_map (λ v. Err v) m)
answer_first y None r x is h = tt
answer_first y (Some v) r x is h = absurd (let same = sym is ∙ h in cc)

answer_second : {B C : Type 0} (y : B) (m : Option Refusal) (r : Result C Refusal) (x : C) → r ≡ Ok x → Means m r → SayTheSame {A = Result B Refusal} (option_map (λ v. Err v) m) (Some (Ok y))
answer_second y None r x is h = tt
answer_second y (Some v) r x is h = absurd (let same = sym is ∙ h in cc)

-- two answers of one definition say the same
same_answers : {A B C F G : Type 0} (v : A → C) (w : B → C) (a : Result A (RecordsFault F)) (b : Result B (RecordsFault G)) (r : Result C Refusal)
    → GivesRecord v a r → GivesRecord w b r → SayTheSame (said v a) (said w b)
same_answers v w (Ok x) (Ok y) r h k = sym h ∙ k
same_answers v w (Ok x) (Err f) r h k = answer_first (v x) (refusal_of f) r (v x) h (refusal_means f r k)
same_answers v w (Err e) (Ok y) r h k = answer_second (w y) (refusal_of e) r (w y) k (refusal_means e r h)
same_answers v w (Err e) (Err f) r h k = refusals_agree _ (refusal_of e) (refusal_of f) r (refusal_means e r h) (refusal_means f r k)

-- ---- two calls, of which the first one knows less

pub opens_alike : {F G : Type 0} (less more : List (Option ℕ) → Type 0) (all : List (Option ℕ)) → more all → LessIsKnown less more
    → (r : Result Records (RecordsFault F)) (q : Result Records (RecordsFault G))
    → ForEachFile less (OpensRecords r) → ForEachFile more (OpensRecords q) → SayTheSame (said reading_of r) (said reading_of q)
opens_alike less more all is knows r q one two =
    let k = knows all is in
    let f = filled all in
    let h = one k.0 k.1 f.0 (less_is_filled k.0 all f.0 k.2 f.1) in
    let j = two all is f.0 f.1 in
    same_answers reading_of reading_of r q (opening_of f.0) h.gives j.gives

pub reads_alike : {A F G : Type 0} (make : Row → Result A ℤ) (less more : List (Option ℕ) → Type 0) (all : List (Option ℕ)) → more all → LessIsKnown less more
    → (r : Result (Option A) (RecordsFault F)) (q : Result (Option A) (RecordsFault G)) (c d e t : Records) → reading_of c ≡ reading_of e
    → ForEachFile less (ReadsRecord make r c d) → ForEachFile more (ReadsRecord make q e t)
    → SayTheSame (said (with_reading d) r) (said (with_reading t) q)
reads_alike make less more all is knows r q c d e t same one two =
    let k = knows all is in
    let f = filled all in
    let h = one k.0 k.1 f.0 (less_is_filled k.0 all f.0 k.2 f.1) in
    let j = two all is f.0 f.1 in
    let first : GivesRecord (with_reading d) r (next_of make (reading_of e) f.0) = rw same at h.gives in
    same_answers (with_reading d) (with_reading t) r q (next_of make (reading_of e) f.0) first j.gives
