-- What is known of less is known of more, and answers of one file say the same.
use Rattle.std.proofs.Common.{◌≡◌, ℕ, zero, suc, List, [], ◌∷◌, length, take, drop, map, Option, Some, None, option_map, Result, Ok, Err, OnOk, refl, sym, ap, ◌∙◌}
use Rattle.icb_base.specs.Contents.{FillsKnown, KnowsNoMore}
use Rattle.icb_base.proofs.LawLemmas.{less_is_filled}
use Rattle.icb_container.specs.declared.block.Block.{Block}
use Rattle.icb_container.specs.declared.fault.ContainerFault.{ContainerFault}
use Rattle.icb_container.specs.declared.fault.ContainerFault.TheVariants as fault
use Rattle.icb_container.specs.Answers.{Counts, Gives, GivesBlock, HeadIsKnown, IsPart, MarkerIsKnown, Opens, ReadsNext, Refuses, Skips}
use Rattle.icb_container.specs.Blocks.{Part, State, Step, count_of, head_at, next_of, skipped_of}
use Rattle.icb_container.specs.Known.{ForEachFile, KnownFromTo}
use Rattle.icb_container.specs.Less.{LessIsKnown, SayTheSame, said, with_state, wrong_of}
use Rattle.icb_container.specs.Opened.{Opened, state_of}
use Rattle.icb_container.specs.Wrong.{Wrong}
use Rattle.icb_container.proofs.Refused.{ok_more}

-- from a place on no more is known
knows_from : (at : ℕ) (known all : List (Option ℕ)) → KnowsNoMore known all → KnowsNoMore (drop at known) (drop at all)
knows_from zero known all h = h
knows_from (suc at) [] [] h = tt
knows_from (suc at) [] (k ∷ all) h = absurd h
knows_from (suc at) (None ∷ known) [] h = absurd h
knows_from (suc at) (Some a ∷ known) [] h = absurd h
knows_from (suc at) (None ∷ known) (k ∷ all) h = knows_from at known all h
knows_from (suc at) (Some a ∷ known) (k ∷ all) h = knows_from at known all h.1

-- a front that is known of less is known of more
front_of_more : (part : List ℕ) (known all : List (Option ℕ)) → KnowsNoMore known all → map Some part ≡ take (length part) known → map Some part ≡ take (length part) all
front_of_more [] known all h is = refl
front_of_more (b ∷ part) [] all h is = absurd cc
front_of_more (b ∷ part) (None ∷ known) [] h is = absurd h
front_of_more (b ∷ part) (Some a ∷ known) [] h is = absurd h
front_of_more (b ∷ part) (None ∷ known) (k ∷ all) h is = absurd cc
front_of_more (b ∷ part) (Some a ∷ known) (k ∷ all) h is =
    let same : k ≡ Some a = h.0 in
    let first : Some b ≡ Some a = cc in
    let rest : map Some part ≡ take (length part) known = cc in
    let more = front_of_more part known all h.1 rest in cc

-- what is known of less from a place on up to another one is known of more
pub known_of_more : (known all : List (Option ℕ)) (from to : ℕ) → KnowsNoMore known all → KnownFromTo known from to → KnownFromTo all from to
known_of_more known all from to h k = record {
  part = k.part;
  ends = k.ends;
  is = front_of_more k.part (drop from known) (drop from all) (knows_from from known all h) k.is;
}

-- what follows from a fact that an answer goes with
on_ok_more : {A E : Type 0} (r : Result A E) (P Q : Type 0) → (P → Q) → OnOk r P → OnOk r Q
on_ok_more (Ok x) P Q more p = more p
on_ok_more (Err e) P Q more p = tt

-- ---- what is answered over less is answered over more

pub opens_of_more : {F : Type 0} (known all : List (Option ℕ)) (file : List ℕ) (r : Result Opened (ContainerFault F)) → KnowsNoMore known all → Opens r known file → Opens r all file
opens_of_more known all file r h o = record {
  gives = o.gives;
  there = ok_more r (λ c. KnownFromTo known 0 c.place) (λ c. KnownFromTo all 0 c.place) (λ c. known_of_more known all 0 c.place h) o.there;
}

head_of_more : (known all : List (Option ℕ)) (file : List ℕ) (at : ℕ) → KnowsNoMore known all → HeadIsKnown known file at → HeadIsKnown all file at
head_of_more known all file at h =
    ok_more (head_at (length file) (drop at file)) _ _ (λ head. known_of_more known all at _ h)

marker_of_more : (known all : List (Option ℕ)) (file : List ℕ) (at : ℕ) → KnowsNoMore known all → MarkerIsKnown known file at → MarkerIsKnown all file at
marker_of_more known all file at h =
    ok_more (head_at (length file) (drop at file)) _ _ (λ head. known_of_more known all _ _ h)

pub counts_of_more : {F : Type 0} (known all : List (Option ℕ)) (file : List ℕ) (r : Result (Option ℕ) (ContainerFault F)) (c : Opened) → KnowsNoMore known all → Counts r c known file → Counts r c all file
counts_of_more known all file r c h k = record {
  gives = k.gives;
  head_known = on_ok_more r _ _ (head_of_more known all file c.place h) k.head_known;
}

pub skips_of_more : {F : Type 0} (known all : List (Option ℕ)) (file : List ℕ) (r : Result (Option ℕ) (ContainerFault F)) (old new : Opened) → KnowsNoMore known all → Skips r old new known file → Skips r old new all file
skips_of_more known all file r old new h k = record {
  gives = k.gives;
  head_known = on_ok_more r _ _ (head_of_more known all file old.place h) k.head_known;
  marker_known = on_ok_more r _ _ (marker_of_more known all file old.place h) k.marker_known;
}

pub reads_of_more : {F : Type 0} (known all : List (Option ℕ)) (file : List ℕ) (r : Result (Option Block) (ContainerFault F)) (old new : Opened) → KnowsNoMore known all → ReadsNext r old new known file → ReadsNext r old new all file
reads_of_more known all file r old new h k = record {
  gives = k.gives;
  there = on_ok_more r _ _ (known_of_more known all old.place new.place h) k.there;
}

-- what is said where less is known is said where more is known
pub over_more : (less more : List (Option ℕ) → Type 0) (Holds : List (Option ℕ) → List ℕ → Type 0) → LessIsKnown less more
    → ((known all : List (Option ℕ)) (file : List ℕ) → KnowsNoMore known all → Holds known file → Holds all file) → ForEachFile less Holds → ForEachFile more Holds
over_more less more Holds knows step says all is file fills =
    let k = knows all is in
    step k.0 all file k.2 (says k.0 k.1 file (less_is_filled k.0 all file k.2 fills))

-- ---- answers of one file

-- some file has all that is known
pub filled : (all : List (Option ℕ)) → (file : List ℕ) × FillsKnown all file
filled [] = ([], tt)
filled (None ∷ all) = let more = filled all in (0 ∷ more.0, more.1)
filled (Some a ∷ all) = let more = filled all in (a ∷ more.0, (refl, more.1))

-- what a fault says of the file is what the definition gives, or it says nothing
abbrev Means : {C : Type 0} → Option Wrong → Result C Wrong → Type 0
Means None r = Unit {0}
Means (Some w) r = r ≡ Err w

refusal_means : {C F : Type 0} (e : ContainerFault F) (r : Result C Wrong) → Refuses e r → Means (wrong_of e) r
refusal_means (fault.Reader f) r h = tt
refusal_means fault.NotAvro r h = h
refusal_means (fault.Avro f) r h = h
refusal_means (fault.Large what place size) r h = h
refusal_means (fault.Codec name) r h = h
refusal_means (fault.Schema f) r h = h
refusal_means (fault.Sync block) r h = h
refusal_means fault.NoMemory r h = tt

-- two refusals
refusals_agree : (B : Type 0) {C : Type 0} (m n : Option Wrong) (r : Result C Wrong) → Means m r → Means n r → SayTheSame {A = Result B Wrong} (option_map (λ w. Err w) m) (option_map (λ w. Err w) n)
refusals_agree B None n r h k = tt
refusals_agree B (Some w) None r h k = tt
refusals_agree B (Some w) (Some u) r h k = let e : w ≡ u = (let same = sym h ∙ k in cc) in ap (λ (z : Wrong). Err z) e

-- an answer beside a refusal
answer_first : {B C : Type 0} (y : B) (m : Option Wrong) (r : Result C Wrong) (x : C) → r ≡ Ok x → Means m r → SayTheSame {A = Result B Wrong} (Some (Ok y)) (option_map (λ w. Err w) m)
answer_first y None r x is h = tt
answer_first y (Some w) r x is h = absurd (let same = sym is ∙ h in cc)

answer_second : {B C : Type 0} (y : B) (m : Option Wrong) (r : Result C Wrong) (x : C) → r ≡ Ok x → Means m r → SayTheSame {A = Result B Wrong} (option_map (λ w. Err w) m) (Some (Ok y))
answer_second y None r x is h = tt
answer_second y (Some w) r x is h = absurd (let same = sym is ∙ h in cc)

-- two answers of one definition say the same
pub same_answers : {A B C F G : Type 0} (v : A → C) (w : B → C) (a : Result A (ContainerFault F)) (b : Result B (ContainerFault G)) (r : Result C Wrong)
    → Gives v a r → Gives w b r → SayTheSame (said v a) (said w b)
same_answers v w (Ok x) (Ok y) r h k = sym h ∙ k
same_answers v w (Ok x) (Err f) r h k = answer_first (v x) (wrong_of f) r (v x) h (refusal_means f r k)
same_answers v w (Err e) (Ok y) r h k = answer_second (w y) (wrong_of e) r (w y) k (refusal_means e r h)
same_answers v w (Err e) (Err f) r h k = refusals_agree _ (wrong_of e) (wrong_of f) r (refusal_means e r h) (refusal_means f r k)

-- ---- two answers of one step say the same of the next block

abbrev block_of : ℕ → ℕ → ℕ → List ℕ → Block
block_of first count place bytes = record { first = first; count = count; place = place; bytes = bytes }

same_block : (a b : Block) (p : Part) → IsPart a p → IsPart b p → a ≡ b
same_block a b p h k =
    let first : a.first ≡ b.first = h.same_first ∙ sym k.same_first in
    let count : a.count ≡ b.count = h.same_count ∙ sym k.same_count in
    let place : a.place ≡ b.place = h.same_place ∙ sym k.same_place in
    let bytes : a.bytes ≡ b.bytes = h.same_bytes ∙ sym k.same_bytes in
    let same : block_of a.first a.count a.place a.bytes ≡ block_of b.first b.count b.place b.bytes = rw (first, count, place, bytes) refl in same

-- what an answer that a step gives is a view of
abbrev pub IsSeen : Option Block → Option Part → Type 0
IsSeen None None = Unit {0}
IsSeen None (Some part) = ⊥
IsSeen (Some block) None = ⊥
IsSeen (Some block) (Some part) = IsPart block part

given : (F : Type 0) (x : Option Block) (s : State) (r : Step Part) → GivesBlock {F = F} (Ok x) s r → (part : Option Part) × (r ≡ Ok (part, s)) × IsSeen x part
given F None s r h = (None, h, tt)
given F (Some block) s r h = (Some h.0, h.1, h.2)

seen_once : (x y : Option Block) (part : Option Part) → IsSeen x part → IsSeen y part → x ≡ y
seen_once None None part h k = refl
seen_once None (Some y) None h k = absurd k
seen_once None (Some y) (Some p) h k = absurd h
seen_once (Some x) None None h k = absurd h
seen_once (Some x) None (Some p) h k = absurd k
seen_once (Some x) (Some y) None h k = absurd h
seen_once (Some x) (Some y) (Some p) h k = ap (λ (z : Block). Some z) (same_block x y p h k)

abbrev step : {A : Type 0} → Option A × State → Result (Option A × State) Wrong
step x = Ok x

same_given : (F G : Type 0) (s t : State) (x y : Option Block) (r : Step Part) → GivesBlock {F = F} (Ok x) s r → GivesBlock {F = G} (Ok y) t r → (x ≡ y) × (s ≡ t)
same_given F G s t x y r h k =
    let one = given F x s r h in
    let two = given G y t r k in
    let e : step (one.0, s) ≡ step (two.0, t) = sym one.1 ∙ two.1 in
    let same : (one.0, s) ≡ (two.0, t) = cc in
    let part : one.0 ≡ two.0 = ap (λ (z : Option Part × State). z.0) same in
    let state : s ≡ t = ap (λ (z : Option Part × State). z.1) same in
    (seen_once x y two.0 (rw part at one.2) two.2, state)

pub same_reads : {F G : Type 0} (s t : Opened) (a : Result (Option Block) (ContainerFault F)) (b : Result (Option Block) (ContainerFault G)) (r : Step Part)
    → GivesBlock a (state_of s) r → GivesBlock b (state_of t) r → SayTheSame (said (with_state s) a) (said (with_state t) b)
same_reads {F = F} {G = G} s t (Ok x) (Ok y) r h k = let same = same_given F G (state_of s) (state_of t) x y r h k in ap2 x y (state_of s) (state_of t) same.0 same.1
  where
    ap2 : (x y : Option Block) (s t : State) → x ≡ y → s ≡ t → step (x, s) ≡ step (y, t)
    ap2 x y s t e f = rw (e, f) refl
same_reads {F = F} s t (Ok x) (Err f) r h k = let one = given F x (state_of s) r h in answer_first (with_state s x) (wrong_of f) r (one.0, state_of s) one.1 (refusal_means f r k)
same_reads {G = G} s t (Err e) (Ok y) r h k = let two = given G y (state_of t) r k in answer_second (with_state t y) (wrong_of e) r (two.0, state_of t) two.1 (refusal_means e r h)
same_reads s t (Err e) (Err f) r h k = refusals_agree _ (wrong_of e) (wrong_of f) r (refusal_means e r h) (refusal_means f r k)

-- ---- two calls, of which the first one knows less

pub opens_alike : {F G : Type 0} (less more : List (Option ℕ) → Type 0) (all : List (Option ℕ)) → more all → LessIsKnown less more
    → (r : Result Opened (ContainerFault F)) (q : Result Opened (ContainerFault G))
    → ForEachFile less (Opens r) → ForEachFile more (Opens q) → SayTheSame (said state_of r) (said state_of q)
opens_alike less more all is knows r q one two =
    let k = knows all is in
    let f = filled all in
    let h = one k.0 k.1 f.0 (less_is_filled k.0 all f.0 k.2 f.1) in
    let j = two all is f.0 f.1 in
    same_answers state_of state_of r q _ h.gives j.gives

pub reads_alike : {F G : Type 0} (less more : List (Option ℕ) → Type 0) (all : List (Option ℕ)) → more all → LessIsKnown less more
    → (r : Result (Option Block) (ContainerFault F)) (q : Result (Option Block) (ContainerFault G)) (c d e t : Opened) → state_of c ≡ state_of e
    → ForEachFile less (ReadsNext r c d) → ForEachFile more (ReadsNext q e t)
    → SayTheSame (said (with_state d) r) (said (with_state t) q)
reads_alike less more all is knows r q c d e t same one two =
    let k = knows all is in
    let f = filled all in
    let h = one k.0 k.1 f.0 (less_is_filled k.0 all f.0 k.2 f.1) in
    let j = two all is f.0 f.1 in
    let first : GivesBlock r (state_of d) (next_of (state_of e) f.0) = rw same at h.gives in
    same_reads d t r q (next_of (state_of e) f.0) first j.gives

pub skips_alike : {F G : Type 0} (less more : List (Option ℕ) → Type 0) (all : List (Option ℕ)) → more all → LessIsKnown less more
    → (r : Result (Option ℕ) (ContainerFault F)) (q : Result (Option ℕ) (ContainerFault G)) (c d e t : Opened) → state_of c ≡ state_of e
    → ForEachFile less (Skips r c d) → ForEachFile more (Skips q e t)
    → SayTheSame (said (with_state d) r) (said (with_state t) q)
skips_alike less more all is knows r q c d e t same one two =
    let k = knows all is in
    let f = filled all in
    let h = one k.0 k.1 f.0 (less_is_filled k.0 all f.0 k.2 f.1) in
    let j = two all is f.0 f.1 in
    let first : Gives (with_state d) r (skipped_of (state_of e) f.0) = rw same at h.gives in
    same_answers (with_state d) (with_state t) r q (skipped_of (state_of e) f.0) first j.gives

pub counts_alike : {F G : Type 0} (less more : List (Option ℕ) → Type 0) (all : List (Option ℕ)) → more all → LessIsKnown less more
    → (r : Result (Option ℕ) (ContainerFault F)) (q : Result (Option ℕ) (ContainerFault G)) (c e : Opened) → state_of c ≡ state_of e
    → ForEachFile less (Counts r c) → ForEachFile more (Counts q e)
    → SayTheSame (said (with_state c) r) (said (with_state e) q)
counts_alike less more all is knows r q c e same one two =
    let k = knows all is in
    let f = filled all in
    let h = one k.0 k.1 f.0 (less_is_filled k.0 all f.0 k.2 f.1) in
    let j = two all is f.0 f.1 in
    let step : count_of (state_of c) f.0 ≡ count_of (state_of e) f.0 = ap (λ (s : State). count_of s f.0) same in
    let first : Gives (with_state c) r (count_of (state_of e) f.0) = rw step at h.gives in
    same_answers (with_state c) (with_state e) r q (count_of (state_of e) f.0) first j.gives
