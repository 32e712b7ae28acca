-- Items of a header, by what was read of them.
use Rattle.std.proofs.Common.{◌≡◌, ℕ, ◌+◌, ◌-◌, ◌<◌, ◌≤◌, ltb, leb, Bool, true, false, cond, List, length, take, drop, Option, Result, Ok, Err, ℤ, pos, refl, sym, ap, subst, ◌∙◌, arith}
use Rattle.std.specs.Str.{IsUtf8, is_utf8}
use Rattle.std.proofs.lemmas.Str.{IsUtf8-from_is_utf8, is_utf8-from_IsUtf8}
use Rattle.std.proofs.lemmas.Bool.{le-leb, lt-leb}
use Rattle.std.proofs.lemmas.List.{drop-drop, length-drop}
use Rattle.icb_base.specs.Contents.{FillsKnown, HasPart}
use Rattle.icb_base.specs.declared.limits.Limited.TheVariants as limited
use Rattle.icb_base.proofs.LawLemmas.{part_is_filled}
use Rattle.icb_avro.specs.declared.fault.AvroCause.TheVariants as cause
use Rattle.icb_avro.specs.Reading.{long_at, part_at}
use lib.Signed.{lt_z}
use lib.IntN.{nat_abs}
use Rattle.icb_container.specs.declared.fault.ContainerFault.{ContainerFault}
use Rattle.icb_container.specs.Wrong as wrong
use Rattle.icb_container.specs.Wrong.{Wrong, ◌>>=◌, in_file, refuse}
use Rattle.icb_container.specs.Answers.{Refuses}
use Rattle.icb_container.specs.Header.{bytes_at, content_at, marker_at, number_at, text_at, within, max_header}
use Rattle.icb_container.proofs.Knowledge.{place_of}
use Rattle.icb_container.proofs.Refused.{refuses_as, refuses_first}
use Rattle.icb_container.proofs.Signs.{is_below, not_below}

abbrev done : Unit {0}
done = tt

-- within the limit an item is read
pub within_is : {A : Type 0} (end : ℕ) (all : List ℕ) (stop size : ℕ) (r : Result A Wrong) → within end all stop size (Ok done) ≡ Ok done → within end all stop size r ≡ r
within_is end all stop size r e = by_test (ltb max_header stop) e
  where
    by_test : (b : Bool) → cond b (Err (wrong.large limited.Header (end - length all) size)) (Ok done) ≡ Ok done → cond b (Err (wrong.large limited.Header (end - length all) size)) r ≡ r
    by_test true f = absurd cc
    by_test false f = refl

-- beyond it nothing else is looked at
pub within_refuses : {A F : Type 0} (end : ℕ) (all : List ℕ) (stop size : ℕ) (r : Result A Wrong) (e : ContainerFault F) → Refuses e (within end all stop size (Ok done)) → Refuses e (within end all stop size r)
within_refuses end all stop size r e h = refuses_as e (within end all stop size (Ok done)) (within end all stop size r) (λ w is. by_test w (ltb max_header stop) is) h
  where
    by_test : (w : Wrong) (b : Bool) → cond b (Err (wrong.large limited.Header (end - length all) size)) (Ok done) ≡ Err w → cond b (Err (wrong.large limited.Header (end - length all) size)) r ≡ Err w
    by_test w true f = let e : wrong.large limited.Header (end - length all) size ≡ w = cc in ap Err e
    by_test w false f = absurd cc

-- ---- numbers

-- a number of the header
pub number_is : (file : List ℕ) (at place : ℕ) (n : ℤ) → at ≤ place → place ≤ length file → in_file (length file) (long_at (drop at file)) ≡ Ok (n, drop place file)
    → within (length file) (drop at file) place (place - at) (Ok done) ≡ Ok done → number_at (length file) (drop at file) ≡ Ok (n, drop place file)
unfolding number_at
number_is file at place n h inside is limit =
    let stop = place_of file place inside in
    let size : length (drop at file) - length (drop place file) ≡ place - at = omega (arith, length-drop at file, length-drop place file) in
    rw (is, stop, size) (within_is (length file) (drop at file) place (place - at) (Ok (n, drop place file)) limit)

-- which may be refused as Avro does
pub number_refuses : {F : Type 0} (file : List ℕ) (at : ℕ) (e : ContainerFault F) → Refuses e (in_file (length file) (long_at (drop at file))) → Refuses e (number_at (length file) (drop at file))
unfolding number_at
number_refuses file at e h = refuses_first e (in_file (length file) (long_at (drop at file))) _ h

-- or go beyond the limit
pub number_is_beyond : {F : Type 0} (file : List ℕ) (at place : ℕ) (n : ℤ) (e : ContainerFault F) → at ≤ place → place ≤ length file → in_file (length file) (long_at (drop at file)) ≡ Ok (n, drop place file)
    → Refuses e (within (length file) (drop at file) place (place - at) (Ok done)) → Refuses e (number_at (length file) (drop at file))
unfolding number_at
number_is_beyond file at place n e h inside is beyond =
    let stop = place_of file place inside in
    let size : length (drop at file) - length (drop place file) ≡ place - at = omega (arith, length-drop at file, length-drop place file) in
    rw (is, stop, size) (within_refuses (length file) (drop at file) place (place - at) (Ok (n, drop place file)) e beyond)

-- ---- bytes

-- a length below 0
pub bytes_below : (file : List ℕ) (at place : ℕ) (n : ℤ) → at ≤ length file → number_at (length file) (drop at file) ≡ Ok (n, drop place file) → lt_z n (pos 0) ≡ true
    → bytes_at (length file) (drop at file) ≡ Err (wrong.avro at cause.Negative)
unfolding bytes_at
bytes_below file at place n h is below = let k = is_below n below in let begins = place_of file at h in rw (is, k.1, begins) refl

bytes_of : (file : List ℕ) (at place : ℕ) (n : ℤ) → place ≤ length file → number_at (length file) (drop at file) ≡ Ok (n, drop place file) → lt_z n (pos 0) ≡ false
    → bytes_at (length file) (drop at file) ≡ within (length file) (drop at file) (place + nat_abs n) (nat_abs n) (in_file (length file) (part_at (nat_abs n) (drop at file) (drop place file)))
unfolding bytes_at
bytes_of file at place n inside is above =
    let stop = place_of file place inside in
    let P : ℤ → Type 0 = λ m. (number_at (length file) (drop at file) >>= content_at (length file) (drop at file)) ≡ content_at (length file) (drop at file) (m, drop place file) in
    let read : P n = rw is refl in
    read ∙ ap (λ (m : ℤ). content_at (length file) (drop at file) (m, drop place file)) (not_below n above) ∙ rw stop refl

-- bytes that go beyond the limit
pub bytes_beyond : {F : Type 0} (file : List ℕ) (at place : ℕ) (n : ℤ) (e : ContainerFault F) → place ≤ length file → number_at (length file) (drop at file) ≡ Ok (n, drop place file) → lt_z n (pos 0) ≡ false
    → Refuses e (within (length file) (drop at file) (place + nat_abs n) (nat_abs n) (Ok done)) → Refuses e (bytes_at (length file) (drop at file))
bytes_beyond file at place n e inside is above beyond = rw (bytes_of file at place n inside is above)
    (within_refuses (length file) (drop at file) (place + nat_abs n) (nat_abs n) (in_file (length file) (part_at (nat_abs n) (drop at file) (drop place file))) e beyond)

-- bytes that go beyond the file
pub bytes_end : (file : List ℕ) (at place : ℕ) (n : ℤ) → at ≤ length file → place ≤ length file → number_at (length file) (drop at file) ≡ Ok (n, drop place file) → lt_z n (pos 0) ≡ false
    → within (length file) (drop at file) (place + nat_abs n) (nat_abs n) (Ok done) ≡ Ok done → length file - place < nat_abs n → bytes_at (length file) (drop at file) ≡ Err (wrong.avro at cause.End)
unfolding part_at
bytes_end file at place n h inside is above limit short =
    let begins = place_of file at h in
    let test : leb (nat_abs n) (length (drop place file)) ≡ false = lt-leb (nat_abs n) (length (drop place file)) (omega (arith, length-drop place file)) in
    bytes_of file at place n inside is above
    ∙ within_is (length file) (drop at file) (place + nat_abs n) (nat_abs n) (in_file (length file) (part_at (nat_abs n) (drop at file) (drop place file))) limit ∙ rw (test, begins) refl

-- bytes that are there
pub bytes_are : (known : List (Option ℕ)) (file part : List ℕ) (at place : ℕ) (n : ℤ) → FillsKnown known file → HasPart known place part → length part ≡ nat_abs n → place + nat_abs n ≤ length file
    → number_at (length file) (drop at file) ≡ Ok (n, drop place file) → lt_z n (pos 0) ≡ false → within (length file) (drop at file) (place + nat_abs n) (nat_abs n) (Ok done) ≡ Ok done
    → bytes_at (length file) (drop at file) ≡ Ok (part, drop (place + nat_abs n) file)
unfolding part_at
bytes_are known file part at place n fills has size inside is above limit =
    let test : leb (nat_abs n) (length (drop place file)) ≡ true = le-leb (nat_abs n) (length (drop place file)) (omega (arith, length-drop place file)) in
    let bytes : part ≡ take (nat_abs n) (drop place file) = part_is_filled known file part place fills has ∙ ap (λ (k : ℕ). take k (drop place file)) size in
    bytes_of file at place n (omega arith) is above
    ∙ within_is (length file) (drop at file) (place + nat_abs n) (nat_abs n) (in_file (length file) (part_at (nat_abs n) (drop at file) (drop place file))) limit ∙ rw (test, ← bytes, drop-drop (nat_abs n) place file) refl

-- ---- texts

-- bytes that are refused are no text
pub text_refuses : {F : Type 0} (end : ℕ) (all : List ℕ) (e : ContainerFault F) → Refuses e (bytes_at end all) → Refuses e (text_at end all)
unfolding text_at
text_refuses end all e h = refuses_first e (bytes_at end all) _ h

no_utf8 : (bytes : List ℕ) → (IsUtf8 bytes → ⊥) → is_utf8 bytes ≡ false
no_utf8 bytes none = by_test (is_utf8 bytes) refl
  where
    by_test : (b : Bool) → is_utf8 bytes ≡ b → b ≡ false
    by_test true e = absurd (none (IsUtf8-from_is_utf8 bytes e))
    by_test false e = refl

-- bytes that aren't UTF-8 are no text
pub text_is_none : (file bytes rest : List ℕ) (at : ℕ) → at ≤ length file → bytes_at (length file) (drop at file) ≡ Ok (bytes, rest) → (IsUtf8 bytes → ⊥) → text_at (length file) (drop at file) ≡ Err (wrong.avro at cause.Utf8)
unfolding text_at
text_is_none file bytes rest at h is none = let begins = place_of file at h in rw (is, no_utf8 bytes none, begins) refl

-- bytes of UTF-8 are a text
pub text_is : (end : ℕ) (all bytes rest : List ℕ) → bytes_at end all ≡ Ok (bytes, rest) → IsUtf8 bytes → text_at end all ≡ Ok (bytes, rest)
unfolding text_at
text_is end all bytes rest is text = rw (is, is_utf8-from_IsUtf8 bytes text) refl

-- a number that is refused
pub bytes_refuse : {F : Type 0} (end : ℕ) (all : List ℕ) (e : ContainerFault F) → Refuses e (number_at end all) → Refuses e (bytes_at end all)
unfolding bytes_at
bytes_refuse end all e h = refuses_first e (number_at end all) (content_at end all) h

-- ---- the marker

marker_of : (file : List ℕ) (at : ℕ) → at ≤ length file → marker_at (length file) (drop at file) ≡ within (length file) (drop at file) (at + 16) 16 (in_file (length file) (part_at 16 (drop at file) (drop at file)))
unfolding marker_at
marker_of file at h = ap (λ (k : ℕ). within (length file) (drop at file) (k + 16) 16 (in_file (length file) (part_at 16 (drop at file) (drop at file)))) (place_of file at h)

-- a marker beyond the limit
pub marker_beyond : {F : Type 0} (file : List ℕ) (at : ℕ) (e : ContainerFault F) → at ≤ length file → Refuses e (within (length file) (drop at file) (at + 16) 16 (Ok done)) → Refuses e (marker_at (length file) (drop at file))
marker_beyond file at e h beyond = subst (λ (r : Result (List ℕ × List ℕ) Wrong). Refuses e r) (sym (marker_of file at h))
    (within_refuses (length file) (drop at file) (at + 16) 16 (in_file (length file) (part_at 16 (drop at file) (drop at file))) e beyond)

-- a marker that isn't whole
pub marker_ends : (file : List ℕ) (at : ℕ) → at ≤ length file → within (length file) (drop at file) (at + 16) 16 (Ok done) ≡ Ok done → length file - at < 16 → marker_at (length file) (drop at file) ≡ Err (wrong.avro at cause.End)
unfolding part_at
marker_ends file at h limit short =
    let begins = place_of file at h in
    let test : leb 16 (length (drop at file)) ≡ false = lt-leb 16 (length (drop at file)) (omega (arith, length-drop at file)) in
    marker_of file at h ∙ within_is (length file) (drop at file) (at + 16) 16 (in_file (length file) (part_at 16 (drop at file) (drop at file))) limit ∙ rw (test, begins) refl

-- a marker that is there
pub marker_is_there : (known : List (Option ℕ)) (file marker : List ℕ) (at : ℕ) → FillsKnown known file → HasPart known at marker → length marker ≡ 16 → at + 16 ≤ length file
    → within (length file) (drop at file) (at + 16) 16 (Ok done) ≡ Ok done → marker_at (length file) (drop at file) ≡ Ok (marker, drop (at + 16) file)
unfolding part_at
marker_is_there known file marker at fills has size inside limit =
    let test : leb 16 (length (drop at file)) ≡ true = le-leb 16 (length (drop at file)) (omega (arith, length-drop at file)) in
    let bytes : marker ≡ take 16 (drop at file) = part_is_filled known file marker at fills has ∙ ap (λ (k : ℕ). take k (drop at file)) size in
    marker_of file at (omega arith) ∙ within_is (length file) (drop at file) (at + 16) 16 (in_file (length file) (part_at 16 (drop at file) (drop at file))) limit ∙ rw (test, ← bytes, drop-drop 16 at file) refl
