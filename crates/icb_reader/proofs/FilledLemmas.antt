-- Blocks of no records are passed over.
use Rattle.std.specs.Prelude.{◌==◌, if◌then◌else◌}
use Rattle.std.proofs.Math.Dec.{eqb-suc-zero}
use Rattle.std.proofs.Common.{◌≡◌, ℕ, zero, suc, ◌+◌, ◌-◌, ◌<◌, ◌≤◌, List, length, Some, None, Ok, Err, refl, ap, ◌∙◌, arith}
use Rattle.icb_container.specs.Wrong.{Wrong}
use Rattle.icb_container.specs.Blocks as blocks
use Rattle.icb_container.specs.Blocks.{Part, State, Step}
use Rattle.icb_container.specs.declared.fault.ContainerFault.{ContainerFault}
use Rattle.icb_container.specs.Answers.{Refuses}
use Rattle.icb_container.proofs.Refused.{refuses_as}
use Rattle.icb_reader.specs.Records.{filled_of, filled_within}

-- there is no further block
within_none : (n : ℕ) (s t : State) (file : List ℕ) → blocks.next_of s file ≡ Ok (None, t) → filled_within n s file ≡ Ok (None, t)
unfolding filled_within
within_none zero s t file e = e
within_none (suc n) s t file e = rw e refl

pub filled_none : (s t : State) (file : List ℕ) → blocks.next_of s file ≡ Ok (None, t) → filled_of s file ≡ Ok (None, t)
filled_none s t file e = within_none (suc (length file) - s.block) s t file e

-- a block of so many records, or else what comes behind it
abbrev chosen : ℕ → Step Part → Part → State → Step Part
chosen k more part t = if k == 0 then more else Ok (Some part, t)

chosen_some : (count : ℕ) (more : Step Part) (part : Part) (t : State) → chosen (suc count) more part t ≡ Ok (Some part, t)
chosen_some count more part t = rw (eqb-suc-zero count) refl

-- the next block has records
within_some : (n : ℕ) (s t : State) (file : List ℕ) (part : Part) → blocks.next_of s file ≡ Ok (Some part, t) → (count : ℕ) → part.count ≡ suc count → filled_within n s file ≡ Ok (Some part, t)
unfolding filled_within
within_some zero s t file part e count is = e
within_some (suc n) s t file part e count is = rw e (ap (λ (k : ℕ). chosen k (filled_within n t file) part t) is ∙ chosen_some count (filled_within n t file) part t)

pub filled_some : (s t : State) (file : List ℕ) (part : Part) → blocks.next_of s file ≡ Ok (Some part, t) → 0 < part.count → filled_of s file ≡ Ok (Some part, t)
filled_some s t file part e some =
    let is : part.count ≡ suc (part.count - 1) = omega (arith, some) in
    within_some (suc (length file) - s.block) s t file part e (part.count - 1) is

-- the next block is refused
within_refused : (n : ℕ) (s : State) (file : List ℕ) (w : Wrong) → blocks.next_of s file ≡ Err w → filled_within n s file ≡ Err w
unfolding filled_within
within_refused zero s file w e = e
within_refused (suc n) s file w e = rw e refl

pub filled_refused : {F : Type 0} (s : State) (file : List ℕ) (e : ContainerFault F) → Refuses e (blocks.next_of s file) → Refuses e (filled_of s file)
filled_refused s file e h = refuses_as e (blocks.next_of s file) (filled_of s file) (λ w is. within_refused (suc (length file) - s.block) s file w is) h

-- the next block has no records
within_empty : (n : ℕ) (s t : State) (file : List ℕ) (part : Part) → blocks.next_of s file ≡ Ok (Some part, t) → part.count ≡ 0 → filled_within (suc n) s file ≡ filled_within n t file
unfolding filled_within
within_empty n s t file part e is = rw (e, is) refl

pub filled_empty : (s t : State) (file : List ℕ) (part : Part) → blocks.next_of s file ≡ Ok (Some part, t) → part.count ≡ 0 → t.block ≡ s.block + 1 → s.block ≤ length file
    → filled_of s file ≡ filled_of t file
filled_empty s t file part e is next within =
    let one : suc (length file) - s.block ≡ suc (length file - s.block) = omega (arith, within) in
    let two : length file - s.block ≡ suc (length file) - t.block = omega (arith, within, next) in
    ap (λ (n : ℕ). filled_within n s file) one ∙ within_empty (length file - s.block) s t file part e is ∙ ap (λ (n : ℕ). filled_within n t file) two
