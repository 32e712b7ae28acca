-- The next record, by what was found of it.
use Rattle.std.proofs.Math.Dec.{eqb-suc-zero}
use Rattle.std.proofs.Common.{◌≡◌, ℕ, ℤ, suc, eqb, true, false, ◌+◌, ◌-◌, ◌<◌, List, length, drop, Some, None, Result, Ok, Err, OnOk, refl, ap, ◌∙◌, arith}
use Rattle.std.specs.Result.{is_err}
use Rattle.icb_schema.specs.Tree.{Tree}
use Rattle.icb_container.specs.declared.fault.ContainerFault.{ContainerFault}
use Rattle.icb_container.specs.Blocks.{Part, State}
use Rattle.icb_container.specs.Answers.{Refuses}
use Rattle.icb_fields.specs.Fields.{Row}
use Rattle.icb_reader.specs.declared.fault.RecordsFault.{RecordsFault}
use Rattle.icb_reader.specs.Answers.{GivesRecord, RefusesRecord, of_container}
use Rattle.icb_reader.specs.Records.{Reading, Refusal, behind, behind_of, enters, filled_of, from_block, front_of, in_block, next_of, of_file}
use Rattle.icb_reader.proofs.Refusing.{container_refuses, refuses_first}

-- the block is refused
pub block_refuses : {A F : Type 0} (make : Row → Result A ℤ) (r : Reading) (file : List ℕ) (e : ContainerFault F) → Refuses e (filled_of r.state file) → RefusesRecord (of_container e) (behind_of make r file)
unfolding behind_of
block_refuses make r file e h = refuses_first (of_container e) (of_file (filled_of r.state file)) (from_block make r) (container_refuses e (filled_of r.state file) h)

-- there is no block
pub no_block : {A : Type 0} (make : Row → Result A ℤ) (r : Reading) (file : List ℕ) (s : State) → filled_of r.state file ≡ Ok (None, s)
    → behind_of make r file ≡ Ok (None, record { state = s; rest = r.rest; left = r.left; end = r.end; last = r.last })
unfolding behind_of
no_block make r file s e = rw e refl

-- there is one
in_next : {A : Type 0} (make : Row → Result A ℤ) (r : Reading) (file : List ℕ) (s : State) (part : Part) → filled_of r.state file ≡ Ok (Some part, s)
    → behind_of make r file ≡ in_block make (enters r.last s part)
unfolding behind_of
in_next make r file s part e = rw e refl

-- its first record is refused
pub first_refuses : {A F : Type 0} (make : Row → Result A ℤ) (r : Reading) (file : List ℕ) (s : State) (part : Part) (t : Tree) (end : ℕ) (bytes : List ℕ) (e : RecordsFault F)
    → filled_of r.state file ≡ Ok (Some part, s) → t ≡ s.schema → bytes ≡ part.bytes → end ≡ part.place + length part.bytes
    → RefusesRecord e (front_of make t end bytes) → RefusesRecord e (behind_of make r file)
first_refuses {A} make r file s part t end bytes e is schema same place h =
    let g = rw (schema, place, same) at h in
    rw (in_next make r file s part is)
    (refuses_first e (front_of make s.schema (part.place + length part.bytes) part.bytes) (λ (x : A × List ℕ). Ok (Some x.0, behind (enters r.last s part) x.1)) g)

-- its first record is made
first_made : {A : Type 0} (make : Row → Result A ℤ) (r : Reading) (file : List ℕ) (s : State) (part : Part) (count : ℕ) (x : A) → filled_of r.state file ≡ Ok (Some part, s)
    → front_of make s.schema (part.place + length part.bytes) part.bytes ≡ Ok (x, drop count part.bytes)
    → behind_of make r file ≡ Ok (Some x, record { state = s; rest = drop count part.bytes; left = part.count - 1; end = part.place + length part.bytes; last = part.place })
first_made make r file s part count x is h =
    let last : part.place + length part.bytes - length part.bytes ≡ part.place = omega arith in
    in_next make r file s part is ∙ rw (h, last) refl

pub first_gives : {A : Type 0} (make : Row → Result A ℤ) (r : Reading) (file : List ℕ) (s : State) (part : Part) (t : Tree) (end place n count : ℕ) (bytes held : List ℕ) (x : A)
    → filled_of r.state file ≡ Ok (Some part, s) → t ≡ s.schema → bytes ≡ part.bytes → held ≡ part.bytes → end ≡ part.place + length part.bytes → place ≡ part.place → n ≡ part.count
    → front_of make t end bytes ≡ Ok (x, drop count bytes)
    → behind_of make r file ≡ Ok (Some x, record { state = s; rest = drop count held; left = n - 1; end = end; last = place })
first_gives make r file s part t end place n count bytes held x is schema same kept ends stands counted h =
    let g = rw (schema, ends, same) at h in
    rw (kept, ends, stands, counted) (first_made make r file s part count x is g)

-- ---- the next record

pub next_behind_is : {A : Type 0} (make : Row → Result A ℤ) (r : Reading) (file : List ℕ) → r.left ≡ 0 → next_of make r file ≡ behind_of make r file
unfolding next_of
next_behind_is make r file e = let none : eqb r.left 0 ≡ true = rw e refl in rw none refl

pub next_inside_is : {A : Type 0} (make : Row → Result A ℤ) (r : Reading) (file : List ℕ) → 0 < r.left → next_of make r file ≡ in_block make r
unfolding next_of
next_inside_is make r file h =
    let is : r.left ≡ suc (r.left - 1) = omega (arith, h) in
    let some : eqb r.left 0 ≡ false = ap (λ (n : ℕ). eqb n 0) is ∙ eqb-suc-zero (r.left - 1) in
    rw some refl

-- what isn't Ok says nothing of where the reader stands
pub refused_alike : {A B F : Type 0} (r : Result A (RecordsFault F)) (f g : A → B) (d : Result B Refusal) → is_err r ≡ true → GivesRecord f r d → GivesRecord g r d
refused_alike (Ok x) f g d e h = absurd (let no : ⊥ = cc in no)
refused_alike (Err w) f g d e h = h

pub refused_there : {A F : Type 0} (r : Result A (RecordsFault F)) (P : Type 0) → is_err r ≡ true → OnOk r P
refused_there (Ok x) P e = absurd (let no : ⊥ = cc in no)
refused_there (Err w) P e = tt

pub there_anyway : {A F : Type 0} (r : Result A (RecordsFault F)) (P : Type 0) → P → OnOk r P
there_anyway (Ok x) P p = p
there_anyway (Err w) P p = tt
