-- The next block, by what was read of it.
use Rattle.std.proofs.Common.{◌≡◌, ℕ, ◌≤◌, List, length, take, drop, Option, Some, None, Result, Ok, refl, sym, ap, ◌∙◌}
use Rattle.icb_base.specs.Contents.{FillsKnown, HasPart}
use Rattle.icb_base.proofs.LawLemmas.{part_is_filled}
use Rattle.icb_avro.specs.declared.value.Value.{Value}
use Rattle.icb_schema.specs.Shape.{shape}
use Rattle.icb_container.specs.declared.block.Block.{Block}
use Rattle.icb_container.specs.declared.fault.ContainerFault.{ContainerFault}
use Rattle.icb_container.specs.declared.numbers.BlockHead.{BlockHead}
use Rattle.icb_container.specs.Wrong.{Wrong, ◌>>=◌}
use Rattle.icb_container.specs.Answers.{IsPart, Refuses}
use Rattle.icb_container.specs.Blocks.{Head, Part, State, answered, behind, marked, next_of, part_of, records_at}
use Rattle.icb_container.specs.Items.{head_of, marker_checked, next_head_at}
use Rattle.icb_container.proofs.Heads.{marked_is, marked_refuses, step_none, step_refuses, step_some}
use Rattle.icb_container.proofs.Knowledge.{place_of}
use Rattle.icb_container.proofs.Refused.{refuses_behind, refuses_first}

abbrev found : State → List ℕ → Head → List Value → Part × State
found s file head vs = (part_of s (length file) head vs, behind s (length file) head)

abbrev step_of : State → List ℕ → Head → Result (Part × State) Wrong
step_of s file head = records_at (shape s.schema) (length file) head >>= (λ vs. marked s head (found s file head vs))

-- the head is refused
pub next_refuses : {F : Type 0} (s : State) (file : List ℕ) (e : ContainerFault F) → Refuses e (next_head_at s.place file) → Refuses e (next_of s file)
unfolding next_of
next_refuses s file e h = step_refuses s file (step_of s file) e h

-- there is no block
pub next_none : (s : State) (file : List ℕ) → next_head_at s.place file ≡ Ok None → next_of s file ≡ Ok (None, s)
unfolding next_of
next_none s file e = step_none s file (step_of s file) e

-- the records are refused
pub records_refuse : {F : Type 0} (s : State) (file : List ℕ) (head : Head) (e : ContainerFault F) → next_head_at s.place file ≡ Ok (Some head)
    → Refuses e (records_at (shape s.schema) (length file) head) → Refuses e (next_of s file)
unfolding next_of
records_refuse s file head e is h =
    let step = step_some s file (step_of s file) head is in
    let refused = refuses_first e (records_at (shape s.schema) (length file) head) (λ vs. marked s head (found s file head vs)) h in
    rw step.0 (refuses_first e (step_of s file head) answered refused)

-- the marker is refused
pub marker_refuses : {F : Type 0} (s : State) (file : List ℕ) (head : Head) (vs : List Value) (e : ContainerFault F) → next_head_at s.place file ≡ Ok (Some head)
    → records_at (shape s.schema) (length file) head ≡ Ok vs → Refuses e (marker_checked s.marker s.block head) → Refuses e (next_of s file)
unfolding next_of
marker_refuses s file head vs e is records h =
    let step = step_some s file (step_of s file) head is in
    let refused = refuses_behind e (records_at (shape s.schema) (length file) head) (λ vs. marked s head (found s file head vs)) vs records (marked_refuses s head (found s file head vs) e h) in
    rw step.0 (refuses_first e (step_of s file head) answered refused)

-- the block is read
pub next_is : (s : State) (file : List ℕ) (head : Head) (vs : List Value) → next_head_at s.place file ≡ Ok (Some head)
    → records_at (shape s.schema) (length file) head ≡ Ok vs → marker_checked s.marker s.block head ≡ Ok tt
    → next_of s file ≡ Ok (Some (part_of s (length file) head vs), behind s (length file) head)
unfolding next_of
next_is s file head vs is records marker =
    let step = step_some s file (step_of s file) head is in
    let marked = marked_is s head (found s file head vs) marker in
    step.0 ∙ rw (records, marked) refl

-- what is answered is the part of the file
pub block_is_part : (known : List (Option ℕ)) (file bytes : List ℕ) (s : State) (h : BlockHead) (vs : List Value) (block : Block) → FillsKnown known file → h.place ≤ length file → HasPart known h.place bytes → length bytes ≡ h.size
    → block.first ≡ s.first → block.count ≡ h.count → block.place ≡ h.place → block.bytes ≡ bytes → IsPart block (part_of s (length file) (head_of file h) vs)
block_is_part known file bytes s h vs block fills within is size first count place same = record {
  same_first = first;
  same_count = count;
  same_place = place ∙ sym (place_of file h.place within);
  same_bytes = same ∙ part_is_filled known file bytes h.place fills is ∙ ap (λ (n : ℕ). take n (drop h.place file)) size;
}
