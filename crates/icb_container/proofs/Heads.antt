-- Steps, by what stands in front of the next block.
use Rattle.std.proofs.Common.{◌≡◌, ◌≢◌, ℕ, suc, ◌+◌, ◌-◌, ◌<◌, ◌≤◌, eqb, Bool, true, false, not, cond, List, [], length, take, drop, Option, Some, None, Result, Ok, Err, refl, sym, ap, ◌∙◌, arith}
use Rattle.std.specs.Str.{bytes_eq}
use Rattle.std.proofs.lemmas.Bool.{eq-eqb, eqb-true, ne_eqb}
use Rattle.std.proofs.lemmas.List.{drop-drop, drop_all}
use Rattle.icb_avro.specs.declared.fault.AvroCause.TheVariants as cause
use Rattle.icb_avro.specs.Reading.{long_at, number_at, varint_at}
use Rattle.icb_base.specs.Contents.{FillsKnown, HasPart}
use Rattle.icb_base.proofs.LawLemmas.{part_is_filled}
use Rattle.icb_container.specs.declared.fault.ContainerFault.{ContainerFault}
use Rattle.icb_container.specs.Wrong as wrong
use Rattle.icb_container.specs.Wrong.{Wrong, ◌>>=◌}
use Rattle.icb_container.specs.Blocks.{Head, State, Step, answered, at_block, behind, head_at, marked, natural_at}
use Rattle.icb_container.specs.declared.numbers.BlockHead.{BlockHead}
use Rattle.icb_container.specs.Opened.{Opened, state_of}
use Rattle.icb_container.specs.Known.{KnownFromTo}
use Rattle.icb_container.specs.Answers.{HeadIsKnown, MarkerIsKnown, Refuses}
use Rattle.icb_container.specs.Items.{head_of, marker_checked, next_head_at, passed}
use Rattle.icb_container.proofs.Knowledge.{place_of}
use Rattle.icb_container.proofs.Refused.{refuses_as}

-- no block is at the end
pub next_at_end : (at : ℕ) (file : List ℕ) → at ≡ length file → next_head_at at file ≡ Ok None
next_at_end at file e = rw (eq-eqb at (length file) e) refl

-- before the end the block's head is read
pub next_inside : (at : ℕ) (file : List ℕ) → at ≢ length file → next_head_at at file ≡ (head_at (length file) (drop at file) >>= (λ head. Ok (Some head)))
next_inside at file ne = rw (ne_eqb at (length file) ne) refl

nothing_is_read : (end : ℕ) → head_at end [] ≡ Err (wrong.avro (end - 0) cause.End)
unfolding head_at natural_at long_at number_at varint_at
nothing_is_read end = refl

-- behind the end nothing is there
pub next_beyond : (at : ℕ) (file : List ℕ) → length file < at → next_head_at at file ≡ Err (wrong.avro (length file) cause.End)
next_beyond at file h =
    let place : length file - 0 ≡ length file = omega arith in
    next_inside at file (λ e. omega (arith, e)) ∙ rw (drop_all at file (omega arith), nothing_is_read (length file), place) refl

by_place : {A : Type 0} (s : State) (file : List ℕ) (step : Head → Result (A × State) Wrong) (P : Result (Option Head) Wrong → Step A → Type 0)
    → P (Ok None) (Ok (None, s)) → P (head_at (length file) (drop s.place file) >>= (λ head. Ok (Some head))) (head_at (length file) (drop s.place file) >>= (λ head. step head >>= answered))
    → P (next_head_at s.place file) (at_block s file step)
by_place s file step P at_end inside = by_test (eqb s.place (length file))
  where
    by_test : (b : Bool) → P (cond b (Ok None) (head_at (length file) (drop s.place file) >>= (λ head. Ok (Some head))))
        (cond b (Ok (None, s)) (head_at (length file) (drop s.place file) >>= (λ head. step head >>= answered)))
    by_test true = at_end
    by_test false = inside

-- a step at the end
pub step_none : {A : Type 0} (s : State) (file : List ℕ) (step : Head → Result (A × State) Wrong) → next_head_at s.place file ≡ Ok None → at_block s file step ≡ Ok (None, s)
step_none {A} s file step e = by_place s file step (λ n r. n ≡ Ok None → r ≡ Ok (None, s)) (λ _. refl) (λ f. by_head (head_at (length file) (drop s.place file)) f) e
  where
    by_head : (h : Result Head Wrong) → (h >>= (λ head. Ok (Some head))) ≡ Ok None → (h >>= (λ head. step head >>= answered)) ≡ Ok (None, s)
    by_head (Ok h) f = absurd cc
    by_head (Err w) f = absurd cc

-- a step before the end
pub step_some : {A : Type 0} (s : State) (file : List ℕ) (step : Head → Result (A × State) Wrong) (head : Head) → next_head_at s.place file ≡ Ok (Some head)
    → (at_block s file step ≡ (step head >>= answered)) × (head_at (length file) (drop s.place file) ≡ Ok head)
step_some s file step head e = by_place s file step (λ n r. n ≡ Ok (Some head) → (r ≡ (step head >>= answered)) × (head_at (length file) (drop s.place file) ≡ Ok head))
    (λ f. absurd cc) (λ f. by_head (head_at (length file) (drop s.place file)) f) e
  where
    by_head : (h : Result Head Wrong) → (h >>= (λ head. Ok (Some head))) ≡ Ok (Some head) → ((h >>= (λ head. step head >>= answered)) ≡ (step head >>= answered)) × (h ≡ Ok head)
    by_head (Ok h) f = let e : h ≡ head = cc in (ap (λ (x : Head). step x >>= answered) e, ap Ok e)
    by_head (Err w) f = absurd cc

-- a step that is refused before the records
pub step_refuses : {A F : Type 0} (s : State) (file : List ℕ) (step : Head → Result (A × State) Wrong) (e : ContainerFault F) → Refuses e (next_head_at s.place file) → Refuses e (at_block s file step)
step_refuses s file step e h = refuses_as e (next_head_at s.place file) (at_block s file step)
    (λ w is. by_place s file step (λ n r. n ≡ Err w → r ≡ Err w) (λ f. absurd cc) (λ f. by_head w (head_at (length file) (drop s.place file)) f) is) h
  where
    by_head : (w : Wrong) (h : Result Head Wrong) → (h >>= (λ head. Ok (Some head))) ≡ Err w → (h >>= (λ head. step head >>= answered)) ≡ Err w
    by_head w (Ok h) f = absurd cc
    by_head w (Err v) f = let e : v ≡ w = cc in ap Err e

-- the head of the block at a place is known where it was read
pub head_is_known : (known : List (Option ℕ)) (file : List ℕ) (at : ℕ) (h : BlockHead) → h.place ≤ length file → head_at (length file) (drop at file) ≡ Ok (head_of file h)
    → KnownFromTo known at h.place → HeadIsKnown known file at
head_is_known known file at h within e there =
    let place : length file - length (drop h.place file) ≡ h.place = place_of file h.place within in
    rw (e, place) there

-- at the end there is none
no_head : (at : ℕ) (file : List ℕ) → next_head_at at file ≡ Ok None → (w : Wrong) × (head_at (length file) (drop at file) ≡ Err w)
no_head at file e = by_test (eqb at (length file)) refl e
  where
    by_head : (h : Result Head Wrong) → (h >>= (λ head. Ok (Some head))) ≡ Ok None → ⊥
    by_head (Ok h) f = absurd cc
    by_head (Err w) f = absurd cc

    by_test : (b : Bool) → eqb at (length file) ≡ b → cond b (Ok None) (head_at (length file) (drop at file) >>= (λ head. Ok (Some head))) ≡ Ok None
        → (w : Wrong) × (head_at (length file) (drop at file) ≡ Err w)
    by_test true t f =
        let same = eqb-true at (length file) t in
        (wrong.avro (length file - 0) cause.End, rw (drop_all at file (omega arith)) (nothing_is_read (length file)))
    by_test false t f = absurd (by_head (head_at (length file) (drop at file)) f)

pub no_head_is_known : (known : List (Option ℕ)) (file : List ℕ) (at : ℕ) → next_head_at at file ≡ Ok None → HeadIsKnown known file at
no_head_is_known known file at e = let none = no_head at file e in rw none.1 tt

pub no_marker_is_known : (known : List (Option ℕ)) (file : List ℕ) (at : ℕ) → next_head_at at file ≡ Ok None → MarkerIsKnown known file at
no_marker_is_known known file at e = let none = no_head at file e in rw none.1 tt

-- the marker behind the block at a place is known where it was read
pub marker_is_known : (known : List (Option ℕ)) (file : List ℕ) (at : ℕ) (h : BlockHead) → h.place ≤ length file → head_at (length file) (drop at file) ≡ Ok (head_of file h)
    → KnownFromTo known (h.place + h.size) (h.place + h.size + 16) → MarkerIsKnown known file at
marker_is_known known file at h within e there =
    let place : length file - length (drop h.place file) ≡ h.place = place_of file h.place within in
    rw (e, place) there

-- ---- the marker

abbrev done : Unit {0}
done = tt

-- where the marker is the header's the answer comes
pub marked_is : {A : Type 0} (s : State) (head : Head) (answer : A) → marker_checked s.marker s.block head ≡ Ok tt → marked s head answer ≡ Ok answer
marked_is s head answer e = by_test (bytes_eq (take 16 (drop head.size head.rest)) s.marker) e
  where
    by_test : (b : Bool) → cond b (Ok done) (Err (wrong.sync s.block)) ≡ Ok done → cond b (Ok answer) (Err (wrong.sync s.block)) ≡ Ok answer
    by_test true f = refl
    by_test false f = absurd cc

-- where it isn't the answer is refused
pub marked_refuses : {A F : Type 0} (s : State) (head : Head) (answer : A) (e : ContainerFault F) → Refuses e (marker_checked s.marker s.block head) → Refuses e (marked s head answer)
marked_refuses s head answer e h = refuses_as e (marker_checked s.marker s.block head) (marked s head answer) (λ w is. by_test w (bytes_eq (take 16 (drop head.size head.rest)) s.marker) is) h
  where
    by_test : (w : Wrong) (b : Bool) → cond b (Ok done) (Err (wrong.sync s.block)) ≡ Err w → cond b (Ok answer) (Err (wrong.sync s.block)) ≡ Err w
    by_test w true f = absurd cc
    by_test w false f = let e : wrong.sync s.block ≡ w = cc in ap Err e

-- where a container stands behind a block
pub state_behind : (c : Opened) (file : List ℕ) (h : BlockHead) → h.place ≤ length file → behind (state_of c) (length file) (head_of file h) ≡ state_of (passed c h)
state_behind c file h within =
    let place : length file - length (drop h.place file) ≡ h.place = place_of file h.place within in
    let next : suc c.block ≡ c.block + 1 = omega arith in
    rw (place, next) refl

-- the 16 bytes that were read are the marker, or aren't
pub marker_is : (known : List (Option ℕ)) (file found marker : List ℕ) (block : ℕ) (h : BlockHead) (b : Bool) → FillsKnown known file → HasPart known (h.place + h.size) found → length found ≡ 16
    → b ≡ not (bytes_eq found marker) → marker_checked marker block (head_of file h) ≡ cond b (Err (wrong.sync block)) (Ok tt)
marker_is known file found marker block h b fills is size e =
    let at : found ≡ take 16 (drop h.size (drop h.place file)) =
    part_is_filled known file found (h.place + h.size) fills is ∙ ap (λ (n : ℕ). take n (drop (h.place + h.size) file)) size ∙ ap (take 16) (sym (drop-drop h.size h.place file)) in
    rw (← at, e) (by_test (bytes_eq found marker))
  where
    by_test : (t : Bool) → cond t (Ok done) (Err (wrong.sync block)) ≡ cond (not t) (Err (wrong.sync block)) (Ok done)
    by_test true = refl
    by_test false = refl
