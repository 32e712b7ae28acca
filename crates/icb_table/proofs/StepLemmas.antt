-- The steps of a reader of records leave what is left of the file's records.
use Rattle.std.specs.Prelude.{◌≡◌, ℕ, zero, suc, ◌+◌, ◌-◌, ◌<◌, ◌≤◌, ◌==◌, ℤ, Bool, true, false, List, [], ◌∷◌, ◌++◌, length, Option, Some, None, Result, Ok, Err, if◌then◌else◌}
use Rattle.std.proofs.Common.{refl, ap, ◌∙◌, sym, subst, arith}
use Rattle.std.proofs.lemmas.List.{append_assoc}
use Rattle.icb_schema.specs.Tree.{Tree, root_form}
use Rattle.icb_schema.specs.Shape.{Shape, shape}
use Rattle.icb_avro.specs.declared.value.Value.{Value, out-Value}
use Rattle.icb_avro.specs.declared.fault.Refusal as avro_fault
use Rattle.icb_avro.specs.Reading.{Read, items_at, value_at}
use Rattle.icb_avro.specs.Reading as avro
use Rattle.icb_container.specs.Wrong.{Wrong, in_file}
use Rattle.icb_container.specs.Wrong as inner
use Rattle.std.proofs.lemmas.Bool.{eqb-true}
use Rattle.icb_container.specs.Header.{Header, header_of}
use Rattle.icb_container.specs.Blocks.{Part, State, Step, begins}
use Rattle.icb_container.specs.Blocks as blocks
use Rattle.icb_fields.specs.Fields as field
use Rattle.icb_reader.specs.Records.{Reading, Refusal, behind, front_of, behind_of, enters, filled_of, filled_within, from_block, in_block, made_at, next_of, of_file, opened, opening_of, past_empty}
use Rattle.icb_reader.specs.Records as refusal
use Rattle.icb_table.specs.Laws.{LeavesRest, OpeningLeavesAll, StepsLeaveRest}
use Rattle.icb_table.specs.Listed.{Listed}
use Rattle.icb_table.specs.Records.{blocks_behind, blocks_from, named_fields, record_in, records_in, records_of, then_values, values_in, values_to}
use Rattle.icb_table.specs.Records as table_records
use Rattle.icb_table.proofs.PassingLemmas.{next_passes}
use Rattle.icb_table.specs.Steps.{IsReached, rest_of, why_of}
use Rattle.icb_table.specs.Trace.{Stop, Trace, each_in, ended, one, read_of, stopped, then_read, through, whole}
use Rattle.icb_table.specs.Trace as trace
use Rattle.icb_table.specs.Why as why
use Rattle.icb_table.proofs.ContentLemmas.{PartIsRead, ReadsPart, next_is_read, ok_is, read_ok}

-- ---- traces

pub then_assoc_by : {A : Type 0} (xs : List A) (p : Option Stop) (ys : List A) (q : Option Stop) (c : Trace A)
    → then_read (trace.behind xs p (record { items = ys; stop = q })) c
    ≡ trace.behind xs p (trace.behind ys q c)
then_assoc_by xs None ys None c = ap (λ items. record { items = items; stop = c.stop }) (append_assoc xs ys c.items)
then_assoc_by xs None ys (Some s) c = refl
then_assoc_by xs (Some s) ys q c = refl

pub then_assoc : {A : Type 0} (a b c : Trace A) → then_read (then_read a b) c ≡ then_read a (then_read b c)
then_assoc a b c = then_assoc_by a.items a.stop b.items b.stop c

pub through_one : {A B : Type 0} (read : A → Trace B) (x : A) (t : Trace A)
    → through read (then_read (one x) t) ≡ then_read (read x) (through read t)
unfolding each_in
through_one read x t = then_assoc (read x) (each_in read t.items) (ended t.stop)

-- ---- in a block

-- what comes behind what is made of a record
made_then : {A : Type 0} → List ℕ → (List ℕ → Reading) → Result A Refusal → Result (Option A × Reading) Refusal
made_then {A} more next made = refusal.◌>>=◌ {B = Option A × Reading} (refusal.◌>>=◌ {B = A × List ℕ} made (λ x. Ok (x, more)))
    (λ x. Ok (Some x.0, next x.1))

-- what a record that is read leaves, by what is made of it
made_leaves : {A : Type 0} (f : Listed) (place : ℕ) (made : Result A ℤ) (more : List ℕ) (left : Trace (ℕ × A))
    (bytes : List ℕ) (read : field.Row → Result A ℤ) (next : List ℕ → Reading) → (next more).last ≡ place
    → rest_of read f (next more) bytes ≡ left → IsReached (next more) bytes
    → LeavesRest read f bytes (then_read (read_of f (named_fields place made)) left) (made_then more next (made_at place made))
unfolding made_then
made_leaves f place (Ok x) more left bytes read next last rest reached =
    (ap (λ p. then_read (one (p, x)) left) (sym last) ∙ ap (then_read (one ((next more).last, x))) (sym rest), reached)
made_leaves f place (Err id) more left bytes read next last rest reached = refl

-- the items behind the first one that is decoded
tail_decoded : (v : Value) (found : Read (List Value)) (values : List Value) (tail : List ℕ)
    → (avro.◌>>=◌ {B = List Value × List ℕ} found (λ xs. Ok (v ∷ xs.0, xs.1))) ≡ Ok (values, tail)
    → (ws : List Value) × (q : List ℕ) × (found ≡ Ok (ws, q))
tail_decoded v (Err r) values tail e = absurd (let g : ⊥ = cc in g)
tail_decoded v (Ok (ws, q)) values tail e = (ws, q, refl)

-- the blocks that are left behind a reading
blocks_left : {A : Type 0} → (field.Row → Result A ℤ) → Listed → State → List ℕ → Trace (ℕ × A)
blocks_left read f s bytes =
    through (records_in read f s.schema) (blocks_from f (suc (length bytes) - s.block) s bytes)

-- the first item, and those behind it
first_got : {X : Type 0} (item : List ℕ → Read X) (n : ℕ) (all : List ℕ) (got : Read X) (x : List X × List ℕ)
    → item all ≡ got → items_at item (suc n) all ≡ Ok x
    → (avro.◌>>=◌ {B = List X × List ℕ} got (λ y. avro.◌>>=◌ {B = List X × List ℕ} (items_at item n y.1) (λ ys. Ok (y.0 ∷ ys.0, ys.1)))) ≡ Ok x
unfolding items_at
first_got {X} item n all got x g e =
    subst (λ h. (avro.◌>>=◌ {B = List X × List ℕ} h (λ y. avro.◌>>=◌ {B = List X × List ℕ} (items_at item n y.1) (λ ys. Ok (y.0 ∷ ys.0, ys.1)))) ≡ Ok x) g e

-- what is left behind a record
rest_is : {A : Type 0} (read : field.Row → Result A ℤ) (f : Listed) (r : Reading) (more : List ℕ) (n : ℕ) (bytes : List ℕ)
    → r.left - 1 ≡ n → rest_of read f (behind r more) bytes
    ≡ then_read (each_in (record_in read f r.state.schema) (values_to r.end (shape r.state.schema) n more)) (blocks_left read f r.state bytes)
unfolding rest_of blocks_left
rest_is read f r more n bytes count =
    ap (λ k. then_read (each_in (record_in read f r.state.schema) (values_to r.end (shape r.state.schema) k more))
    (blocks_left read f r.state bytes)) count

-- what a reading leaves whose block has a record left, by what is read of that
value_leaves : {A : Type 0} (read : field.Row → Result A ℤ) (f : Listed) (bytes : List ℕ) (r : Reading) (n : ℕ)
    (got : Read Value) → r.left ≡ suc n → IsReached r bytes → value_at (shape r.state.schema) r.rest ≡ got
    → LeavesRest read f bytes (then_read (each_in (record_in read f r.state.schema)
    (then_values (values_to r.end (shape r.state.schema) n) (r.end - length r.rest) got)) (blocks_left read f r.state bytes))
    (refusal.◌>>=◌ {B = Option A × Reading} (refusal.◌>>=◌ {B = A × List ℕ} (of_file (in_file r.end got))
    (λ v. refusal.◌>>=◌ {B = A × List ℕ} (made_at (r.end - length r.rest) (read (field.record_of (root_form r.state.schema) (out-Value v.0))))
    (λ x. Ok (x, v.1)))) (λ x. Ok (Some x.0, behind r x.1)))
unfolding each_in made_then
value_leaves {A} read f bytes r n (Err e) some reached is =
    absurd (let h = first_got (value_at (shape r.state.schema)) n r.rest (Err e) (reached.values, reached.behind) is
    (subst (λ k. items_at (value_at (shape r.state.schema)) k r.rest ≡ Ok (reached.values, reached.behind)) some reached.decoded) in
    let g : ⊥ = cc in g)
value_leaves {A} read f bytes r n (Ok v) some reached is =
    let sh : Shape = shape r.state.schema in
    let place : ℕ = r.end - length r.rest in
    let next : Reading = behind r v.1 in
    let count : r.left - 1 ≡ n = omega (arith, some) in
    let rec : ℕ × Value → Trace (ℕ × A) = record_in read f r.state.schema in
    let left : Trace (ℕ × A) = then_read (each_in rec (values_to r.end sh n v.1)) (blocks_left read f r.state bytes) in
    let tail = tail_decoded v.0 (items_at (value_at sh) n v.1) reached.values reached.behind
    (first_got (value_at sh) n r.rest (Ok v) (reached.values, reached.behind) is
    (subst (λ k. items_at (value_at sh) k r.rest ≡ Ok (reached.values, reached.behind)) some reached.decoded)) in
    let reached_next : IsReached next bytes = record {
      values = tail.0;
      behind = tail.1;
      decoded = subst (λ k. items_at (value_at sh) k v.1 ≡ Ok (tail.0, tail.1)) (sym count) tail.2;
      passed = reached.passed;
      within = reached.within;
    } in
    let made : Result A ℤ = read (field.record_of (root_form r.state.schema) (out-Value v.0)) in
    subst (λ t. LeavesRest read f bytes t (made_then v.1 (behind r) (made_at place made)))
    (sym (then_assoc (rec (place, v.0)) (each_in rec (values_to r.end sh n v.1)) (blocks_left read f r.state bytes)))
    (made_leaves f place made v.1 left bytes read (behind r) refl
    (rest_is read f r v.1 n bytes count) reached_next)

-- a record of the block is read
in_block_leaves : {A : Type 0} (read : field.Row → Result A ℤ) (f : Listed) (bytes : List ℕ) (r : Reading) (n : ℕ)
    → r.left ≡ suc n → IsReached r bytes
    → LeavesRest read f bytes (rest_of read f r bytes) (in_block read r)
unfolding rest_of front_of blocks_left values_to
in_block_leaves read f bytes r n some reached =
    subst (λ k. LeavesRest read f bytes (then_read (each_in (record_in read f r.state.schema)
    (values_to r.end (shape r.state.schema) k r.rest)) (blocks_left read f r.state bytes)) (in_block read r)) (sym some)
    (value_leaves read f bytes r n (value_at (shape r.state.schema) r.rest) some reached refl)

-- ---- the next block

-- what the next block that has records leaves
FilledLeaves : {A : Type 0} → (field.Row → Result A ℤ) → Listed → List ℕ → State → Step Part → Type 0
FilledLeaves read f bytes s (Ok (Some part, t)) =
    (blocks_left read f s bytes ≡ then_read (records_in read f s.schema part) (blocks_left read f t bytes))
    × (t.schema ≡ s.schema) × ReadsPart s.schema part × ((part.count == 0) ≡ false)
    × (t.block ≤ t.place) × (t.place ≤ length bytes)
FilledLeaves read f bytes s (Ok (None, t)) = blocks_left read f s bytes ≡ whole []
FilledLeaves read f bytes s (Err w) = blocks_left read f s bytes ≡ stopped f (why.no_container w)

-- a block of no records adds nothing
empty_adds : {A : Type 0} (read : field.Row → Result A ℤ) (f : Listed) (t : Tree) (part : Part) (rest : Trace (ℕ × A))
    → part.count ≡ 0 → then_read (records_in read f t part) rest ≡ rest
unfolding values_to each_in
empty_adds {A} read f t part rest none =
    ap (λ k. then_read (each_in {B = ℕ × A} (record_in read f t) (values_to (part.place + length part.bytes) (shape t) k part.bytes)) rest) none

zero_is : (n : ℕ) → (n == 0) ≡ true → n ≡ 0
zero_is n e = eqb-true n 0 e

-- what is left from a block on is that block and what is left behind it
blocks_then : {A : Type 0} (read : field.Row → Result A ℤ) (f : Listed) (bytes : List ℕ) (s t : State) (part : Part) (more : ℕ)
    → suc more ≡ suc (length bytes) - s.block → blocks.next_of s bytes ≡ Ok (Some part, t) → t.schema ≡ s.schema
    → t.block ≡ suc s.block
    → blocks_left read f s bytes ≡ then_read (records_in read f s.schema part) (blocks_left read f t bytes)
unfolding blocks_left blocks_from
blocks_then {A} read f bytes s t part more fuel step same next =
    let R : Part → Trace (ℕ × A) = records_in read f s.schema in
    let less : more ≡ suc (length bytes) - t.block = omega (arith, fuel, next) in
    ap (λ k. through R (blocks_from f k s bytes)) (sym fuel)
    ∙ ap (λ o. through R (table_records.then_blocks f (λ u. blocks_from f more u bytes) o)) step
    ∙ through_one R part (blocks_from f more t bytes)
    ∙ ap (λ k. then_read (R part) (through R (blocks_from f k t bytes))) less
    ∙ ap (λ sch. then_read (R part) (through (records_in read f sch) (blocks_from f (suc (length bytes) - t.block) t bytes))) (sym same)

-- what is left at two places alike
leaves_as : {A : Type 0} (read : field.Row → Result A ℤ) (f : Listed) (bytes : List ℕ) (s t : State) (step : Step Part)
    → blocks_left read f s bytes ≡ blocks_left read f t bytes → t.schema ≡ s.schema
    → FilledLeaves read f bytes t step → FilledLeaves read f bytes s step
unfolding FilledLeaves
leaves_as read f bytes s t (Ok (Some part, u)) same schema h = (
  same ∙ h.0 ∙ ap (λ sch. then_read (records_in read f sch part) (blocks_left read f u bytes)) schema,
  h.1 ∙ schema,
  subst (λ sch. ReadsPart sch part) schema h.2,
  h.3,
  h.4,
  h.5,
)
leaves_as read f bytes s t (Ok (None, u)) same schema h = same ∙ h
leaves_as read f bytes s t (Err w) same schema h = same ∙ h

-- a block that was passed, by whether it has records
filled_count : {A : Type 0} (read : field.Row → Result A ℤ) (f : Listed) (bytes : List ℕ) (more : ℕ) (s t : State) (part : Part)
    (none : Bool) → (part.count == 0) ≡ none
    → blocks_left read f s bytes ≡ then_read (records_in read f s.schema part) (blocks_left read f t bytes)
    → t.schema ≡ s.schema → ReadsPart s.schema part → t.block ≤ t.place → t.place ≤ length bytes
    → FilledLeaves read f bytes t (filled_within more t bytes)
    → FilledLeaves read f bytes s (if none then filled_within more t bytes else Ok (Some part, t))
unfolding FilledLeaves
filled_count read f bytes more s t part false is left schema reads on within h =
    (left, schema, reads, is, on, within)
filled_count read f bytes more s t part true is left schema reads on within h =
    leaves_as read f bytes s t (filled_within more t bytes)
    (left ∙ empty_adds read f s.schema part (blocks_left read f t bytes) (zero_is part.count is)) schema h

-- where there is no further block, and where the next one is refused
ended_left : {A : Type 0} (read : field.Row → Result A ℤ) (f : Listed) (bytes : List ℕ) (s : State) (more : ℕ) (step : Step Part)
    → suc more ≡ suc (length bytes) - s.block → blocks.next_of s bytes ≡ step
    → blocks_left read f s bytes
    ≡ through (records_in read f s.schema) (table_records.then_blocks f (λ u. blocks_from f more u bytes) step)
unfolding blocks_left blocks_from
ended_left read f bytes s more step fuel is =
    ap (λ k. through (records_in read f s.schema) (blocks_from f k s bytes)) (sym fuel)
    ∙ ap (λ o. through (records_in read f s.schema) (table_records.then_blocks f (λ u. blocks_from f more u bytes) o)) is

-- the next block, where it is said what it is
filled_by : {A : Type 0} (read : field.Row → Result A ℤ) (f : Listed) (bytes : List ℕ) (more : ℕ) (s : State) (step : Step Part)
    → s.block ≤ s.place → s.place ≤ length bytes → suc more ≡ suc (length bytes) - s.block
    → blocks.next_of s bytes ≡ step
    → ((t : State) → t.block ≤ t.place → t.place ≤ length bytes → more ≡ suc (length bytes) - t.block
    → FilledLeaves read f bytes t (filled_within more t bytes))
    → FilledLeaves read f bytes s (inner.◌>>=◌ step (past_empty (λ t. filled_within more t bytes)))
unfolding FilledLeaves each_in PartIsRead
filled_by read f bytes more s (Err w) passed within fuel is h = ended_left read f bytes s more (Err w) fuel is
filled_by read f bytes more s (Ok (None, t)) passed within fuel is h = ended_left read f bytes s more (Ok (None, t)) fuel is
filled_by read f bytes more s (Ok (Some part, t)) passed within fuel is h =
    let passes = next_passes s t bytes part within is in
    let next = passes.next in
    let ahead = passes.ahead in
    let reads = next_is_read s t bytes part is in
    let left = blocks_then read f bytes s t part more fuel is reads.1 next in
    let on : t.block ≤ t.place = omega (arith, next, ahead, passed) in
    let less : more ≡ suc (length bytes) - t.block = omega (arith, fuel, next) in
    filled_count read f bytes more s t part (part.count == 0) refl left reads.1 reads.0 on passes.within
    (h t on passes.within less)

filled_leaves : {A : Type 0} (read : field.Row → Result A ℤ) (f : Listed) (bytes : List ℕ) (k : ℕ) (s : State)
    → s.block ≤ s.place → s.place ≤ length bytes → k ≡ suc (length bytes) - s.block
    → FilledLeaves read f bytes s (filled_within k s bytes)
unfolding filled_within
filled_leaves read f bytes zero s passed within fuel =
    absurd (let g : ⊥ = omega (arith, passed, within, fuel) in g)
filled_leaves read f bytes (suc more) s passed within fuel =
    filled_by read f bytes more s (blocks.next_of s bytes) passed within fuel refl
    (λ t on in_file fuel_left. filled_leaves read f bytes more t on in_file fuel_left)

above_zero : (n : ℕ) → (n == 0) ≡ false → n ≡ suc (n - 1)
above_zero zero e = absurd (let g : ⊥ = cc in g)
above_zero (suc n) e = omega arith

-- before the first record of a block that block is left, and what is behind it
enters_is : {A : Type 0} (read : field.Row → Result A ℤ) (f : Listed) (bytes : List ℕ) (last : ℕ) (t : State) (part : Part)
    → then_read (records_in read f t.schema part) (blocks_left read f t bytes) ≡ rest_of read f (enters last t part) bytes
unfolding rest_of blocks_left
enters_is read f bytes last t part = refl

-- behind the last record of a block the blocks behind it are left
empty_rest : {A : Type 0} (read : field.Row → Result A ℤ) (f : Listed) (bytes : List ℕ) (r : Reading) → r.left ≡ 0
    → rest_of read f r bytes ≡ blocks_left read f r.state bytes
unfolding rest_of blocks_left values_to each_in
empty_rest {A} read f bytes r none =
    ap (λ k. then_read (each_in {B = ℕ × A} (record_in read f r.state.schema) (values_to r.end (shape r.state.schema) k r.rest))
    (blocks_left read f r.state bytes)) none

-- the first record of the next block
from_block_leaves : {A : Type 0} (read : field.Row → Result A ℤ) (f : Listed) (bytes : List ℕ) (r : Reading) (step : Step Part)
    → FilledLeaves read f bytes r.state step
    → LeavesRest read f bytes (blocks_left read f r.state bytes) (refusal.◌>>=◌ (of_file step) (from_block read r))
unfolding FilledLeaves
from_block_leaves read f bytes r (Err w) h = h
from_block_leaves read f bytes r (Ok (None, t)) h = h
from_block_leaves read f bytes r (Ok (Some part, t)) h =
    let r_next : Reading = enters r.last t part in
    let read_part : ReadsPart t.schema part = subst (λ sch. ReadsPart sch part) (sym h.1) h.2 in
    let reached : IsReached r_next bytes = record {
      values = part.records;
      behind = read_part.0;
      decoded = read_part.1;
      passed = h.4;
      within = h.5;
    } in
    let some : part.count ≡ suc (part.count - 1) = above_zero part.count h.3 in
    subst (λ t. LeavesRest read f bytes t (in_block read r_next))
    (sym (h.0 ∙ ap (λ sch. then_read (records_in read f sch part) (blocks_left read f t bytes)) (sym h.1)
    ∙ enters_is read f bytes r.last t part))
    (in_block_leaves read f bytes r_next (part.count - 1) some reached)

pub steps_leave_rest : {A : Type 0} (read : field.Row → Result A ℤ) → StepsLeaveRest read
unfolding next_of behind_of
steps_leave_rest read f bytes r reached = by_left (r.left == 0) refl
  where
    by_left : (none : Bool) → (r.left == 0) ≡ none
        → LeavesRest read f bytes (rest_of read f r bytes)
        (if none then refusal.◌>>=◌ (of_file (filled_of r.state bytes)) (from_block read r) else in_block read r)
    by_left false e = in_block_leaves read f bytes r (r.left - 1) (above_zero r.left e) reached
    by_left true e =
        subst (λ t. LeavesRest read f bytes t (refusal.◌>>=◌ (of_file (filled_of r.state bytes)) (from_block read r)))
        (sym (empty_rest read f bytes r (zero_is r.left e)))
        (from_block_leaves read f bytes r (filled_of r.state bytes)
        (filled_leaves read f bytes (suc (length bytes) - r.state.block) r.state reached.passed reached.within refl))

-- ---- opening

opened_by : {A : Type 0} (read : field.Row → Result A ℤ) (f : Listed) (bytes : List ℕ) (header : Result Header Wrong) (r : Reading)
    → (refusal.◌>>=◌ {B = Reading} (of_file header) (λ h. Ok (opened (begins bytes h)))) ≡ Ok r
    → (table_records.opened f (λ h. through (records_in read f h.schema) (blocks_behind f bytes h)) header ≡ rest_of read f r bytes)
    × IsReached r bytes
unfolding rest_of values_to each_in items_at
opened_by {A} read f bytes (Err w) r e = absurd (let g : ⊥ = cc in g)
opened_by {A} read f bytes (Ok h) r e =
    let is : opened (begins bytes h) ≡ r = reading_is (opened (begins bytes h)) r e in
    let fuel : suc (length bytes) ≡ suc (length bytes) - 0 = omega arith in
    subst (λ q. (through (records_in read f h.schema) (blocks_behind f bytes h) ≡ rest_of read f q bytes) × IsReached q bytes) is (
      ap (λ k. through (records_in read f h.schema) (blocks_from f k (begins bytes h) bytes)) fuel,
      record { values = []; behind = []; decoded = refl; passed = omega arith; within = omega arith },
    )
  where
    reading_is : (p q : Reading) → (let a : Result Reading Refusal = Ok p in a) ≡ Ok q → p ≡ q
    reading_is p q e = cc

pub opening_leaves_all : {A : Type 0} (read : field.Row → Result A ℤ) → OpeningLeavesAll read
unfolding opening_of records_of
opening_leaves_all read f bytes r e = opened_by read f bytes (header_of bytes) r e
