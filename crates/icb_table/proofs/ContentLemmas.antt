-- The records of a container that has a content are those of its content.
use Rattle.std.specs.Prelude.{◌≡◌, ℕ, zero, suc, ◌+◌, ◌-◌, ◌==◌, Bool, true, false, cond, eqb, if◌then◌else◌, List, [], ◌∷◌, ◌++◌, length, map, take, drop, Option, Some, None, Result, Ok, Err}
use Rattle.std.specs.List.{AllByRecursion, flat_map}
use Rattle.std.specs.Str.{bytes_eq}
use Rattle.std.proofs.Common.{refl, ap, ◌∙◌, sym, subst}
use Rattle.std.proofs.lemmas.List.{append-nil, map-append}
use Rattle.icb_schema.specs.Tree.{Tree, root_form}
use Rattle.icb_schema.specs.Shape.{Shape, shape}
use Rattle.icb_avro.specs.declared.fault.Refusal.{Refusal}
use Rattle.icb_avro.specs.declared.value.Value.{Value, out-Value}
use Rattle.icb_avro.specs.Reading.{Read, items_at, value_at}
use Rattle.icb_avro.specs.Reading as avro
use Rattle.icb_avro.specs.declared.fault.AvroCause.TheVariants as cause
use Rattle.icb_container.specs.Wrong.{Wrong, ◌>>=◌, in_file, refuse}
use Rattle.icb_container.specs.Header.{Header, header_of}
use Rattle.icb_container.specs.Blocks.{Head, Part, State, Step, answered, begins, behind, data_end, data_of, head_at, marked, next_of, part_of, records_at}
use Rattle.icb_container.specs.Content.{Content, blocks_of, by_key, content_from, content_of}
use Rattle.icb_container.specs.Content as content
use Rattle.icb_container.proofs.Steps.{bind_ok, done, done_is, test_ok}
use Rattle.icb_fields.specs.Fields as field
use Rattle.icb_table.specs.Laws.{RecordsAreContent, as_it_is}
use Rattle.icb_table.specs.Listed.{Listed}
use Rattle.icb_table.specs.Records.{blocks_behind, blocks_from, opened, record_in, records_in, records_of, then_blocks, then_values, values_in, values_to}
use Rattle.icb_table.specs.Trace.{Trace, each_in, ended, one, then_read, through, whole}

-- ---- what is read of items that are all read

pub each_whole : {A B : Type 0} (read : A → Trace B) (g : A → List B) (xs : List A)
    → AllByRecursion (λ x. read x ≡ whole (g x)) xs → each_in read xs ≡ whole (flat_map g xs)
unfolding each_in
each_whole read g [] all = refl
each_whole read g (x ∷ xs) all = rw (all.0, each_whole read g xs all.1) refl

-- ---- blocks

-- the blocks behind one
rest_read : (part : Part) (rest : Result (List Part) Wrong) (more : Trace Part) (parts : List Part)
    → ((some : List Part) → rest ≡ Ok some → more ≡ whole some)
    → (rest >>= (λ some. Ok (part ∷ some))) ≡ Ok parts
    → then_read (one part) more ≡ whole parts
rest_read part (Err e) more parts h is = absurd (let g : ⊥ = cc in g)
rest_read part (Ok some) more parts h is =
    let all : part ∷ some ≡ parts = cc in ap (then_read (one part)) (h some refl) ∙ ap whole all

-- the next block and those behind it
step_read : (f : Listed) (most : ℕ) (bytes : List ℕ) (step : Step Part) (parts : List Part)
    → ((s : State) (some : List Part) → blocks_of most s bytes ≡ Ok some → blocks_from f most s bytes ≡ whole some)
    → (step >>= content.then_blocks (λ t. blocks_of most t bytes)) ≡ Ok parts
    → then_blocks f (λ t. blocks_from f most t bytes) step ≡ whole parts
step_read f most bytes (Err e) parts h is = absurd (let g : ⊥ = cc in g)
step_read f most bytes (Ok (None, s)) parts h is = let none : [] ≡ parts = cc in ap whole none
step_read f most bytes (Ok (Some part, s)) parts h is =
    rest_read part (blocks_of most s bytes) (blocks_from f most s bytes) parts (h s) is

pub blocks_read : (f : Listed) (most : ℕ) (s : State) (bytes : List ℕ) (parts : List Part)
    → blocks_of most s bytes ≡ Ok parts → blocks_from f most s bytes ≡ whole parts
unfolding blocks_of blocks_from
blocks_read f zero s bytes parts is = absurd (let g : ⊥ = cc in g)
blocks_read f (suc most) s bytes parts is =
    step_read f most bytes (next_of s bytes) parts (λ t some e. blocks_read f most t bytes some e) is

-- ---- values

abbrev pub read_ok : {A : Type 0} → A → Result A Refusal
read_ok x = Ok x

pub ok_is : {A : Type 0} (x y : A) → read_ok x ≡ read_ok y → x ≡ y
ok_is x y e = cc

-- the values behind one
second_read : (v : Value) (found : Read (List Value)) (tail : List (ℕ × Value)) (vs : List Value) (rest : List ℕ)
    → ((ws : List Value) (r : List ℕ) → found ≡ Ok (ws, r) → map (λ w. w.1) tail ≡ ws)
    → (avro.◌>>=◌ {B = List Value × List ℕ} found (λ xs. Ok (v ∷ xs.0, xs.1))) ≡ Ok (vs, rest)
    → v ∷ map (λ w. w.1) tail ≡ vs
second_read v (Err r) tail vs rest h e = absurd (let g : ⊥ = cc in g)
second_read v (Ok (ws, r)) tail vs rest h e =
    ap (λ xs. v ∷ xs) (h ws r refl) ∙ ap (λ x. x.0) (ok_is (v ∷ ws, r) (vs, rest) e)

-- the first value and those behind it
first_read : (more : List ℕ → List (ℕ × Value)) (place : ℕ) (next : List ℕ → Read (List Value))
    (vs : List Value) (rest : List ℕ) (read : Read Value)
    → ((b : List ℕ) (ws : List Value) (r : List ℕ) → next b ≡ Ok (ws, r) → map (λ w. w.1) (more b) ≡ ws)
    → (avro.◌>>=◌ {B = List Value × List ℕ} read (λ x. avro.◌>>=◌ {B = List Value × List ℕ} (next x.1) (λ xs. Ok (x.0 ∷ xs.0, xs.1)))) ≡ Ok (vs, rest)
    → map (λ w. w.1) (then_values more place read) ≡ vs
first_read more place next vs rest (Err r) h e = absurd (let g : ⊥ = cc in g)
first_read more place next vs rest (Ok x) h e = second_read x.0 (next x.1) (more x.1) vs rest (h x.1) e

-- values one after another, with their places
values_read : (end : ℕ) (sh : Shape) (n : ℕ) (bytes : List ℕ) (vs : List Value) (rest : List ℕ)
    → items_at (value_at sh) n bytes ≡ Ok (vs, rest) → map (λ v. v.1) (values_to end sh n bytes) ≡ vs
unfolding items_at values_to
values_read end sh zero bytes vs rest e = ap (λ x. x.0) (ok_is ([], bytes) (vs, rest) e)
values_read end sh (suc n) bytes vs rest e =
    first_read (values_to end sh n) (end - length bytes) (items_at (value_at sh) n) vs rest (value_at sh bytes)
    (λ b ws r p. values_read end sh n b ws r p) e

-- the records of a block are read of its bytes, by this schema
abbrev pub ReadsPart : Tree → Part → Type 0
ReadsPart t part =
    (rest : List ℕ) × (items_at (value_at (shape t)) part.count part.bytes ≡ Ok (part.records, rest))

-- so they are, and the schema stays
unfoldable pub PartIsRead : State → State → Part → Type 0
PartIsRead s t part = ReadsPart s.schema part × (t.schema ≡ s.schema)

-- its values are its records
part_values : (t : Tree) (part : Part) → ReadsPart t part → map (λ v. v.1) (values_in t part) ≡ part.records
part_values t part read =
    values_read (part.place + length part.bytes) (shape t) part.count part.bytes part.records read.0 read.1

in_file_ok : {A : Type 0} (end : ℕ) (read : Result A Refusal) (x : A) → in_file end read ≡ Ok x → read ≡ Ok x
in_file_ok end (Ok y) x e = cc
in_file_ok end (Err r) x e = absurd (let g : ⊥ = cc in g)

part_is_read : (s : State) (file : List ℕ) (head : Head) (vs : List Value)
    → records_at (shape s.schema) (length file) head ≡ Ok vs
    → PartIsRead s (behind s (length file) head) (part_of s (length file) head vs)
unfolding PartIsRead
part_is_read s file head vs e =
    let items = items_at (value_at (shape s.schema)) head.count (data_of head) in
    let a = bind_ok (in_file (data_end (length file) head) items)
    (λ x. if length x.1 == 0 then Ok x.0 else refuse (data_end (length file) head) x.1 cause.Size) vs e in
    let b = test_ok (length a.0.1 == 0) a.0.0 vs _ a.2 in
    ((a.0.1, in_file_ok (data_end (length file) head) items a.0 a.1 ∙ ap (λ ws. read_ok (ws, a.0.1)) b.1), refl)

pub step_is : {A : Type 0} (s t : State) (x y : A) → done {A = Option A × State} (Some x, s) ≡ done {A = Option A × State} (Some y, t)
    → (x ≡ y) × (s ≡ t)
step_is {A} s t x y e = let a : Option A × State = (Some x, s) in let b : Option A × State = (Some y, t) in
    let p = done_is a b e in
    let q : Some x ≡ Some y = ap (λ (r : Option A × State). r.0) p in (cc, ap (λ (r : Option A × State). r.1) p)

pub none_is : {A B : Type 0} (s t : State) (x : A) → done {A = Option A × State} (None, s) ≡ done {A = Option A × State} (Some x, t) → B
none_is {A} s t x e = let a : Option A × State = (None, s) in let b : Option A × State = (Some x, t) in
    let f : None ≡ Some x = ap (λ (p : Option A × State). p.0) (done_is a b e) in absurd cc

pub next_is_read : (s t : State) (file : List ℕ) (part : Part) → next_of s file ≡ Ok (Some part, t) → PartIsRead s t part
unfolding next_of
next_is_read s t file part e = by_place (eqb s.place (length file)) e
  where
    reads : Head → Result (Part × State) Wrong
    reads head = records_at (shape s.schema) (length file) head >>= (λ vs. marked s head (part_of s (length file) head vs, behind s (length file) head))

    by_head : (h : Result Head Wrong) → (h >>= (λ head. reads head >>= answered)) ≡ Ok (Some part, t) → PartIsRead s t part
    by_head (Err d) e = absurd (let g : ⊥ = cc in g)
    by_head (Ok head) e =
        let a = bind_ok (reads head) answered (Some part, t) e in
        let b = bind_ok (records_at (shape s.schema) (length file) head) (λ vs. marked s head (part_of s (length file) head vs, behind s (length file) head)) a.0 a.1 in
        let c = test_ok (bytes_eq (take 16 (drop head.size head.rest)) s.marker) (part_of s (length file) head b.0, behind s (length file) head) a.0 _ b.2 in
        let d = step_is a.0.1 t a.0.0 part a.2 in
        let is : part_of s (length file) head b.0 ≡ part = ap (λ (p : Part × State). p.0) c.1 ∙ d.0 in
        let stands : behind s (length file) head ≡ t = ap (λ (p : Part × State). p.1) c.1 ∙ d.1 in
        subst (λ u. PartIsRead s u part) stands
        (subst (PartIsRead s (behind s (length file) head)) is (part_is_read s file head b.0 b.1))

    by_place : (b : Bool)
        → cond b (Ok (None, s)) (head_at (length file) (drop s.place file) >>= (λ head. reads head >>= answered)) ≡ Ok (Some part, t)
        → PartIsRead s t part
    by_place true e = none_is s t part e
    by_place false e = by_head (head_at (length file) (drop s.place file)) e

-- the records of all blocks are read of their bytes
abbrev pub ValuesAre : Tree → List Part → Type 0
ValuesAre t parts = AllByRecursion (ReadsPart t) parts

rest_values : (schema : Tree) (part : Part) (t : State) (rest : Result (List Part) Wrong) (parts : List Part)
    → ((some : List Part) → rest ≡ Ok some → ValuesAre t.schema some) → t.schema ≡ schema
    → ReadsPart schema part → (rest >>= (λ some. Ok (part ∷ some))) ≡ Ok parts → ValuesAre schema parts
rest_values schema part t (Err e) parts h same first is = absurd (let g : ⊥ = cc in g)
rest_values schema part t (Ok some) parts h same first is =
    let all : part ∷ some ≡ parts = cc in
    subst (ValuesAre schema) all (first, subst (λ sch. ValuesAre sch some) same (h some refl))

step_values : (s : State) (bytes : List ℕ) (most : ℕ) (step : Step Part) (parts : List Part) → next_of s bytes ≡ step
    → ((t : State) (some : List Part) → blocks_of most t bytes ≡ Ok some → ValuesAre t.schema some)
    → (step >>= content.then_blocks (λ t. blocks_of most t bytes)) ≡ Ok parts → ValuesAre s.schema parts
unfolding PartIsRead
step_values s bytes most (Err e) parts r h is = absurd (let g : ⊥ = cc in g)
step_values s bytes most (Ok (None, t)) parts r h is =
    let none : [] ≡ parts = cc in subst (ValuesAre s.schema) none tt
step_values s bytes most (Ok (Some part, t)) parts r h is =
    let read = next_is_read s t bytes part r in
    rest_values s.schema part t (blocks_of most t bytes) parts (h t) read.1 read.0 is

pub parts_read : (most : ℕ) (s : State) (bytes : List ℕ) (parts : List Part)
    → blocks_of most s bytes ≡ Ok parts → ValuesAre s.schema parts
unfolding blocks_of
parts_read zero s bytes parts is = absurd (let g : ⊥ = cc in g)
parts_read (suc most) s bytes parts is =
    step_values s bytes most (next_of s bytes) parts refl (λ t some e. parts_read most t bytes some e) is

-- ---- records

-- a record with its place, as the fields of its schema
as_fields : Tree → ℕ × Value → ℕ × field.Row
as_fields t v = (v.0, field.record_of (root_form t) (out-Value v.1))

flat_one : {A B : Type 0} (g : A → B) (xs : List A) → flat_map (λ x. g x ∷ []) xs ≡ map g xs
flat_one g [] = refl
flat_one g (x ∷ xs) = ap (λ ys. g x ∷ ys) (flat_one g xs)

pub all_of : {A : Type 0} (P : A → Type 0) (xs : List A) → ((x : A) → P x) → AllByRecursion P xs
all_of P [] h = tt
all_of P (x ∷ xs) h = (h x, all_of P xs h)

part_records : (f : Listed) (t : Tree) (part : Part)
    → records_in as_it_is f t part ≡ whole (map (as_fields t) (values_in t part))
unfolding as_fields
part_records f t part =
    each_whole (record_in as_it_is f t) (λ v. as_fields t v ∷ []) (values_in t part)
    (all_of (λ v. record_in as_it_is f t v ≡ whole (as_fields t v ∷ [])) (values_in t part) (λ v. refl))
    ∙ ap whole (flat_one (as_fields t) (values_in t part))

-- the values of records, whatever their places
map_fields : (t : Tree) (vs : List (ℕ × Value))
    → map (λ r. r.1) (map (as_fields t) vs) ≡ map (λ v. field.record_of (root_form t) (out-Value v)) (map (λ v. v.1) vs)
unfolding as_fields
map_fields t [] = refl
map_fields t (v ∷ vs) = ap (λ rs. field.record_of (root_form t) (out-Value v.1) ∷ rs) (map_fields t vs)

all_fields : (t : Tree) (parts : List Part) → ValuesAre t parts
    → map (λ r. r.1) (flat_map (λ part. map (as_fields t) (values_in t part)) parts)
    ≡ map (λ v. field.record_of (root_form t) (out-Value v)) (flat_map (λ part. part.records) parts)
all_fields t [] all = refl
all_fields t (part ∷ parts) all =
    let rec : Value → field.Row = λ v. field.record_of (root_form t) (out-Value v) in
    map-append (λ r. r.1) (map (as_fields t) (values_in t part)) (flat_map (λ p. map (as_fields t) (values_in t p)) parts)
    ∙ ap (λ rs. rs ++ map (λ r. r.1) (flat_map (λ p. map (as_fields t) (values_in t p)) parts))
    (map_fields t (values_in t part) ∙ ap (map rec) (part_values t part all.0))
    ∙ ap (λ rs. map rec part.records ++ rs) (all_fields t parts all.1)
    ∙ sym (map-append rec part.records (flat_map (λ p. p.records) parts))

pub records_are_content : RecordsAreContent
unfolding content_of records_of
records_are_content f bytes found e =
    let a = bind_ok (header_of bytes) (content_from bytes) found e in
    let h : Header = a.0 in
    let b = bind_ok (blocks_of (suc (length bytes)) (begins bytes h) bytes) (λ parts. Ok (record {
      schema = h.schema;
      properties = by_key h.properties;
      records = flat_map (λ part. part.records) parts;
    })) found a.2 in
    let parts : List Part = b.0 in
    let is : record {
      schema = h.schema;
      properties = by_key h.properties;
      records = flat_map (λ part. part.records) parts;
    } ≡ found = done_is _ found b.2 in
    let blocks : blocks_behind f bytes h ≡ whole parts = blocks_read f (suc (length bytes)) (begins bytes h) bytes parts b.1 in
    let X : List (ℕ × field.Row) = flat_map (λ part. map (as_fields h.schema) (values_in h.schema part)) parts in
    let each : each_in (records_in as_it_is f h.schema) parts ≡ whole X =
    each_whole (records_in as_it_is f h.schema) (λ part. map (as_fields h.schema) (values_in h.schema part)) parts
    (all_of (λ part. records_in as_it_is f h.schema part ≡ whole (map (as_fields h.schema) (values_in h.schema part)))
    parts (λ part. part_records f h.schema part)) in
    let read : records_of as_it_is f bytes ≡ whole (X ++ []) =
    ap (opened f (λ g. through (records_in as_it_is f g.schema) (blocks_behind f bytes g))) a.1
    ∙ ap (through (records_in as_it_is f h.schema)) blocks
    ∙ ap (λ t. then_read t (ended None)) each in
    record {
      all = ap (λ t. t.stop) read;
      same = ap (λ t. map (λ r. r.1) t.items) read ∙ ap (map (λ r. r.1)) (append-nil X)
          ∙ all_fields h.schema parts (parts_read (suc (length bytes)) (begins bytes h) bytes parts b.1)
          ∙ ap (λ c. map (λ v. field.record_of (root_form c.schema) (out-Value v)) c.records) is;
    }
