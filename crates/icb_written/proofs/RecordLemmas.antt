-- The records of a file as items, where each record is one.
use Rattle.std.proofs.Common.{◌≡◌, ℕ, ℤ, List, [], ◌∷◌, ◌++◌, map, Option, Some, None, Result, Ok, Err, refl, sym, ap, ◌∙◌, append_assoc}
use Rattle.std.specs.List.{AllByRecursion, flat_map}
use Rattle.std.proofs.lemmas.List.{append-nil}
use Rattle.icb_schema.specs.Tree.{Tree, root_form}
use Rattle.icb_avro.specs.declared.value.Value.{Value, out-Value}
use Rattle.icb_container.specs.Blocks.{Part}
use Rattle.icb_container.specs.Content.{Content, content_of}
use Rattle.icb_container.specs.Header.{Header, header_of}
use Rattle.icb_container.specs.Wrong.{Wrong}
use Rattle.icb_fields.specs.Fields as field
use Rattle.icb_table.specs.Laws.{as_it_is}
use Rattle.icb_table.specs.Listed.{Listed}
use Rattle.icb_table.specs.Records.{blocks_behind, named_fields, opened, record_in, records_in, records_of, values_in}
use Rattle.icb_table.specs.Trace.{Stop, Trace, behind, each_in, ended, one, read_of, then_read, through, whole}
use Rattle.icb_table.proofs.ContentLemmas.{all_of, each_whole, records_are_content}
use Rattle.icb_written.specs.Laws.{ShowsAll}

-- ---- what is read one after another

-- what is read behind two parts is read behind the second
pub behind_both : {B : Type 0} (xs : List B) (s : Option Stop) (b c : Trace B) → then_read (behind xs s b) c ≡ behind xs s (then_read b c)
behind_both xs (Some e) b c = refl
behind_both xs None b c = by_stop b.items b.stop c
  where
    by_stop : (ys : List _) (t : Option Stop) (c : Trace _) → behind (xs ++ ys) t c ≡ record { items = xs ++ (behind ys t c).items; stop = (behind ys t c).stop }
    by_stop ys None c = ap (λ zs. record { items = zs; stop = c.stop }) (append_assoc xs ys c.items)
    by_stop ys (Some e) c = refl

pub each_append : {A B : Type 0} (r : A → Trace B) (xs ys : List A) → each_in r (xs ++ ys) ≡ then_read (each_in r xs) (each_in r ys)
unfolding each_in
each_append r [] ys = refl
each_append r (x ∷ xs) ys =
    ap (then_read (r x)) (each_append r xs ys) ∙ sym (behind_both (r x).items (r x).stop (each_in r xs) (each_in r ys))

-- ---- records

-- a value with its place, as the fields of its schema
abbrev placed : Tree → ℕ × Value → ℕ × field.Row
placed t v = (v.0, field.record_of (root_form t) (out-Value v.1))

-- the records of blocks, with their places
abbrev placed_all : Tree → List Part → List (ℕ × field.Row)
placed_all t parts = flat_map (λ part. map (placed t) (values_in t part)) parts

module _ {A : Type 0} (read : field.Row → Result A ℤ) (f : Listed) where
  -- what a record is read as
  abbrev read_item : ℕ × field.Row → Trace (ℕ × A)
  read_item x = read_of f (named_fields x.0 (read x.1))

  plain_values : (t : Tree) (vs : List (ℕ × Value)) → each_in (record_in as_it_is f t) vs ≡ whole (map (placed t) vs)
  unfolding each_in
  plain_values t [] = refl
  plain_values t (v ∷ vs) = ap (then_read (one (placed t v))) (plain_values t vs)

  values_by : (t : Tree) (vs : List (ℕ × Value)) → each_in (record_in read f t) vs ≡ each_in read_item (map (placed t) vs)
  unfolding each_in
  values_by t [] = refl
  values_by t (v ∷ vs) = ap (then_read (read_item (placed t v))) (values_by t vs)

  plain_parts : (t : Tree) (parts : List Part) → each_in (records_in as_it_is f t) parts ≡ whole (placed_all t parts)
  plain_parts t parts = each_whole (records_in as_it_is f t) (λ part. map (placed t) (values_in t part)) parts
      (all_of (λ part. records_in as_it_is f t part ≡ whole (map (placed t) (values_in t part))) parts (λ part. plain_values t (values_in t part)))

  parts_by : (t : Tree) (parts : List Part) → each_in (records_in read f t) parts ≡ each_in read_item (placed_all t parts)
  unfolding each_in
  parts_by t [] = refl
  parts_by t (p ∷ ps) =
      ap (λ x. then_read x (each_in (records_in read f t) ps)) (values_by t (values_in t p))
      ∙ ap (then_read (each_in read_item (map (placed t) (values_in t p)))) (parts_by t ps)
      ∙ sym (each_append read_item (map (placed t) (values_in t p)) (placed_all t ps))

  trace_by : (t : Tree) (ps : Trace Part) → through (records_in read f t) ps ≡ through read_item (through (records_in as_it_is f t) ps)
  trace_by t ps =
      let X : List (ℕ × field.Row) = placed_all t ps.items in
      ap (λ x. then_read x (ended ps.stop)) (parts_by t ps.items ∙ ap (each_in read_item) (sym (append-nil X)))
      ∙ sym (ap (λ x. through read_item (then_read x (ended ps.stop))) (plain_parts t ps.items))

  header_by : (bytes : List ℕ) (h : Result Header Wrong) → opened f (λ x. through (records_in read f x.schema) (blocks_behind f bytes x)) h
      ≡ through read_item (opened f (λ x. through (records_in as_it_is f x.schema) (blocks_behind f bytes x)) h)
  unfolding each_in
  header_by bytes (Err e) = refl
  header_by bytes (Ok h) = trace_by h.schema (blocks_behind f bytes h)

  -- the records of a file are read of its records as they are
  records_by : (bytes : List ℕ) → records_of read f bytes ≡ through read_item (records_of as_it_is f bytes)
  unfolding records_of
  records_by bytes = header_by bytes (header_of bytes)

  -- ---- records that are items

  -- records that are all read, with the items that they are
  record AreItems (xs : List (ℕ × field.Row)) (es : List A) : Type 0 where
    items : List (ℕ × A)
    is : each_in read_item xs ≡ whole items
    same : map (λ r. r.1) items ≡ es

  first_is : (x : ℕ × field.Row) (e : A) (row : field.Row) → x.1 ≡ row → read row ≡ Ok e → read_item x ≡ one (x.0, e)
  first_is x e row same is = ap (λ r. read_of f (named_fields x.0 (read r))) same ∙ ap (λ r. read_of f (named_fields x.0 r)) is

  items_are : (rec : A → field.Row) (xs : List (ℕ × field.Row)) (es : List A) → map (λ r. r.1) xs ≡ map rec es
      → AllByRecursion (λ e. read (rec e) ≡ Ok e) es → AreItems xs es
  unfolding each_in
  items_are rec [] [] same all = record { items = []; is = refl; same = refl }
  items_are rec [] (e ∷ es) same all = absurd (let g : ⊥ = cc in g)
  items_are rec (x ∷ xs) [] same all = absurd (let g : ⊥ = cc in g)
  items_are rec (x ∷ xs) (e ∷ es) same all =
      let here : x.1 ≡ rec e = cc in
      let later : map (λ r. r.1) xs ≡ map rec es = cc in
      let rest = items_are rec xs es later all.1 in
      record {
        items = (x.0, e) ∷ rest.items;
        is = ap (λ t. then_read t (each_in read_item xs)) (first_is x e (rec e) here all.0) ∙ ap (then_read (one (x.0, e))) rest.is;
        same = ap (λ ys. e ∷ ys) rest.same;
      }

  -- a file whose content has a record for each item shows the items
  pub content_shows : (bytes : List ℕ) (c : Content) (g : A → Value) (es : List A) → content_of bytes ≡ Ok c → c.records ≡ map g es
      → AllByRecursion (λ e. read (field.record_of (root_form c.schema) (out-Value (g e))) ≡ Ok e) es
      → ShowsAll (records_of read f bytes) es
  content_shows bytes c g es has are all =
      let rec : A → field.Row = λ e. field.record_of (root_form c.schema) (out-Value (g e)) in
      let found = records_are_content f bytes c has in
      let T : Trace (ℕ × field.Row) = records_of as_it_is f bytes in
      let same : map (λ r. r.1) T.items ≡ map rec es =
      found.same ∙ ap (map (λ v. field.record_of (root_form c.schema) (out-Value v))) are ∙ map_twice c.schema g es in
      let items = items_are rec T.items es same all in
      let is : records_of read f bytes ≡ whole items.items =
      records_by bytes ∙ ap (λ s. then_read (each_in read_item T.items) (ended s)) found.all
      ∙ ap (λ t. then_read t (ended None)) items.is ∙ ap (λ xs. whole xs) (append-nil items.items) in
      record {
        all = ap (λ t. t.stop) is;
        same = ap (λ t. map (λ r. r.1) t.items) is ∙ items.same;
      }
    where
      map_twice : (t : Tree) (g : A → Value) (es : List A) → map (λ v. field.record_of (root_form t) (out-Value v)) (map g es)
          ≡ map (λ e. field.record_of (root_form t) (out-Value (g e))) es
      map_twice t g [] = refl
      map_twice t g (e ∷ es) = ap (λ xs. field.record_of (root_form t) (out-Value (g e)) ∷ xs) (map_twice t g es)
