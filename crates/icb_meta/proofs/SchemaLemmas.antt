-- The schemas that metadata shows are schemas of tables.
use Rattle.std.proofs.Common.{◌≡◌, ℕ, ℤ, List, [], ◌∷◌, length, map, Bool, true, ◌&&◌, nat_le}
use Rattle.std.proofs.Common.{Option, Some, None, option_map, option_and_then, Ok, refl, codes, bytes_eq, subst}
use Rattle.std.specs.List.{list_all}
use Rattle.std.specs.Ordering.{int_eq}
use Rattle.std.specs.Str.Parse.{digits_value}
use Rattle.std.proofs.lemmas.Bool.{and_parts, leb-true}
use Rattle.serde_json.specs.Data.{Data}
use Rattle.serde_json.specs.Find.{as_bool, as_str}
use Rattle.icb_schema.specs.Names.{are_distinct}
use Rattle.icb_schema.specs.Reading.{all_read, as_list, needed, only_if}
use Rattle.icb_types.specs.Columns.{AreColumns, are_distinct_ids, is_id, is_kind, is_size}
use Rattle.icb_types.specs.Lines.{int_in, long_in}
use Rattle.icb_types.specs.Words.{after_prefix, before_suffix, fixed_word, has_plain_digits, kind_of_word, size_in}
use Rattle.icb_types.specs.declared.columns.ColType.TheVariants as kind
use Rattle.icb_types.specs.declared.columns.Column.{Column}
use Rattle.icb_types.specs.declared.columns.TableSchema.{TableSchema}
use Rattle.icb_meta.specs.Forms.{are_columns, column_in, is_plain_object, order_named, orders_in, schema_in, schema_named, schemas_in}
use Rattle.icb_meta.proofs.KnownLemmas.{IfShown, IfThere, either, if_true, member_known, shown_any, shown_then, then_any, then_holds}
use Rattle.icb_meta.specs.Shown.{chosen_by, fields_of, heading_of, layout_of, member, or_field, state_of}
use Rattle.icb_meta.specs.declared.fields.Fields.{Fields}
use Rattle.icb_meta.specs.declared.fields.Layout.{Layout}

-- ---- kinds

size_known : (digits : List ℕ) → IfThere (λ n. is_size n ≡ true) (size_in digits)
unfolding size_in
size_known digits =
    let n : ℕ = digits_value 10 digits in
    if_true (λ k. is_size k ≡ true) (has_plain_digits digits && is_size n) n (λ passed. (and_parts (has_plain_digits digits) (is_size n) passed).1)

fixed_known : (word : List ℕ) → IfThere (λ k. is_kind k ≡ true) (fixed_word word)
unfolding fixed_word
fixed_known word = by_digits (option_and_then (before_suffix (codes "]")) (after_prefix (codes "fixed[") word))
  where
    by_size : (o : Option ℕ) → IfThere (λ n. is_size n ≡ true) o → IfThere (λ k. is_kind k ≡ true) (option_map kind.Fixed o)
    by_size None h = tt
    by_size (Some n) h = h

    by_digits : (o : Option (List ℕ)) → IfThere (λ k. is_kind k ≡ true) (option_map kind.Fixed (option_and_then size_in o))
    by_digits None = tt
    by_digits (Some digits) = by_size (size_in digits) (size_known digits)

kind_known : (word : List ℕ) → IfThere (λ k. is_kind k ≡ true) (kind_of_word word)
unfolding kind_of_word
kind_known word =
    either _ (bytes_eq word (codes "boolean")) _ _ refl (
    either _ (bytes_eq word (codes "int")) _ _ refl (
    either _ (bytes_eq word (codes "long")) _ _ refl (
    either _ (bytes_eq word (codes "date")) _ _ refl (
    either _ (bytes_eq word (codes "time")) _ _ refl (
    either _ (bytes_eq word (codes "timestamp")) _ _ refl (
    either _ (bytes_eq word (codes "timestamptz")) _ _ refl (
    either _ (bytes_eq word (codes "string")) _ _ refl (
    either _ (bytes_eq word (codes "uuid")) _ _ refl (
    either _ (bytes_eq word (codes "binary")) _ _ refl (fixed_known word))))))))))

-- ---- columns

-- a column with an id and a kind within their limits
abbrev pub IsColumn : Column → Type 0
IsColumn c = (is_id c.id ≡ true) × (is_kind c.kind ≡ true)

id_known : (o : Option ℤ) → IfThere (λ id. is_id id ≡ true) (option_and_then (only_if is_id) o)
id_known o = then_any (λ id. is_id id ≡ true) (only_if is_id) o (λ id. if_true (λ z. is_id z ≡ true) (is_id id) id (λ passed. passed))

column_known : (d : Data) → IfThere IsColumn (column_in d)
unfolding column_in
column_known d =
    then_holds (λ id. is_id id ≡ true) IsColumn _ _ (id_known (needed int_in (codes "id") d)) (λ id is.
    then_any IsColumn _ (needed as_str (codes "name") d) (λ name.
    then_holds (λ k. is_kind k ≡ true) IsColumn _ _ (then_any (λ k. is_kind k ≡ true) kind_of_word (needed as_str (codes "type") d) kind_known) (λ k known.
    then_any IsColumn _ (needed as_bool (codes "required") d) (λ required.
    if_true IsColumn _ (record { id = id; name = name; kind = k; required = required }) (λ passed. (is, known))))))

abbrev pub AreKnown : List Column → Type 0
AreKnown cs = (list_all is_id (map (λ c. c.id) cs) ≡ true) × (list_all is_kind (map (λ c. c.kind) cs) ≡ true)

one_more : (c : Column) (o : Option (List Column)) → IsColumn c → IfThere AreKnown o → IfThere AreKnown (option_map (λ rest. c ∷ rest) o)
one_more c None is are = tt
one_more c (Some cs) is are = (rw (is.0, are.0) refl, rw (is.1, are.1) refl)

columns_known : (ds : List Data) → IfThere AreKnown (all_read column_in ds)
columns_known [] = (refl, refl)
columns_known (d ∷ ds) = then_holds IsColumn AreKnown _ (column_in d) (column_known d) (λ c is. one_more c (all_read column_in ds) is (columns_known ds))

-- ---- schemas

are_known : (cs : List Column) → AreKnown cs → are_columns cs ≡ true → AreColumns cs
are_known cs known passed =
    let ids : List ℤ = map (λ c. c.id) cs in
    let names : List (List ℕ) = map (λ c. c.name) cs in
    let some : Bool = nat_le 1 (length cs) in
    let few : Bool = nat_le (length cs) 1000 in
    let p = and_parts (some && few && are_distinct_ids ids) (are_distinct names) passed in
    let q = and_parts (some && few) (are_distinct_ids ids) p.0 in
    let r = and_parts some few q.0 in
    record {
      some = leb-true 1 (length cs) r.0;
      few = leb-true (length cs) 1000 r.1;
      ids = q.1;
      above = known.0;
      names = p.1;
      kinds = known.1;
    }

-- a schema of a table
abbrev pub IsSchema : TableSchema → Type 0
IsSchema s = AreColumns s.columns

schema_known : (d : Data) → IfThere IsSchema (schema_in d)
unfolding schema_in
schema_known d =
    then_any IsSchema _ (needed int_in (codes "schema-id") d) (λ id.
    then_holds AreColumns IsSchema _ _
    (then_holds AreKnown AreColumns (only_if are_columns) _
    (then_any AreKnown (all_read column_in) (needed as_list (codes "fields") d) columns_known)
    (λ cs known. if_true AreColumns (are_columns cs) cs (are_known cs known)))
    (λ cs are. are))

abbrev pub AreSchemas : List TableSchema → Type 0
AreSchemas [] = Unit {0}
AreSchemas (s ∷ ss) = IsSchema s × AreSchemas ss

one_more_schema : (s : TableSchema) (o : Option (List TableSchema)) → IsSchema s → IfThere AreSchemas o → IfThere AreSchemas (option_map (λ rest. s ∷ rest) o)
one_more_schema s None is are = tt
one_more_schema s (Some ss) is are = (is, are)

all_known : (ds : List Data) → IfThere AreSchemas (all_read schema_in ds)
all_known [] = tt
all_known (d ∷ ds) = then_holds IsSchema AreSchemas _ (schema_in d) (schema_known d) (λ s is. one_more_schema s (all_read schema_in ds) is (all_known ds))

schemas_known : (d : Data) → IfThere AreSchemas (schemas_in d)
unfolding schemas_in
schemas_known d =
    then_holds AreSchemas AreSchemas _ _ (then_any AreSchemas (all_read schema_in) (as_list d) all_known)
    (λ ss are. if_true AreSchemas (are_distinct_ids (map (λ s. s.id) ss)) ss (λ passed. are))

named_known : (id : ℤ) (ss : List TableSchema) → AreSchemas ss → IfThere IsSchema (schema_named id ss)
named_known id [] are = tt
named_known id (s ∷ ss) are = either IsSchema (int_eq s.id id) (Some s) (schema_named id ss) are.0 (named_known id ss are.1)

-- ---- the current schema

-- a layout whose schema is one
abbrev pub HasSchema : Layout → Type 0
HasSchema l = IsSchema l.schema

layout_known : (d : Data) → IfShown HasSchema (layout_of d)
unfolding layout_of
layout_known d =
    shown_then AreSchemas HasSchema _ _ (member_known AreSchemas schemas_in (codes "schemas") d schemas_known) (λ ss are.
    shown_then IsSchema HasSchema _ _
    (member_known IsSchema (chosen_by (λ id. schema_named id ss)) (codes "current-schema-id") d (λ e. then_any IsSchema (λ id. schema_named id ss) (int_in e) (λ id. named_known id ss are))) (λ s is.
    shown_any HasSchema _ (member (orders_in (codes "spec-id")) (codes "partition-specs") d) (λ specs.
    shown_any HasSchema _ (member (chosen_by (λ id. order_named id specs)) (codes "default-spec-id") d) (λ spec.
    shown_any HasSchema _ (member long_in (codes "last-partition-id") d) (λ last.
    shown_any HasSchema _ (member (orders_in (codes "order-id")) (codes "sort-orders") d) (λ orders.
    shown_any HasSchema _ (member (chosen_by (λ id. order_named id orders)) (codes "default-sort-order-id") d) (λ order. is)))))))

-- a record whose current schema is one
abbrev pub HasColumns : Fields → Type 0
HasColumns f = AreColumns f.layout.schema.columns

fields_known : (d : Data) → IfShown HasColumns (fields_of d)
unfolding fields_of
fields_known d =
    shown_any HasColumns _ (or_field [] (only_if is_plain_object d)) (λ plain.
    shown_any HasColumns _ (heading_of d) (λ heading.
    shown_then HasSchema HasColumns _ _ (layout_known d) (λ layout has.
    shown_any HasColumns _ (state_of d) (λ state. has))))

-- the current schema of metadata has columns of a table
pub current_columns : (d : Data) (f : Fields) → fields_of d ≡ Ok f → AreColumns f.layout.schema.columns
current_columns d f e = subst (λ r. IfShown HasColumns r) e (fields_known d)
