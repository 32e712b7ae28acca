-- What the metadata of a new table shows.
use Rattle.std.proofs.Common.{◌≡◌, ◌≤◌, ℕ, ℤ, pos, negsuc, List, [], ◌∷◌, fold, map, length, true, false, MatchOption, Option, Some, None, option_map, codes, nat_lt, refl, sym, ap, arith, true≢false}
use Rattle.std.specs.List.{list_all}
use Rattle.std.proofs.lemmas.Bool.{and_parts, le-leb, lt-ltb, ltb-true}
use Rattle.serde_json.specs.Data as json
use Rattle.serde_json.specs.Data.{Data, items_depth}
use Rattle.serde_json.specs.View.{items_of}
use Rattle.base64.specs.GeneralPurpose.{encode_of}
use Rattle.base64.specs.Engines.{standard}
use Rattle.serde_json.specs.Written.{items_have_float}
use Rattle.icb_schema.specs.Reading.{all_read, as_list, list_of}
use Rattle.icb_types.specs.Columns.{AreColumns, is_id, is_kind}
use Rattle.icb_types.specs.Lines.{int_in, number_json, uuid_text}
use Rattle.icb_types.specs.declared.columns.Column.{Column}
use Rattle.icb_types.specs.declared.columns.TableSchema.{TableSchema}
use Rattle.icb_meta.specs.Forms.{are_columns, column_in, entries_in, entry_in, schema_in, schemas_in}
use Rattle.icb_meta.specs.declared.records.KeyEntry.{KeyEntry}
use Rattle.icb_meta.specs.declared.records.NewTable.{NewTable}
use Rattle.icb_edits.specs.Sets.{Sets}
use Rattle.icb_edits.specs.Tables.{last_id, new_json, new_sets, order_json, order_members}
use Rattle.icb_columns.specs.Printed.{column_json, columns_json, schema_json, type_word}
use Rattle.icb_edits.specs.Values.{array_of, entry_json, entry_members, ordered, put_text, texts_json, texts_or_none}
use Rattle.icb_edits.proofs.PlainLemmas.{IsPlain, array_plain, bool_plain, deeper, made_plain, number_plain, none_plain, object_plain, text_plain, texts_plain}
use Rattle.icb_edits.proofs.TypeLemmas.{kind_back}

-- an array as its list
pub list_back : (ds : List Data) → list_of (items_of ds) ≡ ds
list_back [] = refl
list_back (d ∷ ds) = ap (λ r. d ∷ r) (list_back ds)

pub array_back : (ds : List Data) → as_list (array_of ds) ≡ Some ds
array_back ds = ap Some (list_back ds)

-- ---- columns

id_back : (z : ℤ) → is_id z ≡ true → int_in (number_json z) ≡ Some z
id_back (pos n) h =
    let p = and_parts (nat_lt 0 n) (nat_lt n 2147483648) h in
    let small = ltb-true n 2147483648 p.1 in
    let wide : nat_lt n 9223372036854775808 ≡ true = lt-ltb n 9223372036854775808 (omega arith) in
    rw (wide, p.1) refl
id_back (negsuc n) h = absurd (true≢false (sym h))

column_back : (c : Column) → is_id c.id ≡ true → is_kind c.kind ≡ true → column_in (column_json c) ≡ Some c
unfolding column_in column_json
column_back c id k = rw (id_back c.id id, id, kind_back c.kind k) refl

columns_back : (cs : List Column) → list_all is_id (map (λ c. c.id) cs) ≡ true → list_all is_kind (map (λ c. c.kind) cs) ≡ true
    → all_read column_in (map column_json cs) ≡ Some cs
columns_back [] ids kinds = refl
columns_back (c ∷ cs) ids kinds =
    let p = and_parts (is_id c.id) (list_all is_id (map (λ c. c.id) cs)) ids in
    let q = and_parts (is_kind c.kind) (list_all is_kind (map (λ c. c.kind) cs)) kinds in
    rw (column_back c p.0 q.0, columns_back cs p.1 q.1) refl

columns_are : (cs : List Column) → AreColumns cs → are_columns cs ≡ true
columns_are cs are = rw (le-leb 1 (length cs) are.some, le-leb (length cs) 1000 are.few, are.ids, are.names) refl

columns_listed : (cs : List Column) → list_of (columns_json cs) ≡ map column_json cs
columns_listed [] = refl
columns_listed (c ∷ cs) = ap (λ r. column_json c ∷ r) (columns_listed cs)

-- a schema reads as it
schema_back : (s : TableSchema) → AreColumns s.columns → int_in (number_json s.id) ≡ Some s.id → schema_in (schema_json s) ≡ Some s
unfolding schema_in schema_json
schema_back s are id = rw (id, columns_listed s.columns, columns_back s.columns are.above are.kinds, columns_are s.columns are) refl

pub schemas_back : (s : TableSchema) → AreColumns s.columns → int_in (number_json s.id) ≡ Some s.id → schemas_in (array_of (schema_json s ∷ [])) ≡ Some (s ∷ [])
unfolding schemas_in
schemas_back s are id = rw (schema_back s are id) refl

-- ---- keys

pub entries_back : (e : KeyEntry) → entry_in (entry_json e) ≡ Some (ordered e) → entries_in (array_of (entry_json e ∷ [])) ≡ Some (ordered e ∷ [])
unfolding entries_in
entries_back e h = rw h refl

-- ---- plain values

-- the members of a column
column_sets : Column → Sets
column_sets c = (codes "type", Some (json.string (type_word c.kind))) ∷ (codes "required", Some (json.boolean c.required)) ∷ (codes "name", Some (json.string c.name)) ∷ (codes "id", Some (number_json c.id)) ∷ []

column_plain : (c : Column) → IsPlain 1 (column_json c)
unfolding column_json column_sets
column_plain c = made_plain 0 (column_sets c) (text_plain 0 (type_word c.kind), (bool_plain 0 c.required, (text_plain 0 c.name, (number_plain 0 c.id, tt))))

columns_plain : (cs : List Column) → (items_have_float (columns_json cs) ≡ false) × (items_depth (columns_json cs) ≤ 1)
columns_plain [] = (refl, omega arith)
columns_plain (c ∷ cs) =
    let p = column_plain c in let q = columns_plain cs in
    let a = p.levels in let b = q.1 in
    (rw (p.whole, q.0) refl, omega arith)

-- the members of a schema
schema_sets : TableSchema → Sets
schema_sets s = (codes "type", Some (json.string (codes "struct"))) ∷ (codes "fields", Some (json.array (columns_json s.columns))) ∷ (codes "schema-id", Some (number_json s.id)) ∷ []

pub schema_plain : (s : TableSchema) → IsPlain 3 (schema_json s)
unfolding schema_json schema_sets
schema_plain s =
    let q = columns_plain s.columns in let few = q.1 in
    let listed : IsPlain 2 (json.array (columns_json s.columns)) = record { whole = q.0; levels = omega arith } in
    made_plain 2 (schema_sets s) (text_plain 2 (codes "struct"), (listed, (number_plain 2 s.id, tt)))

pub texts_object_plain : (ps : List (List ℕ × List ℕ)) → IsPlain 1 (texts_json ps)
unfolding texts_json
texts_object_plain ps = object_plain 0 (fold put_text json.no_members ps) (texts_plain 0 ps json.no_members (none_plain 0))

texts_member_plain : (ps : List (List ℕ × List ℕ)) → MatchOption (texts_or_none ps) (Unit {0}) (IsPlain 1)
texts_member_plain [] = tt
texts_member_plain (p ∷ ps) = texts_object_plain (p ∷ ps)

by_plain : (o : Option (List ℕ)) → MatchOption (option_map json.string o) (Unit {0}) (IsPlain 1)
by_plain None = tt
by_plain (Some id) = text_plain 1 id

pub entry_plain : (e : KeyEntry) → IsPlain 2 (entry_json e)
unfolding entry_json
entry_plain e = made_plain 1 (entry_members e) (texts_member_plain e.properties, (text_plain 1 e.id, (text_plain 1 (encode_of standard e.sealed), (by_plain e.by, tt))))

order_plain : (name : List ℕ) → IsPlain 3 (order_json name)
order_plain name = made_plain 2 (order_members name) (number_plain 2 (pos 0), (array_plain 1 [] tt, tt))

-- the metadata of a new table is a plain value
pub new_plain : (t : NewTable) (uuid : ℕ) (e : KeyEntry) (now : ℕ) → IsPlain 5 (new_json t uuid e now)
unfolding new_json
new_plain t uuid e now = made_plain 4 (new_sets t uuid e now)
    (text_plain 4 (uuid_text uuid), (text_plain 4 t.location, (number_plain 4 (pos now), (number_plain 4 (pos 0), (number_plain 4 (last_id t.schema.columns), (number_plain 4 (pos 3), (array_plain 3 (order_json (codes "order-id") ∷ []) (order_plain (codes "order-id"), tt), (array_plain 3 (order_json (codes "spec-id") ∷ []) (order_plain (codes "spec-id"), tt), (number_plain 4 (pos 999), (number_plain 4 (pos 0), (number_plain 4 (pos 0), (array_plain 3 (schema_json t.schema ∷ []) (schema_plain t.schema, tt), (number_plain 4 t.schema.id, (array_plain 3 [] tt, (array_plain 3 [] tt, (made_plain 3 [] tt, (deeper 1 4 (texts_json t.properties) (omega arith) (texts_object_plain t.properties), (number_plain 4 (pos 0), (array_plain 3 [] tt, (array_plain 3 (entry_json e ∷ []) (deeper 2 3 (entry_json e) (omega arith) (entry_plain e), tt), tt))))))))))))))))))))
