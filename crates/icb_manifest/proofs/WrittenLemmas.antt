-- The schema that is written is one, and lists that are put together.
use Rattle.std.proofs.Common.{◌≡◌, ℕ, ℤ, List, [], ◌∷◌, ◌++◌, codes, map, pos, true, refl, ap, ◌∙◌}
use Rattle.std.proofs.lemmas.List.{map-append}
use Rattle.icb_schema.specs.Nodes.{part_of}
use Rattle.icb_schema.specs.declared.node.Field.{Field}
use Rattle.icb_avro.specs.declared.value.Value.{Value}
use Rattle.icb_avro.specs.declared.value.Value.TheVariants as value
use Rattle.icb_schema.specs.Rules.{is_schema}
use Rattle.icb_manifest.specs.declared.entry.Entry.{Entry}
use Rattle.icb_manifest.specs.declared.file.DataFile.{DataFile}
use Rattle.icb_manifest.specs.Written.{bytes_array, count_parts, entry_tree, entry_values, file_tree, file_value, file_values, longs_array, name_parts, number_parts, optional_bytes, optional_long, part, partition_part}

pub entry_is_schema : is_schema entry_tree ≡ true
unfolding is_schema entry_tree file_tree
entry_is_schema = refl

-- the values of an entry's fields, pushed one after another
pub entry_pushed : (e : Entry) (i0 : ℤ) (w0 w1 w2 w3 : Value) (v0 v1 v2 v3 v4 v5 : List Value)
    → v0 ≡ [] → v1 ≡ v0 ++ value.Int i0 ∷ [] → i0 ≡ e.status
    → v2 ≡ v1 ++ w0 ∷ [] → w0 ≡ optional_long e.snapshot
    → v3 ≡ v2 ++ w1 ∷ [] → w1 ≡ optional_long e.sequence
    → v4 ≡ v3 ++ w2 ∷ [] → w2 ≡ optional_long e.file_sequence
    → v5 ≡ v4 ++ w3 ∷ [] → w3 ≡ file_value e.file
    → v5 ≡ entry_values e
entry_pushed e i0 w0 w1 w2 w3 v0 v1 v2 v3 v4 v5 z e0 a0 e1 a1 e2 a2 e3 a3 e4 a4 = rw (e4, e3, e2, e1, e0, z, a0, a1, a2, a3, a4) refl

-- the values of a data file's fields, pushed one after another
pub file_pushed : (f : DataFile) (i0 i1 i2 : ℤ) (t0 t1 : List ℕ) (w0 w1 w2 w3 w4 w5 : Value) (x v0 v1 v2 v3 v4 v5 v6 v7 v8 v9 v10 v11 v12 : List Value)
    → v0 ≡ [] → v1 ≡ v0 ++ value.Int i0 ∷ [] → i0 ≡ f.content
    → v2 ≡ v1 ++ value.Text t0 ∷ [] → t0 ≡ f.path
    → v3 ≡ v2 ++ value.Text t1 ∷ [] → t1 ≡ f.format
    → v4 ≡ v3 ++ value.Record x ∷ [] → x ≡ []
    → v5 ≡ v4 ++ value.Long i1 ∷ [] → i1 ≡ f.records
    → v6 ≡ v5 ++ value.Long i2 ∷ [] → i2 ≡ f.size
    → v7 ≡ v6 ++ w0 ∷ [] → w0 ≡ longs_array f.values
    → v8 ≡ v7 ++ w1 ∷ [] → w1 ≡ longs_array f.nulls
    → v9 ≡ v8 ++ w2 ∷ [] → w2 ≡ bytes_array f.lower
    → v10 ≡ v9 ++ w3 ∷ [] → w3 ≡ bytes_array f.upper
    → v11 ≡ v10 ++ w4 ∷ [] → w4 ≡ optional_bytes f.key
    → v12 ≡ v11 ++ w5 ∷ [] → w5 ≡ optional_long f.first_row
    → v12 ≡ file_values f
file_pushed f i0 i1 i2 t0 t1 w0 w1 w2 w3 w4 w5 x v0 v1 v2 v3 v4 v5 v6 v7 v8 v9 v10 v11 v12 z e0 a0 e1 a1 e2 a2 e3 a3 e4 a4 e5 a5 e6 a6 e7 a7 e8 a8 e9 a9 e10 a10 e11 a11 = rw (e11, e10, e9, e8, e7, e6, e5, e4, e3, e2, e1, e0, z, a0, a1, a2, a3, a4, a5, a6, a7, a8, a9, a10, a11) refl

-- the fields of a data file, put together
pub file_fields : (a b c all : List Field) (f : Field) → b ≡ a ++ f ∷ [] → all ≡ b ++ c → map part_of a ≡ name_parts → part_of f ≡ partition_part → map part_of c ≡ count_parts
    → map part_of all ≡ name_parts ++ partition_part ∷ count_parts
file_fields a b c all f eb ea na nf nc =
    ap (map part_of) (ea ∙ ap (λ (x : List Field). x ++ c) eb) ∙ map-append part_of (a ++ f ∷ []) c ∙ ap (λ x. x ++ map part_of c) (map-append part_of a (f ∷ []))
    ∙ ap (λ x. (x ++ part_of f ∷ []) ++ map part_of c) na ∙ ap (λ x. (name_parts ++ part_of f ∷ []) ++ x) nc ∙ ap (λ p. (name_parts ++ p ∷ []) ++ count_parts) nf

-- the fields of an entry, put together
pub entry_fields : (a b : List Field) (f : Field) → b ≡ a ++ f ∷ [] → map part_of a ≡ number_parts → part_of f ≡ part (codes "data_file") (pos 2) file_tree
    → map part_of b ≡ number_parts ++ part (codes "data_file") (pos 2) file_tree ∷ []
entry_fields a b f e na nf = ap (map part_of) e ∙ map-append part_of a (f ∷ []) ∙ ap (λ x. x ++ part_of f ∷ []) na ∙ ap (λ p. number_parts ++ p ∷ []) nf
