-- The schema that is written is one, and lists that are put together.
use Rattle.std.proofs.Common.{◌≡◌, ℕ, ℤ, List, [], ◌∷◌, ◌++◌, map, take, option_map, true, refl, ap, append_assoc, ◌∙◌}
use Rattle.icb_avro.specs.declared.value.Value.{Value}
use Rattle.icb_avro.specs.declared.value.Value.TheVariants as value
use Rattle.icb_fields.specs.Making.{optional}
use Rattle.icb_list.specs.declared.row.ListRow.{ListRow}
use Rattle.icb_schema.specs.Rules.{is_schema}
use Rattle.icb_list.specs.Written.{row_tree, row_values}

pub row_is_schema : is_schema row_tree ≡ true
unfolding is_schema row_tree
row_is_schema = refl

-- the values of a row's fields, pushed one after another
pub pushed : (r : ListRow) (path : List ℕ) (n m : ℕ) (i0 i1 i2 i3 i4 i5 : ℤ) (k l : Value) (v0 v1 v2 v3 v4 v5 v6 v7 v8 v9 v10 v11 : List Value)
    → v0 ≡ [] → v1 ≡ v0 ++ value.Text path ∷ [] → path ≡ r.path
    → v2 ≡ v1 ++ value.Long i0 ∷ [] → i0 ≡ r.length
    → v3 ≡ v2 ++ value.Int i1 ∷ [] → i1 ≡ r.spec
    → v4 ≡ v3 ++ value.Int i2 ∷ [] → i2 ≡ r.content
    → v5 ≡ v4 ++ value.Long i3 ∷ [] → i3 ≡ r.sequence
    → v6 ≡ v5 ++ value.Long i4 ∷ [] → i4 ≡ r.min_sequence
    → v7 ≡ v6 ++ value.Long i5 ∷ [] → i5 ≡ r.snapshot
    → v8 ≡ v7 ++ map value.Int (take n r.files) → n ≡ 3 → v9 ≡ v8 ++ map value.Long (take m r.rows) → m ≡ 3
    → v10 ≡ v9 ++ k ∷ [] → k ≡ optional (option_map value.Bytes r.key) → v11 ≡ v10 ++ l ∷ [] → l ≡ optional (option_map value.Long r.first_row)
    → v11 ≡ row_values r
pushed r path n m i0 i1 i2 i3 i4 i5 k l v0 v1 v2 v3 v4 v5 v6 v7 v8 v9 v10 v11 e0 e1 q a0 b0 a1 b1 a2 b2 a3 b3 a4 b4 a5 b5 e8 n3 e9 m3 e10 ek e11 el =
    e11 ∙ ap (λ (x : List Value). x ++ l ∷ []) e10 ∙ append_assoc v9 (k ∷ []) (l ∷ []) ∙ rw (e9, e8, a5, a4, a3, a2, a1, a0, e1, e0, q, b0, b1, b2, b3, b4, b5, n3, m3, ek, el) refl
