-- Columns whose JSON is made one after another.
use Rattle.std.proofs.Common.{◌≡◌, ℕ, ℤ, pos, negsuc, false, ◌+◌, ◌<◌, List, [], ◌∷◌, length, get_or, drop, refl, add-one, drop-cons}
use Rattle.serde_json.specs.Data as json
use Rattle.serde_json.specs.Written.{has_float, items_have_float}
use Rattle.icb_types.specs.Lines.{number_json}
use Rattle.icb_types.specs.declared.columns.Column.{Column}
use Rattle.icb_types.specs.declared.columns.TableSchema.{TableSchema}
use Rattle.icb_columns.specs.Printed.{column_json, columns_json, schema_json}

pub columns_step : (cs : List Column) (i : ℕ) (c : Column) → i < length cs → c ≡ get_or cs i c
    → columns_json (drop i cs) ≡ json.item (column_json c) (columns_json (drop (i + 1) cs))
columns_step cs i c within is = rw (add-one, drop-cons cs i c, ← is) refl

-- ---- no number has a point or an exponent

number_float : (z : ℤ) → has_float (number_json z) ≡ false
number_float (pos n) = refl
number_float (negsuc n) = refl

column_float : (c : Column) → has_float (column_json c) ≡ false
unfolding column_json
column_float c = rw (number_float c.id) refl

columns_float : (cs : List Column) → items_have_float (columns_json cs) ≡ false
columns_float [] = refl
columns_float (c ∷ cs) = rw (column_float c, columns_float cs) refl

pub schema_float : (s : TableSchema) → has_float (schema_json s) ≡ false
unfolding schema_json
schema_float s = rw (columns_float s.columns, number_float s.id) refl
