-- The fields of columns fit them.
use Rattle.std.proofs.Common.{◌≡◌, ℕ, suc, Bool, true, false, List, [], ◌∷◌, map, Some, None, refl, eq-eqb}
use Rattle.std.specs.Prelude.{ℤ, not, if◌then◌else◌}
use Rattle.std.specs.List.{list_any}
use Rattle.std.specs.Ordering.{int_eq}
use Rattle.std.proofs.lemmas.Bool.{and_parts}
use Rattle.icb_schema.specs.Tree as tree
use Rattle.icb_schema.specs.Tree.{Fields, Tree}
use Rattle.icb_schema.specs.Nodes.{fields_of}
use Rattle.icb_schema.specs.Shape.{shape}
use Rattle.icb_types.specs.Columns.{are_distinct_ids}
use Rattle.icb_types.specs.Table.{column_part, column_tree, kind_tree}
use Rattle.icb_types.specs.declared.columns.ColType.{ColType}
use Rattle.icb_types.specs.declared.columns.ColType.TheVariants as kind
use Rattle.icb_types.specs.declared.columns.Column.{Column}
use Rattle.icb_rows.specs.Records.{first_unfit, fits_field, field_from, field_of, has_id, is_column_shape, is_kind_shape}
use Rattle.icb_rows.proofs.FileLemmas.{is_false, neither, other_id, same_id}

-- ---- one column's field

-- the type of a kind is that kind's
kind_fits : (id : ℤ) (k : ColType) → is_kind_shape (shape (kind_tree id k)) k ≡ true
kind_fits id kind.Boolean = refl
kind_fits id kind.Int = refl
kind_fits id kind.Long = refl
kind_fits id kind.Date = refl
kind_fits id kind.Time = refl
kind_fits id kind.Timestamp = refl
kind_fits id kind.TimestampTz = refl
kind_fits id kind.Text = refl
kind_fits id kind.Uuid = refl
kind_fits id (kind.Fixed size) = eq-eqb size size refl
kind_fits id kind.Binary = refl

column_fits : (c : Column) → is_column_shape (shape (column_tree c)) c.kind ≡ true
column_fits c = by_required c.required refl c.kind refl
  where
    by_required : (b : Bool) → c.required ≡ b → (k : ColType) → c.kind ≡ k → is_column_shape (shape (column_tree c)) c.kind ≡ true
    by_required true e kind.Boolean f = rw (e, f) refl
    by_required true e kind.Int f = rw (e, f) refl
    by_required true e kind.Long f = rw (e, f) refl
    by_required true e kind.Date f = rw (e, f) refl
    by_required true e kind.Time f = rw (e, f) refl
    by_required true e kind.Timestamp f = rw (e, f) refl
    by_required true e kind.TimestampTz f = rw (e, f) refl
    by_required true e kind.Text f = rw (e, f) refl
    by_required true e kind.Uuid f = rw (e, f) refl
    by_required true e (kind.Fixed size) f = rw (e, f) (kind_fits c.id (kind.Fixed size))
    by_required true e kind.Binary f = rw (e, f) refl
    by_required false e k f = rw (e, kind_fits c.id c.kind) refl

-- ---- fields by their ids

-- where a field stands doesn't count
placed_anywhere : (a b : ℕ) (c : Column) (fs : Fields) → fits_field c (field_from a c.id fs) ≡ fits_field c (field_from b c.id fs)
placed_anywhere a b c tree.no_fields = refl
placed_anywhere a b c (tree.field name own t fs) = by_test (has_id c.id own) (placed_anywhere (suc a) (suc b) c fs)
  where
    by_test : (t' : Bool) → fits_field c (field_from (suc a) c.id fs) ≡ fits_field c (field_from (suc b) c.id fs)
        → fits_field c (if t' then Some (a, shape t) else field_from (suc a) c.id fs) ≡ fits_field c (if t' then Some (b, shape t) else field_from (suc b) c.id fs)
    by_test true more = refl
    by_test false more = more

-- a field with another id doesn't count
past_field : (c : Column) (name : List ℕ) (id : ℤ) (t : Tree) (fs : Fields) → int_eq c.id id ≡ false
    → fits_field c (field_of c.id (tree.field name (Some id) t fs)) ≡ fits_field c (field_of c.id fs)
past_field c name id t fs e = rw (other_id c.id id e) (placed_anywhere 1 0 c fs)

past_fields : (columns : List Column) (name : List ℕ) (id : ℤ) (t : Tree) (fs : Fields) → list_any (λ other. int_eq other id) (map (λ c. c.id) columns) ≡ false
    → first_unfit columns (tree.field name (Some id) t fs) ≡ first_unfit columns fs
past_fields [] name id t fs h = refl
past_fields (c ∷ columns) name id t fs h =
    let apart = neither (int_eq c.id id) (list_any (λ other. int_eq other id) (map (λ e. e.id) columns)) h in
    rw (past_field c name id t fs apart.0, past_fields columns name id t fs apart.1) refl

-- the columns' own fields fit them
pub columns_fit : (columns : List Column) → are_distinct_ids (map (λ c. c.id) columns) ≡ true → first_unfit columns (fields_of (map column_part columns)) ≡ None
columns_fit [] ids = refl
columns_fit (c ∷ columns) ids =
    let apart = and_parts (not (list_any (λ other. int_eq other c.id) (map (λ e. e.id) columns))) (are_distinct_ids (map (λ e. e.id) columns)) ids in
    let fs : Fields = fields_of (map column_part columns) in
    rw (same_id c.id, column_fits c, past_fields columns c.name c.id (column_tree c) fs (is_false _ apart.0)) (columns_fit columns apart.1)
