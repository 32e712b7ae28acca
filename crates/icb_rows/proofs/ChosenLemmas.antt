-- The columns that are chosen, and the types that they may have.
use Rattle.std.proofs.Common.{◌≡◌, ℕ, zero, suc, ◌+◌, ◌<◌, ◌≤◌, Bool, true, false, List, [], ◌∷◌, ◌++◌, length, map, drop, get_or, Some, None, refl, sym, ap, ◌∙◌, arith, append_assoc, add-one, drop-cons}
use Rattle.std.specs.Prelude.{◌&&◌, ◌||◌, slice_get, if◌then◌else◌}
use Rattle.icb_schema.specs.Tree.{Fields}
use Rattle.icb_schema.specs.Shape.{shape_of, shapes_of, union}
use Rattle.icb_schema.specs.declared.node.Node.{Node}
use Rattle.icb_types.specs.declared.columns.ColType.{ColType}
use Rattle.icb_types.specs.declared.columns.Column.{Column}
use Rattle.icb_rows.specs.declared.projection.Placed.{Placed}
use Rattle.icb_rows.specs.Records.{field_of, first_unfit, fits_field, is_column_shape, is_kind_shape, is_null_shape}
use Rattle.icb_rows.specs.Views.{chosen, placed_in, placed_of}

-- ---- two branches

-- two branches, of which one is null
pub two_branches : (ns : List Node) (k : ColType) (a b : Node) → length ns ≡ 2 → a ≡ get_or ns 0 a → b ≡ get_or ns 1 b
    → is_column_shape (union (shapes_of (map shape_of ns))) k ≡ ((is_null_shape (shape_of a) && is_kind_shape (shape_of b) k) || (is_kind_shape (shape_of a) k && is_null_shape (shape_of b)))
two_branches [] k a b n e f = absurd (let never : ⊥ = omega (arith, n) in never)
two_branches (x ∷ []) k a b n e f = absurd (let never : ⊥ = omega (arith, n) in never)
two_branches (x ∷ y ∷ []) k a b n e f = rw (e, f) refl
two_branches (x ∷ y ∷ z ∷ ns) k a b n e f = absurd (let never : ⊥ = omega (arith, n) in never)

-- another number of branches
pub other_branches : (ns : List Node) (k : ColType) → (length ns ≡ 2 → ⊥) → false ≡ is_column_shape (union (shapes_of (map shape_of ns))) k
other_branches [] k h = refl
other_branches (x ∷ []) k h = refl
other_branches (x ∷ y ∷ []) k h = absurd (h refl)
other_branches (x ∷ y ∷ z ∷ ns) k h = refl

-- ---- columns at positions

-- an item that is there
pub get_there : {A : Type 0} (xs : List A) (p : ℕ) (x : A) → p < length xs → x ≡ get_or xs p x → slice_get xs p ≡ Some x
get_there [] p x h e = absurd (let never : ⊥ = omega (arith, h) in never)
get_there (y ∷ xs) zero x h e = ap Some (sym e)
get_there (y ∷ xs) (suc p) x h e = get_there xs p x (omega (arith, h)) e

-- no item stands behind the last
pub get_missing : {A : Type 0} (xs : List A) (p : ℕ) → length xs ≤ p → slice_get xs p ≡ None
get_missing [] zero h = refl
get_missing [] (suc p) h = refl
get_missing (y ∷ xs) zero h = absurd (let never : ⊥ = omega (arith, h) in never)
get_missing (y ∷ xs) (suc p) h = get_missing xs p (omega (arith, h))

-- a column stands at the position
pub chosen_there : (columns : List Column) (positions : List ℕ) (i d : ℕ) (c : Column) → i < length positions → slice_get columns (get_or positions i d) ≡ Some c
    → chosen columns (drop i positions) ≡ c ∷ chosen columns (drop (i + 1) positions)
chosen_there columns positions i d c h there =
    rw (drop-cons positions i d) (rw there refl) ∙ ap (λ (n : ℕ). c ∷ chosen columns (drop n positions)) (sym (add-one i))

-- no column stands there
pub chosen_missing : (columns : List Column) (positions : List ℕ) (i d : ℕ) → i < length positions → slice_get columns (get_or positions i d) ≡ None
    → chosen columns (drop i positions) ≡ chosen columns (drop (i + 1) positions)
chosen_missing columns positions i d h there =
    rw (drop-cons positions i d) (rw there refl) ∙ ap (λ (n : ℕ). chosen columns (drop n positions)) (sym (add-one i))

-- a column that is placed has its type
pub placed_is : (fs : Fields) (c : Column) (found : Placed) → Some found ≡ placed_in fs c → (fits_field c (field_of c.id fs) ≡ true) × (found ≡ placed_of fs c)
placed_is fs c found e = tested (fits_field c (field_of c.id fs)) refl e
  where
    tested : (b : Bool) → fits_field c (field_of c.id fs) ≡ b → Some found ≡ (if b then Some (placed_of fs c) else None) → (fits_field c (field_of c.id fs) ≡ true) × (found ≡ placed_of fs c)
    tested true f g = (f, let same : found ≡ placed_of fs c = cc in same)
    tested false f g = absurd (let never : ⊥ = cc in never)

-- a column that isn't placed hasn't
pub not_placed : (fs : Fields) (c : Column) → None ≡ placed_in fs c → fits_field c (field_of c.id fs) ≡ false
not_placed fs c e = tested (fits_field c (field_of c.id fs)) refl e
  where
    tested : (b : Bool) → fits_field c (field_of c.id fs) ≡ b → None ≡ (if b then Some (placed_of fs c) else None) → fits_field c (field_of c.id fs) ≡ false
    tested true f g = absurd (let never : ⊥ = cc in never)
    tested false f g = f

-- the first column that doesn't fit
pub unfit_here : (fs : Fields) (c : Column) (columns : List Column) → fits_field c (field_of c.id fs) ≡ false → first_unfit (c ∷ columns) fs ≡ Some c.id
unfit_here fs c columns e = rw e refl

-- it stands behind a column that fits
pub unfit_behind : (fs : Fields) (c : Column) (columns : List Column) → fits_field c (field_of c.id fs) ≡ true → first_unfit (c ∷ columns) fs ≡ first_unfit columns fs
unfit_behind fs c columns e = rw e refl

-- one column more
pub placed_more : (fs : Fields) (c : Column) (columns all : List Column) (now new whole : List Placed) (found : Placed) → all ≡ c ∷ columns → now ++ map (placed_of fs) all ≡ whole
    → found ≡ placed_of fs c → new ≡ now ++ found ∷ [] → new ++ map (placed_of fs) columns ≡ whole
placed_more fs c columns all now new whole found e was is done =
    let one : new ≡ now ++ placed_of fs c ∷ [] = done ∙ ap (λ (x : Placed). now ++ x ∷ []) is in
    ap (λ (xs : List Placed). xs ++ map (placed_of fs) columns) one ∙ append_assoc now (placed_of fs c ∷ []) (map (placed_of fs) columns)
    ∙ ap (λ (xs : List Column). now ++ map (placed_of fs) xs) (sym e) ∙ was
