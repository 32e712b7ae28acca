-- Stores behind a turn.
use Rattle.std.proofs.Common.{◌≡◌, ◌⊎◌, inl, inr, ℕ, ℤ, List, Bool, true, false, cond, Some, None, refl, sym, ap, ◌∙◌, subst}
use Rattle.std.specs.Cmp.{int_cmp_total}
use Rattle.std.specs.FinMap as finite
use Rattle.std.specs.List.{Contains}
use Rattle.std.specs.Ordering.{eq_by_cmp, int_cmp, is_eq}
use Rattle.std.specs.declared.cmp.Ordering.{Ordering}
use Rattle.std.specs.declared.cmp.Ordering.TheVariants.{Less, Equal, Greater}
use Rattle.std.specs.Str.{bytes_eq}
use Rattle.std.proofs.lemmas.Slice.Eq.{bytes_eq-Decides}
use Rattle.icb_base.specs.Objects.{Grows, Objects, object_at}
use Rattle.icb_base.proofs.LawLemmas.{grows_at_rest, object_at-with_object, put_grows}
use Rattle.icb_rows.specs.Records.{Row}
use Rattle.icb_table.specs.Table.{Table}
use Rattle.icb_turns.specs.Laws.{TurnsGrow, TurnsKeepRows, TurnsLeaveOthers}
use Rattle.icb_turns.specs.Turns.{IsVersionPath, adds_snapshot, keeps_rows}

pub turns_grow : TurnsGrow
turns_grow own before now (inl same) = subst (Grows before) (sym same) (grows_at_rest before)
turns_grow own before now (inr one) = subst (Grows before) (sym one.put) (put_grows before one.path one.bytes one.free)

-- what is held at another path
left_by : (files : Objects) (path bytes other : List ℕ) (b : Bool) → bytes_eq other path ≡ b → (other ≡ path → ⊥)
    → cond b (Some bytes) (object_at files other) ≡ object_at files other
left_by files path bytes other true e apart = absurd (apart ((bytes_eq-Decides other path).0 e))
left_by files path bytes other false e apart = refl

other_left : (own : List (List ℕ)) (path other : List ℕ) → Contains own path ⊎ IsVersionPath path
    → (Contains own other → ⊥) → (IsVersionPath other → ⊥) → other ≡ path → ⊥
other_left own path other (inl may) not_own no_version is = not_own (subst (Contains own) (sym is) may)
other_left own path other (inr may) not_own no_version is = no_version (subst IsVersionPath (sym is) may)

pub turns_leave_others : TurnsLeaveOthers
turns_leave_others own before now other (inl same) not_own no_version = ap (λ files. object_at files other) same
turns_leave_others own before now other (inr one) not_own no_version =
    ap (λ files. object_at files other) one.put ∙ object_at-with_object before one.path one.bytes other
    ∙ left_by before one.path one.bytes other (bytes_eq other one.path) refl (other_left own one.path other one.may_be not_own no_version)

equal_of : (o : Ordering) → is_eq o ≡ true → o ≡ Equal
equal_of Less e = absurd (let g : ⊥ = cc in g)
equal_of Equal e = refl
equal_of Greater e = absurd (let g : ⊥ = cc in g)

-- ids that tie are equal
tied : (x y : ℤ) → eq_by_cmp int_cmp x y ≡ true → x ≡ y
tied x y e = finite.int_cmp-IsAntisymmetric x y (equal_of (int_cmp x y) e)

-- the rows of an id that isn't the new one
kept_rows : (table : Table) (added id : ℤ) (more rows : List Row) (b : Bool) → eq_by_cmp int_cmp id added ≡ b
    → finite.get table added ≡ None → finite.get table id ≡ Some rows → cond b (Some more) (finite.get table id) ≡ Some rows
kept_rows table added id more rows true e new is =
    let same : finite.get table id ≡ finite.get table added = ap (finite.get table) (tied id added e) in
    absurd (let g : ⊥ = cc in g)
kept_rows table added id more rows false e new is = is

pub turns_keep_rows : TurnsKeepRows
turns_keep_rows table keeps_rows id rows new is = is
turns_keep_rows table (adds_snapshot added more) id rows new is =
    finite.get-insert int_cmp_total table added more id ∙ kept_rows table added id more rows (eq_by_cmp int_cmp id added) refl new is
