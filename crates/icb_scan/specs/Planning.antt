-- What finding the columns and the range of a query answers.
use Rattle.std.specs.Prelude.{◌≡◌, ◌<◌, ℕ, List, length, slice_get, Option, Some, None}
use Rattle.std.specs.Prelude.{Result, Ok, Err}
use Rattle.icb_types.specs.declared.columns.Column.{Column}
use Rattle.icb_rows.specs.Ranges.{column_named}
use Rattle.icb_rows.specs.Views.{chosen}
use Rattle.icb_rows.specs.declared.fault.RangeFault.{RangeFault}
use Rattle.icb_rows.specs.declared.fault.RangeFault.TheVariants as fault
use Rattle.icb_table.specs.Selection.{ColumnRange, Selection}
use Rattle.icb_datafile.specs.Plans.{ArePositions, IsPlanOf, IsRangeIn, range_at, selection_by}
use Rattle.icb_datafile.specs.declared.plan.Plan.{Plan}
use Rattle.icb_datafile.specs.declared.plan.PlanRange.{PlanRange}

-- the position of the first column of this name; none where there is no such column
abbrev pub IsPosition : List ℕ → List Column → Option ℕ → Type 0
IsPosition name columns None = column_named name columns ≡ None
IsPosition name columns (Some at) =
    (at < length columns) × (column_named name columns ≡ slice_get columns at)

-- the refusal that is answered is this one, or no memory was left
abbrev pub IsFirst : {A : Type 0} → Result A RangeFault → RangeFault → Type 0
IsFirst r (fault.NoColumn name) = r ≡ Err (fault.NoColumn name)
IsFirst r (fault.BadRange name) = r ≡ Err (fault.BadRange name)
IsFirst r fault.NoMemory = Unit {0}

-- there is no column of this name, or no memory was left to say so
abbrev pub IsNoColumn : List ℕ → RangeFault → Type 0
IsNoColumn name (fault.NoColumn other) = other ≡ name
IsNoColumn name (fault.BadRange other) = ⊥
IsNoColumn name fault.NoMemory = Unit {0}

-- the columns are found by their positions, or the first refusal
abbrev pub FindsColumns : List Column → Result (List Column) RangeFault
    → Result (List ℕ) RangeFault → Type 0
FindsColumns columns r (Ok positions) =
    (r ≡ Ok (chosen columns positions)) × ArePositions columns positions
FindsColumns columns r (Err e) = IsFirst r e

-- so is the range
abbrev pub FindsRange : List Column → Result (Option ColumnRange) RangeFault
    → Result (Option PlanRange) RangeFault → Type 0
FindsRange columns r (Ok range) = (r ≡ Ok (range_at columns range)) × IsRangeIn columns range
FindsRange columns r (Err e) = IsFirst r e

-- a plan that chooses so, of rows of a table with these columns, and has shown none
pub record IsPlanFor (columns : List Column) (s : Selection) (p : Plan) : Type 0 where
  pub chooses : s ≡ selection_by columns p
  pub is_plan : IsPlanOf columns p
  pub none : p.shown ≡ 0

-- a plan for what the words mean, or their first refusal
abbrev pub FindsPlan : List Column → Result Selection RangeFault → Result Plan RangeFault → Type 0
FindsPlan columns r (Ok p) = (s : Selection) × (r ≡ Ok s) × IsPlanFor columns s p
FindsPlan columns r (Err e) = IsFirst r e
