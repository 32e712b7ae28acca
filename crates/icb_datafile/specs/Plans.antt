-- What is chosen of rows that come one after another: what a plan says of them, and what it says of
-- those behind (ours).
use Rattle.std.specs.Prelude.{◌≡◌, ℕ, ◌+◌, ◌-◌, ◌^◌, ◌<◌, ◌==◌, List, [], ◌∷◌, ◌++◌, length, map}
use Rattle.std.specs.Prelude.{filter, Bool, true, false, Option, Some, None, IfSome, option_map}
use Rattle.std.specs.Prelude.{slice_get, Result, Ok, OnOk}
use Rattle.std.specs.List.{AllByRecursion, flat_map}
use Rattle.icb_schema.specs.Tree.{Fields}
use Rattle.icb_schema.specs.declared.lists.NoMemory.{NoMemory}
use Rattle.icb_avro.specs.declared.value.Value.{Value}
use Rattle.icb_types.specs.Columns.{are_distinct_ids}
use Rattle.icb_types.specs.declared.columns.Column.{Column}
use Rattle.icb_rows.specs.declared.projection.Projection.{Projection}
use Rattle.icb_rows.specs.Records.{Row, row_by_ids}
use Rattle.icb_rows.specs.Views.{IsProjection, passed_of, record_at}
use Rattle.icb_rows.specs.Views as views
use Rattle.icb_table.specs.Selection.{ColumnRange, Selection, chosen, is_within, line_of}
use Rattle.icb_datafile.specs.declared.plan.Plan.{Plan}
use Rattle.icb_datafile.specs.declared.plan.PlanRange.{PlanRange}

-- ---- plans

-- the range of the column at a position
abbrev pub range_at : List Column → Option PlanRange → Option ColumnRange
range_at columns None = None
range_at columns (Some r) =
    option_map (λ c. record { id = c.id; range = r.range }) (slice_get columns r.place)

-- what a plan chooses of the rows that come, in a table with these columns
abbrev pub selection_by : List Column → Plan → Selection
selection_by columns p = record {
  columns = views.chosen columns p.columns;
  range = range_at columns p.range;
  skip = p.skip;
  most = p.most;
}

-- each position is one of a column
abbrev pub ArePositions : List Column → List ℕ → Type 0
ArePositions columns positions = AllByRecursion (λ at. at < length columns) positions

-- the position of a range is one of a column
abbrev pub IsRangeIn : List Column → Option PlanRange → Type 0
IsRangeIn columns range = IfSome range (λ r. r.place < length columns)

-- no two columns have the same id
abbrev pub HaveOwnIds : List Column → Type 0
HaveOwnIds columns = are_distinct_ids (map (λ c. c.id) columns) ≡ true

-- columns have ids of their own, and a plan's positions are theirs
pub record IsPlanOf (columns : List Column) (p : Plan) : Type 0 where
  pub own_ids : HaveOwnIds columns
  pub shown : ArePositions columns p.columns
  pub range_in : IsRangeIn columns p.range

-- the columns and the range stay
pub record KeepsWords (old new : Plan) : Type 0 where
  pub same_columns : new.columns ≡ old.columns
  pub same_range : new.range ≡ old.range

-- the plan chooses as before, and its text is as it was
pub record StaysPut (old new : Plan) : Type 0 where
  pub same_skip : new.skip ≡ old.skip
  pub same_most : new.most ≡ old.most
  pub same_shown : new.shown ≡ old.shown
  pub same_text : new.text ≡ old.text

-- nothing but the number of rows that are left out is another
abbrev pub OnlySkips : Plan → Plan → Type 0
OnlySkips old new = new ≡ record old { skip = new.skip }

-- no row is asked
abbrev pub asks_none : Option ℕ → Bool
asks_none None = false
asks_none (Some most) = most == 0

-- a plan whose text is empty
abbrev pub emptied : Plan → Plan
emptied p = record {
  columns = p.columns;
  range = p.range;
  skip = p.skip;
  most = p.most;
  shown = p.shown;
  line = p.line;
  text = [];
}

-- ---- rows that are passed

-- how many of the rows are in a range
abbrev pub matches : Option ColumnRange → List Row → ℕ
matches range rows = length (filter (is_within range) rows)

-- rows that were passed are counted where they are in the range: first as left out, then as shown
pub record CountsDown (old new : Selection) (passed : List Row) : Type 0 where
  pub skips : new.skip ≡ old.skip - matches old.range passed
  pub asks : new.most ≡ option_map (λ n. n - (matches old.range passed - old.skip)) old.most

-- The first of the rows were passed, up to those that are left, and counted. The lines of those of
-- them that are chosen were put behind the text.
pub record Passes (columns : List Column) (old new : Plan) (rows left : List Row) : Type 0 where
  pub passed : List Row
  pub first : rows ≡ passed ++ left
  pub counts : CountsDown (selection_by columns old) (selection_by columns new) passed
  pub is_text : new.text ≡ old.text ++ flat_map (line_of (selection_by columns old).columns)
      (chosen (selection_by columns old) passed)
  pub counted : old.shown + length (chosen (selection_by columns old) passed) < 2 ^ 64
      → new.shown ≡ old.shown + length (chosen (selection_by columns old) passed)

-- ---- the crate's own calls

-- a view is one of a record with these fields, which has these values
pub record IsViewOf (columns : List Column) (p : Projection) (fs : Fields) (vs : List Value)
    (view : List ℕ) : Type 0 where
  pub is_projection : IsProjection p columns fs
  pub is_record : record_at (passed_of columns fs) view ≡ Ok (vs, [])

-- it is told whether the row of a record is in the range
abbrev pub TestsRange : Bool → Option PlanRange → Projection → List ℕ → Type 0
TestsRange answer range p view = (columns : List Column) (fs : Fields) (vs : List Value)
    → IsViewOf columns p fs vs view → HaveOwnIds columns → IsRangeIn columns range
    → answer ≡ is_within (range_at columns range) (row_by_ids columns fs vs)

-- the line has the data of the row of a record that stand in the columns at these positions
abbrev pub PrintsLine : Result (Unit {0}) NoMemory → List ℕ → Projection → List ℕ → List ℕ → Type 0
PrintsLine result line p view positions = OnOk result ((columns : List Column) (fs : Fields)
    (vs : List Value) → IsViewOf columns p fs vs view → HaveOwnIds columns
    → ArePositions columns positions
    → line ≡ line_of (views.chosen columns positions) (row_by_ids columns fs vs))

-- the row of a record was passed
abbrev pub PassesRow : Result (Unit {0}) NoMemory → Plan → Plan → Projection → List ℕ → Type 0
PassesRow result old new p view = OnOk result ((columns : List Column) (fs : Fields)
    (vs : List Value) → IsViewOf columns p fs vs view → IsPlanOf columns old
    → Passes columns old new (row_by_ids columns fs vs ∷ []) [])
