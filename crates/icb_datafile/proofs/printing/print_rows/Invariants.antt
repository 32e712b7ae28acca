use Rattle.std.proofs.Common.{◌≡◌, ◌+◌, ◌-◌, List, length}
use Rattle.icb_schema.specs.Tree.{Fields}
use Rattle.icb_avro.specs.Cursor.{unread}
use Rattle.icb_types.specs.declared.columns.Column.{Column}
use Rattle.icb_rows.specs.Views.{IsProjection}
use Rattle.icb_table.specs.Listed.{Listed}
use Rattle.icb_datafile.specs.Plans.{IsPlanOf, KeepsWords}
use Rattle.icb_datafile.proofs.BlockLemmas.{PassedRows, rows_at}
use Rattle.icb_datafile.proofs.printing.print_rows.Given as goal

abbrev pub invariant-loop-passed : goal.invariant-loop-passed
invariant-loop-passed g l = record {
  whole : l.cursor.whole ≡ l.block.bytes;
  words : KeepsWords l.initial.plan l.plan;
  rows : (columns : List Column) (fs : Fields) (f : Listed) → IsProjection l.projection columns fs → IsPlanOf columns l.initial.plan
      → PassedRows columns l.initial.plan l.plan (rows_at columns f fs (l.block.place + length l.block.bytes) l.block.count l.block.bytes)
      (rows_at columns f fs (l.block.place + length l.block.bytes) (l.block.count - l.passed) (unread l.cursor));
}
