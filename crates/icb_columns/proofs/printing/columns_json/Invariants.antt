use Rattle.std.proofs.Common.{◌≡◌, drop}
use Rattle.serde_json.specs.View.{items_view}
use Rattle.icb_schema.proofs.PrintLemmas.{joined}
use Rattle.icb_columns.specs.Printed.{columns_json}
use Rattle.icb_columns.proofs.printing.columns_json.Given as goal

abbrev pub invariant-loop-column : goal.invariant-loop-column
invariant-loop-column l = columns_json l.columns ≡ joined (items_view l.values.items) (columns_json (drop l.column-index l.columns))
