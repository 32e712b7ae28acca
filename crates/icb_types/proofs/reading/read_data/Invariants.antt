use Rattle.std.proofs.Common.{◌≡◌, drop, map}
use Rattle.serde_json.specs.View.{view}
use Rattle.icb_types.specs.Lines.{data_from}
use Rattle.icb_types.proofs.ReadLemmas.{behind}
use Rattle.icb_types.proofs.reading.read_data.Given as goal

abbrev pub invariant-loop-at : goal.invariant-loop-at
invariant-loop-at l =
    behind l.row.items (data_from l.at (drop l.at l.columns) (map view (drop l.at l.values)))
    ≡ data_from 0 l.columns (map view l.values)
