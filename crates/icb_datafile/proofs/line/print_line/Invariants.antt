use Rattle.std.proofs.Common.{◌≡◌, List, [], drop, map}
use Rattle.icb_schema.specs.Tree.{Fields}
use Rattle.icb_avro.specs.declared.value.Value.{Value}
use Rattle.icb_types.specs.declared.columns.Column.{Column}
use Rattle.icb_rows.specs.Records.{datum_by_id}
use Rattle.icb_rows.specs.Views.{chosen}
use Rattle.icb_datafile.specs.Plans.{ArePositions, IsViewOf}
use Rattle.icb_datafile.proofs.DatumLemmas.{line_with}
use Rattle.icb_datafile.proofs.line.print_line.Given as goal

abbrev pub invariant-loop-position : goal.invariant-loop-position
invariant-loop-position l = (columns : List Column) (fs : Fields) (vs : List Value)
    → IsViewOf columns l.projection fs vs l.view → ArePositions columns l.positions
    → line_with l.line (map (λ c. datum_by_id c fs vs) (chosen columns (drop l.position-index l.positions)))
    ≡ line_with [] (map (λ c. datum_by_id c fs vs) (chosen columns l.positions))
