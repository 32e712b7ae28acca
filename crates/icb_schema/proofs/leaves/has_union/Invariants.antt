use Rattle.std.proofs.Common.{◌≡◌, drop, map}
use Rattle.std.specs.List.{list_any}
use Rattle.serde_json.specs.View.{view}
use Rattle.icb_schema.specs.Reading.{is_union}
use Rattle.icb_schema.proofs.leaves.has_union.Given as goal

abbrev pub invariant-loop-item : goal.invariant-loop-item
invariant-loop-item l = list_any (is_union l.levels) (map view l.items) ≡ list_any (is_union l.levels) (map view (drop l.item-index l.items))
