use Rattle.std.proofs.Common.{◌≡◌, ◌++◌, drop, map, option_map}
use Rattle.serde_json.specs.View.{view}
use Rattle.icb_schema.specs.Reading.{all_read}
use Rattle.icb_meta.specs.Forms.{snapshot_in}
use Rattle.icb_meta.proofs.snapshots.all_snapshots.Given as goal

abbrev pub invariant-loop-item : goal.invariant-loop-item
invariant-loop-item l =
    all_read snapshot_in (map view l.items) ≡ option_map (λ more. l.snapshots ++ more) (all_read snapshot_in (map view (drop l.item-index l.items)))
