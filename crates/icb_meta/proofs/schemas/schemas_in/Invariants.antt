use Rattle.std.proofs.Common.{◌≡◌, ◌++◌, drop, map, option_map}
use Rattle.serde_json.specs.View.{view}
use Rattle.icb_schema.specs.Reading.{all_read}
use Rattle.icb_meta.specs.Forms.{schema_in}
use Rattle.icb_meta.proofs.schemas.schemas_in.Given as goal

abbrev pub invariant-loop-item : goal.invariant-loop-item
invariant-loop-item l =
    all_read schema_in (map view l.items) ≡ option_map (λ more. l.schemas.items ++ more) (all_read schema_in (map view (drop l.item-index l.items)))
