use Rattle.serde_json.specs.Find.{as_str}
use Rattle.std.proofs.Common.{◌≡◌, ◌++◌, drop, map, option_map}
use Rattle.serde_json.specs.View.{view}
use Rattle.icb_schema.specs.Reading.{all_read}
use Rattle.icb_schema.proofs.heads.texts_of.Given as goal

abbrev pub invariant-loop-item : goal.invariant-loop-item
invariant-loop-item l = all_read as_str (map view l.items) ≡ option_map (λ more. map (λ t. t.now) l.texts.items ++ more) (all_read as_str (map view (drop l.item-index l.items)))
