use Rattle.std.proofs.Common.{◌≡◌, ◌++◌, drop, map, option_map}
use Rattle.serde_json.specs.View.{view}
use Rattle.icb_schema.specs.Heads.{head_view}
use Rattle.icb_schema.specs.Reading.{all_read, head_of}
use Rattle.icb_schema.proofs.heads.heads_in.Given as goal

abbrev pub invariant-loop-item : goal.invariant-loop-item
invariant-loop-item l = all_read head_of (map view l.items) ≡ option_map (λ more. map head_view l.heads.items ++ more) (all_read head_of (map view (drop l.item-index l.items)))
