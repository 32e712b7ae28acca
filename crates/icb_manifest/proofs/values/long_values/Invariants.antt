use Rattle.std.proofs.Common.{◌≡◌, map, take}
use Rattle.icb_manifest.specs.Written.{long_value}
use Rattle.icb_manifest.proofs.values.long_values.Given as goal

abbrev pub invariant-loop-pair : goal.invariant-loop-pair
invariant-loop-pair l = l.values ≡ map long_value (take l.pair-index l.pairs)
