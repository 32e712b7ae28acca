use Rattle.std.proofs.Common.{◌≡◌, map, take}
use Rattle.icb_manifest.specs.Written.{bytes_value}
use Rattle.icb_manifest.proofs.values.bytes_values.Given as goal

abbrev pub invariant-loop-pair : goal.invariant-loop-pair
invariant-loop-pair l = l.values ≡ map bytes_value (take l.pair-index l.pairs)
