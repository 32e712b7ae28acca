use Rattle.std.proofs.Common.{◌≡◌, map, take}
use Rattle.icb_manifest.specs.Written.{entry_value}
use Rattle.icb_manifest.proofs.values.manifest_values.Given as goal

abbrev pub invariant-loop-entry : goal.invariant-loop-entry
invariant-loop-entry l = l.values.items ≡ map entry_value (take l.entry-index l.entries)
