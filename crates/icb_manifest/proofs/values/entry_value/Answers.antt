use Rattle.std.proofs.Common.{ap}
use Rattle.icb_avro.specs.declared.value.Value.TheVariants as value
use Rattle.icb_manifest.specs.Written.{entry_value}
use Rattle.icb_manifest.proofs.values.entry_value.Goals as goal

pub returns : goal.returns
unfolding entry_value
returns c = ap value.Record c.in_ok-values.ensures
