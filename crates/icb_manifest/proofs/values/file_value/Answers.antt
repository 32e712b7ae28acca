use Rattle.std.proofs.Common.{ap}
use Rattle.icb_avro.specs.declared.value.Value.TheVariants as value
use Rattle.icb_manifest.specs.Written.{file_value}
use Rattle.icb_manifest.proofs.values.file_value.Goals as goal

pub returns : goal.returns
unfolding file_value
returns c = ap value.Record c.in_ok-values.ensures
