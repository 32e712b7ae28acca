use Rattle.std.proofs.Common.{ap}
use Rattle.icb_avro.specs.declared.value.Value.TheVariants as value
use Rattle.icb_list.specs.Written.{row_value}
use Rattle.icb_list.proofs.writing.row_value.Goals as goal

pub returns : goal.returns
unfolding row_value
returns c = ap value.Record c.in_ok-values.ensures
