use Rattle.icb_schema.specs.Shape.{shape_of}
use Rattle.icb_avro.specs.Writing.{written}
use Rattle.icb_avro.proofs.Complete.{value_again}
use Rattle.icb_avro.proofs.WrittenIsSpelled.{value_spells}
use Rattle.icb_avro.proofs.encoding.encode.Goals as goal

pub returns-then-is_err-clause-read_again : goal.returns-then-is_err-clause-read_again
returns-then-is_err-clause-read_again c = λ fits readable more. value_again (shape_of c.args._node.now) readable c.args.value.now (written c.args.value.now) more (value_spells (shape_of c.args._node.now) c.args.value.now fits)

pub returns-else-is_err-clause-read_again : goal.returns-else-is_err-clause-read_again
returns-else-is_err-clause-read_again c = λ fits readable more. value_again (shape_of c.args._node.now) readable c.args.value.now (written c.args.value.now) more (value_spells (shape_of c.args._node.now) c.args.value.now fits)
