-- A part of the front is known.
use Rattle.std.proofs.Common.{arith}
use Rattle.std.proofs.lemmas.Grind.{common_steps}
use Rattle.file_tests.proofs.readers.FrontReaderReadAt.read_at.Goals as goal

pub returns-clause-bytes : goal.returns-clause-bytes
returns-clause-bytes c known is = is.1 c.args.at c.copy_from_slice.new.self (omega arith) (grind (arith, common_steps))
