-- The part that was copied is known.
use Rattle.std.proofs.Common.{arith}
use Rattle.std.proofs.lemmas.Grind.{common_steps}
use Rattle.icb_base.proofs.TransferLemmas.{part_is_known}
use Rattle.icb_base.proofs.memory_bytes.SliceReaderReadAt.read_at.Goals as goal

pub returns-clause-bytes : goal.returns-clause-bytes
returns-clause-bytes c known is =
    part_is_known c.args.self.now.bytes.now c.copy_from_slice.new.self c.args.at known (grind (arith, common_steps)) is
