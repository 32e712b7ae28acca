-- A block begins in the file and has room for its nonce and tag.
use Rattle.std.proofs.Common.{arith}
use Rattle.icb_stream.proofs.CutLemmas.{cut_facts, block_room}
use Rattle.icb_stream.proofs.cut.Cut.size.Goals as goal

pub overflow_sub-left : goal.overflow_sub-left
overflow_sub-left c = omega (arith, block_room _ _ _ c.args.number (cut_facts _ _ c.args.self.now.is_cut) c.requires)

pub returns-clause-room : goal.returns-clause-room
returns-clause-room c = omega (arith, block_room _ _ _ c.args.number (cut_facts _ _ c.args.self.now.is_cut) c.requires)
