-- A cipher block is at most a whole one.
use Rattle.std.proofs.Common.{arith, length-take}
use Rattle.icb_stream.proofs.CutLemmas.{cut_facts}
use Rattle.icb_stream.proofs.stream.open_in.Goals as goal

pub open_at-requires-clause-small : goal.open_at-requires-clause-small
open_at-requires-clause-small g c =
    simp length-take
    (let cut = cut_facts _ _ c.args.cut.now.is_cut in
    omega (arith, cut.most_length, c.size-size.ensures.block))
