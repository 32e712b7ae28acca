-- What was drawn grows by what was filled.
use Rattle.std.proofs.Common.{ap, arith, Some}
use Rattle.std.proofs.lemmas.Grind.{common_steps}
use Rattle.icb_base.proofs.TransferLemmas.{drawn_more}
use Rattle.icb_base.proofs.memory_bytes.ByteDrawsDraws.fill.Goals as goal

pub returns-clause-filled : goal.returns-clause-filled
returns-clause-filled c =
    ap Some (drawn_more c.args.self.now.bytes c.copy_from_slice.new.self c.args.self.now.place (grind (arith, common_steps)))
