use Rattle.std.proofs.Common.{◌∙◌, w64}
use Rattle.std.proofs.lemmas.Int.{to_z-of_z}
use Rattle.icb_container.proofs.Appended.{count_written}
use Rattle.icb_container.proofs.writing.put_count.Goals as goal

pub returns : goal.returns
returns c =
    count_written c.encode.result _ c.args.count c.args.out.now c.encode.new.out
    (to_z-of_z w64 c.in-Ok.number (rw c.in-Ok.ensures.1 c.in-Ok.ensures.0) ∙ c.in-Ok.ensures.1) c.encode.ensures.ok
