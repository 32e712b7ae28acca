use Rattle.icb_meta.proofs.ShownLemmas.{path_read, resolved_is}
use Rattle.icb_meta.proofs.ids.resolved.Goals as goal

pub returns-in-Ok : goal.returns-in-Ok
returns-in-Ok c =
    let is_path = path_read c.read.result c.in-Some.part.now c.in-Ok.path c.in-Ok.is c.read.ensures.bad_path_exactly in
    resolved_is c.args.location.now c.args.full.now c.in-Some.part.now c.in-Ok.path c.in-Some.ensures is_path c.in-Ok.ensures.path
