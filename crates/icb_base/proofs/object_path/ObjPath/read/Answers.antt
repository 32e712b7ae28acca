-- A text in the form of a path is ASCII, so it is UTF-8 and this branch isn't reached.
use Rattle.std.proofs.Common.{rules}
use Rattle.icb_base.proofs.PathLemmas.{path_utf8}
use Rattle.icb_base.proofs.object_path.ObjPath.read.Goals as goal

pub returns-in_default-clause-bad_path_exactly : goal.returns-in_default-clause-bad_path_exactly
returns-in_default-clause-bad_path_exactly c =
    absurd (c.in_default.ensures.cases.0 (path_utf8 c.args.text.now (search rules)))
