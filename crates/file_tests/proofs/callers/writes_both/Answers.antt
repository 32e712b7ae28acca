-- Two texts that are written one after the other are one text, and so is a first one whose write failed.
use Rattle.std.proofs.Common.{rules, IsErr}
use Rattle.icb_base.proofs.CallLemmas.{writes_failed, writes_twice}
use Rattle.file_tests.proofs.callers.writes_both.Goals as goal

pub returns-in_err-writes : goal.returns-in_err-writes
returns-in_err-writes g c =
    writes_failed g.O.Sink c.args.one.now c.args.two.now (IsErr c.writes.result) (IsErr c.from_residual.result) _ _
    (search rules) (search rules) c.writes.ensures

pub returns : goal.returns
returns g c =
    writes_twice g.O.Sink c.args.one.now c.args.two.now (IsErr c.writes.result) (IsErr c.writes-2.result) _ _ _
    (search rules) c.writes.ensures c.writes-2.ensures
