-- The words of the snapshot, and then the line of the version.
use Rattle.std.proofs.Common.{◌≡◌, rules, to_z, of_z, w64}
use Rattle.std.specs.Prelude.{IsErr}
use Rattle.icb_base.specs.Calls.{WritesText}
use Rattle.icb_base.proofs.CallLemmas.{writes_failed, writes_twice}
use Rattle.icb_run.specs.Answers.{version_line}
use Rattle.icb_run.specs.Append.{snapshot_words}
use Rattle.icb_run.proofs.append.print_committed.Goals as goal

pub returns-in_err-print_snapshot : goal.returns-in_err-print_snapshot
returns-in_err-print_snapshot g c =
    let same : to_z w64 (of_z w64 c.args.committed.snapshot) ≡ c.args.committed.snapshot = search rules in
    let wrote : WritesText g.O.Sink (snapshot_words c.args.committed.snapshot) (IsErr c.print_snapshot.result) c.args.out.now c.print_snapshot.new.out =
    rw same at c.print_snapshot.ensures in
    writes_failed g.O.Sink (snapshot_words c.args.committed.snapshot) (version_line c.args.committed.version)
    (IsErr c.print_snapshot.result) (IsErr c.from_residual.result) _ _ (search rules) (search rules) wrote

pub returns : goal.returns
returns g c =
    let same : to_z w64 (of_z w64 c.args.committed.snapshot) ≡ c.args.committed.snapshot = search rules in
    let wrote : WritesText g.O.Sink (snapshot_words c.args.committed.snapshot) (IsErr c.print_snapshot.result) c.args.out.now c.print_snapshot.new.out =
    rw same at c.print_snapshot.ensures in
    writes_twice g.O.Sink (snapshot_words c.args.committed.snapshot) (version_line c.args.committed.version)
    (IsErr c.print_snapshot.result) (IsErr c.print_version.result) _ _ _ (search rules) wrote c.print_version.ensures
