-- The lines of the numbers in between are those of the batch.
use Rattle.std.proofs.Common.{◌≡◌, ◌+◌, ◌*◌, min, arith}
use Rattle.icb_generate.proofs.BatchLemmas.{batch_between}
use Rattle.icb_generate.proofs.batches.batch.Goals as goal

pub returns : goal.returns
returns c =
    let is_first : c.min-first.result ≡ min (10000 * c.args.number) c.args.rows =
    omega (arith, c.min-first.ensures, c.saturating_mul.ensures, c.ranges.rows) in
    let is_last : c.min-last.result ≡ min (c.min-first.result + 10000) c.args.rows =
    omega (arith, c.min-last.ensures, c.saturating_add.ensures, c.ranges.rows) in
    rw (batch_between c.args.seed c.args.rows c.args.number c.min-first.result c.min-last.result is_first is_last) c.lines_between.ensures
