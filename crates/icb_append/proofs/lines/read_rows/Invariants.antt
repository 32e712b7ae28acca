use Rattle.std.proofs.Common.{◌≡◌, ◌+◌, ◌≤◌, length}
use Rattle.icb_append.specs.Lines.{lines_of, rows_from, rows_of_input}
use Rattle.icb_append.proofs.LineLemmas.{behind}
use Rattle.icb_append.proofs.lines.read_rows.Given as goal

abbrev pub invariant-loop-rest : goal.invariant-loop-rest
invariant-loop-rest l = record {
  same : behind l.rows (rows_from (l.number + 1) l.schema.columns (lines_of l.rest)) ≡ rows_of_input l.schema.columns l.input;
  few : l.number + length l.rest ≤ length l.input;
}

abbrev pub decreases-loop-rest : goal.decreases-loop-rest
decreases-loop-rest l = length l.rest
