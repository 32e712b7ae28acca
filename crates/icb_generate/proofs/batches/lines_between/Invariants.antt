-- The lines of the rows before this one.
use Rattle.std.proofs.Common.{◌≡◌, ◌-◌}
use Rattle.std.specs.List.{flat_map, range_with_len}
use Rattle.icb_generate.specs.Rows.{row_of}
use Rattle.icb_types.specs.Lines.{row_line}
use Rattle.icb_generate.proofs.batches.lines_between.Given as goal

abbrev pub invariant-loop-number : goal.invariant-loop-number
invariant-loop-number l =
    l.lines ≡ flat_map (λ i. row_line (row_of l.seed i)) (range_with_len l.first (l.number - l.first))
