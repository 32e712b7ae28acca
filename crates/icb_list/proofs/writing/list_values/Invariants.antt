use Rattle.std.proofs.Common.{◌≡◌, map, take}
use Rattle.icb_list.specs.Written.{row_value}
use Rattle.icb_list.proofs.writing.list_values.Given as goal

abbrev pub invariant-loop-row : goal.invariant-loop-row
invariant-loop-row l = l.values.items ≡ map row_value (take l.row-index l.rows)
