use Rattle.std.proofs.Common.{◌≡◌, ◌++◌, ℤ, map, take}
use Rattle.icb_avro.specs.declared.value.Value.{Value}
use Rattle.icb_avro.specs.declared.value.Value.TheVariants as value
use Rattle.icb_list.proofs.writing.row_values.Given as goal

abbrev pub invariant-loop-count : goal.invariant-loop-count
invariant-loop-count l = l.values ≡ l.initial.values ++ map {A = ℤ} {B = Value} value.Int (take {A = ℤ} l.count-index l.row.files)

abbrev pub invariant-loop-count-2 : goal.invariant-loop-count-2
invariant-loop-count-2 l = l.values ≡ l.initial.values ++ map {A = ℤ} {B = Value} value.Long (take {A = ℤ} l.count-index l.row.rows)
