-- The sum behind the bytes before this one.
use Rattle.std.proofs.Common.{◌≡◌, take, fold}
use Rattle.icb_generate.specs.Days.{behind}
use Rattle.icb_generate.proofs.day_sum.sum_of_days.Given as goal

abbrev pub invariant-loop-byte : goal.invariant-loop-byte
invariant-loop-byte l = l.total ≡ fold behind (record { sum = 0; day = 0 }) (take l.byte-index l.text)
