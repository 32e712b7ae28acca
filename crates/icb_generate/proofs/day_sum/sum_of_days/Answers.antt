-- All bytes were read.
use Rattle.std.proofs.Common.{◌∙◌, ap, arith, fold}
use Rattle.std.proofs.lemmas.List.{take_all}
use Rattle.icb_generate.specs.Days.{behind}
use Rattle.icb_generate.proofs.DayLemmas.{sums_days}
use Rattle.icb_generate.proofs.day_sum.sum_of_days.Goals as goal

pub returns : goal.returns
returns c = sums_days c.args.text.now c.loop-byte.total
    (c.loop-byte.invariant ∙ ap (fold behind (record { sum = 0; day = 0 })) (take_all c.loop-byte.byte-index c.args.text.now (omega arith)))
