-- The sum after the first blocks.
use Rattle.std.proofs.Common.{ℕ, List, ◌++◌, take}
use Rattle.std.specs.List.{concat}
use Rattle.icb_ghash.specs.Sums.{IsSumOf}
use Rattle.icb_ghash.proofs.key.HashKey.sum_after_few.Given as goal

abbrev pub invariant-loop-block : goal.invariant-loop-block
invariant-loop-block l = (message : List ℕ) → IsSumOf l.self l.initial.sum message
    → IsSumOf l.self l.sum (message ++ concat (take l.block-index l.blocks))
