-- The sum after the first blocks.
use Rattle.std.proofs.Common.{ℕ, List, ◌^◌, ◌<◌, ◌++◌, take}
use Rattle.std.specs.List.{concat}
use Rattle.icb_ghash.specs.Sums.{IsSumOf}
use Rattle.icb_ghash.specs.Tables.{ArePlaceProducts}
use Rattle.icb_ghash.proofs.key.sum_by_places.Given as goal

abbrev pub invariant-loop-block : goal.invariant-loop-block
invariant-loop-block l = (h : ℕ) (message : List ℕ) → h < 2 ^ 128 → ArePlaceProducts l.products h
    → IsSumOf h l.initial.sum message → IsSumOf h l.sum (message ++ concat (take l.block-index l.blocks))
