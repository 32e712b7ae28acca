-- The rounds so far, of each block.
use Rattle.std.proofs.Common.{[]}
use Rattle.std.specs.List.{slice_index_or}
use Rattle.icb_aes.specs.Fips197.{expanded_key, after_rounds, state_from}
use Rattle.icb_aes.specs.Planes.{Holds, byte_of}
use Rattle.icb_aes.proofs.sliced.SlicedKey.encrypt.Given as goal

abbrev pub invariant-loop-i : goal.invariant-loop-i
invariant-loop-i l =
    Holds l.state (λ b. byte_of (after_rounds (expanded_key l.self) (state_from (slice_index_or l.blocks b [])) l.i))
