-- The whole blocks, and what is left with its zeros as one block more.
use Rattle.std.proofs.Common.{◌≡◌, ◌%◌, ◌<◌, length, subst, arith}
use Rattle.std.proofs.lemmas.Bool.Decides.{nat_tests}
use Rattle.icb_ghash.specs.Hashing.{Holds}
use Rattle.icb_ghash.proofs.HashLemmas.{padded_none, padded_rest}
use Rattle.icb_ghash.proofs.hash.Ghash.update.Goals as goal

pub returns-then-not-is_empty : goal.returns-then-not-is_empty
returns-then-not-is_empty c = λ h message holds.
    let some : 0 < length c.args.bytes.now % 16 = grind (arith, nat_tests) in
    subst (Holds h c.add_blocks-then-not-is_empty.new.self)
    (padded_rest message c.args.bytes.now c.as_chunks.result.1.now c.zero_padded.result c.as_chunks.result.0.now some
    c.as_chunks.ensures.front c.as_chunks.ensures.back c.as_chunks.ensures.back_len c.zero_padded.ensures)
    (c.add_blocks-then-not-is_empty.ensures h _ (c.add_blocks.ensures h message holds))

pub returns-else-not-is_empty : goal.returns-else-not-is_empty
returns-else-not-is_empty c = λ h message holds.
    let none : length c.args.bytes.now % 16 ≡ 0 = grind (arith, nat_tests) in
    subst (Holds h c.add_blocks.new.self)
    (padded_none message c.args.bytes.now c.as_chunks.result.0.now none c.as_chunks.ensures.front)
    (c.add_blocks.ensures h message holds)
