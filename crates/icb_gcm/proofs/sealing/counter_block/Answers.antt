-- The nonce, and behind it the counter.
use Rattle.std.proofs.Common.{◌≡◌, ℕ, ◌%◌, ◌^◌, List, ◌++◌, refl, ap, ◌∙◌, arith}
use Rattle.std.specs.Int.{w32, to_be_bytes}
use Rattle.icb_gcm.specs.Gcm.{counter_block}
use Rattle.icb_gcm.proofs.BytesLemmas.{second_part}
use Rattle.icb_gcm.proofs.sealing.counter_block.Goals as goal

pub returns : goal.returns
unfolding counter_block
returns c =
    let whole : c.args.j ≡ c.args.j % 2 ^ 32 = omega (arith, c.ranges.j) in
    second_part 12 4 c.copy_from_slice.new.self _ c.copy_from_slice-2.new.self c.copy_from_slice.ensures.len refl
    ∙ ap (λ (bs : List ℕ). bs ++ c.copy_from_slice-2.new.self) c.copy_from_slice.ensures.after
    ∙ ap (λ (bs : List ℕ). c.args.nonce.now ++ bs)
    (c.copy_from_slice-2.ensures.after ∙ c.to_be_bytes.ensures ∙ ap (to_be_bytes w32) whole)
