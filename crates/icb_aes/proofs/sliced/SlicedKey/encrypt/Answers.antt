-- The rounds are the cipher's, of each block.
use Rattle.std.proofs.Common.{◌≡◌, ◌∙◌, ap, ◌+◌, ◌/◌, [], length, arith}
use Rattle.std.specs.List.{slice_index_or}
use Rattle.icb_aes.specs.Fips197.{expanded_key, round_key, after_rounds, state_from}
use Rattle.icb_aes.proofs.BlockPlanes.{cipher_block, more_rounds, start_byte}
use Rattle.icb_aes.proofs.PlaneLemmas.{holds_same}
use Rattle.icb_aes.proofs.sliced.SlicedKey.encrypt.Goals as goal

pub loop-i-init : goal.loop-i-init
loop-i-init c =
    holds_same _ _ _ (c.sum-state.ensures _ _ c.planes_of.ensures (c.round_key.ensures (omega arith)))
    (λ b p _ l. start_byte (expanded_key c.args.self.now) (slice_index_or c.args.blocks.now b []) p l)

pub loop-i-preserved : goal.loop-i-preserved
loop-i-preserved c =
    let size : length c.bytes.result.now ≡ length c.args.self.now = ap length (c.bytes.ensures.bytes ∙ c.self.view_is) in
    more_rounds _ (expanded_key c.args.self.now) (λ b. state_from (slice_index_or c.args.blocks.now b [])) c.loop-i.i
    (c.round-next.ensures (λ b. after_rounds (expanded_key c.args.self.now) (state_from (slice_index_or c.args.blocks.now b [])) c.loop-i.i)
    (round_key (expanded_key c.args.self.now) (c.loop-i.i + 1)) c.loop-i.invariant (c.round_key-in-loop-i.ensures (omega (arith, size))))

pub returns : goal.returns
returns c = λ b h.
    let size : length c.bytes.result.now ≡ length c.args.self.now = ap length (c.bytes.ensures.bytes ∙ c.self.view_is) in
    let n = length c.bytes.result.now / 4 + 6 in
    cipher_block c.args.self.now (slice_index_or c.args.blocks.now b []) _ c.loop-i.i n (omega (arith, size)) (omega (arith, size))
    (c.blocks_of.ensures.whole b h)
    (λ p l. c.blocks_of.ensures.bytes _ (c.last_round.ensures
    (λ b. after_rounds (expanded_key c.args.self.now) (state_from (slice_index_or c.args.blocks.now b [])) c.loop-i.i)
    (round_key (expanded_key c.args.self.now) n) c.loop-i.invariant (c.round_key-2.ensures (omega (arith, size)))) b p h l)
