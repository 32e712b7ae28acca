-- The next block is written into its place.
use Rattle.std.proofs.Common.{◌≡◌, ℕ, ◌+◌, ◌-◌, ◌*◌, length, ap, ◌∙◌, arith, length-take, length-drop}
use Rattle.icb_stream.specs.Sealing.{sealed_count}
use Rattle.icb_stream.proofs.SealedCutLemmas.{count_facts}
use Rattle.icb_stream.proofs.WritingLemmas.{IsPlace, one_more, place_facts}
use Rattle.icb_stream.proofs.sealing.seal_piece.Goals as goal

pub returns-clause-up_to_next : goal.returns-clause-up_to_next
returns-clause-up_to_next c =
    let B : ℕ = c.args.block in
    let P : ℕ = length c.args.plain.now in
    let i : ℕ = c.args.sealer.now.next in
    let n : ℕ = sealed_count P B in
    let number : ℕ = c.next-number.result in
    let from : ℕ = number * B in
    let to : ℕ = c.min-to.result in
    let start : ℕ = from + 28 * number in
    let end : ℕ = to + 28 * (number + 1) in
    let begins : from ≡ i * B = ap (λ m. m * B) c.next-number.ensures in
    let place : IsPlace B P n i from to start end =
    place_facts B P n i from to start end (count_facts B P c.requires.sizes.some) c.requires.next begins c.min-to.ensures
    (ap (λ m. from + 28 * m) c.next-number.ensures) (ap (λ m. to + 28 * (m + 1)) c.next-number.ensures) in
    let size : length c.seal_block.new.out ≡ end - start =
    c.seal_block.auto.out ∙ (simp (length-take, length-drop) (omega (arith, place.size, place.end_in, c.requires.room))) in
    rw c.seal_block.ensures.rises
    (one_more c.args.sealer.now.key c.args.sealer.now.seed c.args.sealer.now.prefix c.args.plain.now c.args.out.now
    c.seal_block.new.out B i n from to start end c.requires.seed c.requires.sizes.most place begins c.min-to.ensures
    c.requires.room c.seal_block.ensures.block size c.requires.before)
