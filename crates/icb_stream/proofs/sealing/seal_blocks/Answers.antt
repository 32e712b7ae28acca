-- All blocks are written.
use Rattle.std.proofs.Common.{◌≡◌, ℕ, length, ap, ◌∙◌, arith}
use Rattle.icb_stream.specs.Sealing.{sealed_count}
use Rattle.icb_stream.proofs.SealedCutLemmas.{count_facts}
use Rattle.icb_stream.proofs.WritingLemmas.{all_of_file, nothing_written, rises_again}
use Rattle.icb_stream.proofs.sealing.seal_blocks.Goals as goal

pub pieces-init : goal.pieces-init
pieces-init c = record {
  same_file = ap (λ m. record c.args.sealer.now { next = m }) c.requires.first;
  before = nothing_written c.args.sealer.now c.args.block c.args.plain.now c.args.out.now c.requires.first;
}

pub pieces-preserved : goal.pieces-preserved
pieces-preserved c = record {
  same_file = rises_again c.args.sealer.now c.pieces.sealer c.seal_piece.new.sealer c.pieces.counter
      c.pieces.invariant.same_file c.seal_piece.ensures.rises;
  before = c.seal_piece.ensures.up_to_next;
}

pub seal_piece-requires-clause-seed : goal.seal_piece-requires-clause-seed
seal_piece-requires-clause-seed c = ap (λ s. length s.seed) c.pieces.invariant.same_file ∙ c.requires.seed

pub seal_piece-requires-clause-next : goal.seal_piece-requires-clause-next
seal_piece-requires-clause-next c =
    let next : c.pieces.sealer.next ≡ c.pieces.counter = ap (λ s. s.next) c.pieces.invariant.same_file in
    omega (arith, next, c.pieces-test.true, c.sealed_count-count.ensures)

pub returns-clause-same_file : goal.returns-clause-same_file
returns-clause-same_file c =
    let all : c.pieces.counter ≡ sealed_count (length c.args.plain.now) c.args.block =
    omega (arith, c.pieces-test.false, c.pieces.auto, c.sealed_count-count.ensures) in
    c.pieces.invariant.same_file ∙ ap (λ m. record c.args.sealer.now { next = m }) all

pub returns-clause-blocks : goal.returns-clause-blocks
returns-clause-blocks c =
    let n : ℕ = sealed_count (length c.args.plain.now) c.args.block in
    let all : c.pieces.counter ≡ n = omega (arith, c.pieces-test.false, c.pieces.auto, c.sealed_count-count.ensures) in
    all_of_file c.args.sealer.now c.pieces.sealer c.args.block n c.args.plain.now c.pieces.out
    (count_facts c.args.block (length c.args.plain.now) c.requires.sizes.some)
    (c.pieces.auto.out ∙ c.requires.room)
    (c.pieces.invariant.same_file ∙ ap (λ m. record c.args.sealer.now { next = m }) all)
    c.pieces.invariant.before

pub seal_piece-requires-clause-before : goal.seal_piece-requires-clause-before
seal_piece-requires-clause-before c = c.pieces.invariant.before
