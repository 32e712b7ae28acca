-- The rows of bits become planes.
use Rattle.std.proofs.Common.{[]}
use Rattle.std.specs.Prelude.{slice_index}
use Rattle.std.specs.Int.{bit_at}
use Rattle.std.specs.List.{slice_index_or}
use Rattle.icb_aes.proofs.BlockPlanes.{blocks_are, blocks_held, rows_loaded}
use Rattle.icb_aes.proofs.sliced.planes_of.Goals as goal

pub returns : goal.returns
returns c =
    let blocks = c.args.blocks.now in
    let are = blocks_are blocks _ _ _ _ _ _ _ _
    c.lanes_of.ensures.same c.lanes_of-2.ensures.same c.lanes_of-3.ensures.same c.lanes_of-4.ensures.same c.lanes_of-5.ensures.same c.lanes_of-6.ensures.same c.lanes_of-7.ensures.same c.lanes_of-8.ensures.same
    c.lanes_of.ensures.block c.lanes_of-2.ensures.block c.lanes_of-3.ensures.block c.lanes_of-4.ensures.block c.lanes_of-5.ensures.block c.lanes_of-6.ensures.block c.lanes_of-7.ensures.block c.lanes_of-8.ensures.block in
    blocks_held _ (λ b p. slice_index (slice_index_or blocks b []) p) (λ b p k l. (are b k).bytes p l)
    (λ p h. c.transposed.ensures p (λ b j. bit_at (slice_index (slice_index_or blocks b []) p) j) h
    (λ j k. rows_loaded blocks _ _ _ _ _ _ _ _
    c.lanes_of.ensures.same c.lanes_of-2.ensures.same c.lanes_of-3.ensures.same c.lanes_of-4.ensures.same c.lanes_of-5.ensures.same c.lanes_of-6.ensures.same c.lanes_of-7.ensures.same c.lanes_of-8.ensures.same
    c.lanes_of.ensures.block c.lanes_of-2.ensures.block c.lanes_of-3.ensures.block c.lanes_of-4.ensures.block c.lanes_of-5.ensures.block c.lanes_of-6.ensures.block c.lanes_of-7.ensures.block c.lanes_of-8.ensures.block p j k))
