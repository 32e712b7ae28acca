-- Planes become rows of bits.
use Rattle.std.specs.Int.{bit_at}
use Rattle.icb_aes.proofs.BlockPlanes.{blocks_bytes, plane_row}
use Rattle.icb_aes.proofs.sliced.blocks_of.Goals as goal

pub returns-clause-bytes : goal.returns-clause-bytes
returns-clause-bytes c = λ f h b p k l.
    blocks_bytes c.transposed-rows.result f p _ _ _ _ _ _ _ _
    c.bytes_of.ensures.same c.bytes_of-2.ensures.same c.bytes_of-3.ensures.same c.bytes_of-4.ensures.same c.bytes_of-5.ensures.same c.bytes_of-6.ensures.same c.bytes_of-7.ensures.same c.bytes_of-8.ensures.same
    c.bytes_of.ensures.block c.bytes_of-2.ensures.block c.bytes_of-3.ensures.block c.bytes_of-4.ensures.block c.bytes_of-5.ensures.block c.bytes_of-6.ensures.block c.bytes_of-7.ensures.block c.bytes_of-8.ensures.block
    l (λ i m. c.transposed-rows.ensures p (λ j b. bit_at (f b p) j) l (λ j n. plane_row c.args.x f p j h l n) i m)
    (λ i m. h.byte i p m l) b k
