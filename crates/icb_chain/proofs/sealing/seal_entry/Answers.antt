-- What was sealed opens again.
use Rattle.std.proofs.Common.{◌≡◌, length, arith}
use Rattle.icb_seal.proofs.BlockLemmas.{unwrapped_from_sealed}
use Rattle.icb_chain.proofs.sealing.seal_entry.Goals as goal

pub returns-clause-opens : goal.returns-clause-opens
returns-clause-opens c =
    let size : length c.args.nonce.now ≡ 12 = omega arith in
    rw (c.from_vec.ensures, c.into_vec.ensures, c.new.ensures)
    (unwrapped_from_sealed c.args.key.now c.args.nonce.now c.args.id c.args.bytes.now c.in_ok-sealed.sealed size (rw c.as_slice.ensures.value at c.in_ok-sealed.ensures))
