-- The rows are those of the key's schedule.
use Rattle.std.proofs.Common.{◌≡◌, ap, length, arith}
use Rattle.icb_aes.proofs.KeyRows.{keys_hold}
use Rattle.icb_aes.proofs.sliced.SlicedKey.new.Goals as goal

pub invariant_of-result : goal.invariant_of-result
invariant_of-result c =
    let size : length c.bytes.result.now ≡ length c.args.key.now = ap length c.bytes.ensures.bytes in
    (keys_hold c.key_rows-rows.result c.args.key.now _ _ c.words.ensures.are_bytes c.words.ensures.words (omega (arith, size)) c.key_rows-rows.ensures, tt)
