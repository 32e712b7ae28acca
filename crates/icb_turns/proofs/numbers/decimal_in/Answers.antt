-- Digits that `parse` refuses make no number of 64 bits.
use Rattle.std.proofs.Common.{sym}
use Rattle.icb_turns.proofs.NumberLemmas.{refused_number}
use Rattle.icb_turns.proofs.numbers.decimal_in.Goals as goal

pub returns-in-Err : goal.returns-in-Err
returns-in-Err c =
    refused_number c.args.text.now _ _ c.in-Err.is c.parse.ensures.value.0
    (sym (rw c.as_bytes.ensures.value at c.if-not-is_decimal.ensures))
