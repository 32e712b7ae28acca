-- Digits that `parse` refuses make no number of 64 bits.
use Rattle.std.proofs.Common.{sym}
use Rattle.icb_words.proofs.WordLemmas.{refused_number}
use Rattle.icb_words.proofs.forms.number.Goals as goal

pub returns-in_default-2 : goal.returns-in_default-2
returns-in_default-2 c = record {
  value = refused_number c.args.word.now _ _ c.in_default.is c.parse.ensures.value.0
      (sym (rw c.as_bytes.ensures.value at c.if-not-is_plain_number.ensures));
  below = tt;
}
