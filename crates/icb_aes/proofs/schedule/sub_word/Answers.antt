-- Each byte goes through the S-box.
use Rattle.std.proofs.Common.{refl, ◌∙◌}
use Rattle.icb_aes.specs.Columns.{word_of}
use Rattle.icb_aes.specs.Fips197.{sub_word}
use Rattle.icb_aes.proofs.ColumnLemmas.{word_of_bytes}
use Rattle.icb_aes.proofs.schedule.sub_word.Goals as goal

pub returns : goal.returns
unfolding sub_word word_of
returns c =
    word_of_bytes _ _ _ _ _ c.sub_byte.type_inv c.sub_byte-2.type_inv c.sub_byte-3.type_inv c.sub_byte-4.type_inv c.from_be_bytes.ensures
    ∙ rw (c.sub_byte.ensures, c.sub_byte-2.ensures, c.sub_byte-3.ensures, c.sub_byte-4.ensures, c.to_be_bytes.ensures) refl
