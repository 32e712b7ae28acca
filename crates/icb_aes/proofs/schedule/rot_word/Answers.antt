-- The bytes are turned by one.
use Rattle.std.proofs.Common.{refl, ◌∙◌, ◌<◌, get_or, arith}
use Rattle.icb_aes.specs.Columns.{word_of}
use Rattle.icb_aes.specs.Fips197.{rot_word}
use Rattle.icb_aes.proofs.ColumnLemmas.{word_of_bytes}
use Rattle.icb_aes.proofs.schedule.rot_word.Goals as goal

pub returns : goal.returns
unfolding rot_word word_of
returns c =
    let bytes = c.to_be_bytes.result in
    let a : get_or bytes 0 0 < 256 = rw c.to_be_bytes.ensures (omega arith) in
    let b : get_or bytes 1 0 < 256 = rw c.to_be_bytes.ensures (omega arith) in
    let d : get_or bytes 2 0 < 256 = rw c.to_be_bytes.ensures (omega arith) in
    let e : get_or bytes 3 0 < 256 = rw c.to_be_bytes.ensures (omega arith) in
    word_of_bytes _ _ _ _ _ b d e a c.from_be_bytes.ensures ∙ rw c.to_be_bytes.ensures refl
