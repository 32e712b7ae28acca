-- The word of a sum.
use Rattle.std.proofs.Common.{rules, ◌≡◌, refl, ◌/◌}
use Rattle.icb_aes.specs.Columns.{word_of}
use Rattle.icb_aes.specs.Fips197.{add_words, rot_word, round_constant, schedule_term, sub_word}
use Rattle.icb_aes.proofs.ColumnLemmas.{word_of-xor}
use Rattle.icb_aes.proofs.schedule.schedule_term.Goals as goal

pub returns-then-i-nk-eq0 : goal.returns-then-i-nk-eq0
unfolding schedule_term
returns-then-i-nk-eq0 c =
    let sum = word_of-xor c.sub_word.result c.round_constant.result in
    let both : add_words (word_of c.sub_word.result) (word_of c.round_constant.result)
    ≡ add_words (sub_word (rot_word (word_of c.args.before))) (round_constant (c.args.i / c.args.nk)) =
    rw (c.sub_word.ensures, c.rot_word.ensures, c.round_constant.ensures) refl in
    rw (sum, both) (search rules)
