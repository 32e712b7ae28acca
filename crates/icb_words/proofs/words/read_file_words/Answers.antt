-- Each step is read as its definition says, and the next one goes on from it.
use Rattle.std.proofs.Common.{◌≡◌, Ok, map, rules, string_bytes, arith}
use Rattle.std.proofs.lemmas.List.{length-map}
use Rattle.std.proofs.lemmas.Result.{err_from_is_err_and}
use Rattle.icb_words.specs.Forms.{path_of}
use Rattle.icb_words.specs.Steps.{word_as}
use Rattle.icb_words.specs.Words.{file_words_of}
use Rattle.icb_words.proofs.WordLemmas.{read_within, steps}
use Rattle.icb_words.proofs.words.read_file_words.Goals as goal

pub returns-in_err-word_at : goal.returns-in_err-word_at
unfolding file_words_of
returns-in_err-word_at c =
    let p = err_from_is_err_and c.from_residual.result c.from_residual.ensures.1 in
    rw (p.1, p.2) (search (rules, steps))

pub returns-in_err-path : goal.returns-in_err-path
unfolding file_words_of
returns-in_err-path c =
    let p = err_from_is_err_and c.from_residual-in_err-path.result c.from_residual-in_err-path.ensures.1 in
    rw (p.1, p.2) (search (rules, steps))

pub pairs_from-requires : goal.pairs_from-requires
pairs_from-requires c =
    let read : word_as path_of (map string_bytes c.args.words.now) 2 ≡ Ok c.in_ok-path.path = search rules in
    let within = read_within path_of (map string_bytes c.args.words.now) 2 c.in_ok-path.path read in
    omega (arith, rw length-map at within)

pub returns-in_err-pairs : goal.returns-in_err-pairs
unfolding file_words_of
returns-in_err-pairs c =
    let p = err_from_is_err_and c.from_residual-in_err-pairs.result c.from_residual-in_err-pairs.ensures.1 in
    rw (p.1, p.2) (search (rules, steps))

pub returns : goal.returns
unfolding file_words_of
returns c = search (rules, steps)
