-- The words at four places.
use Rattle.std.proofs.Common.{◌≡◌, refl, ◌+◌, ◌*◌, [], arith}
use Rattle.std.proofs.lemmas.List.{get_or-map}
use Rattle.icb_aes.specs.Columns.{word_of}
use Rattle.icb_aes.specs.Fips197.{round_key}
use Rattle.icb_aes.proofs.schedule.round_key.Goals as goal

pub returns : goal.returns
unfolding round_key
returns c =
    let words = c.args.words.now in
    let i = 4 * c.args.i in
    let first : 4 * c.args.i + 0 ≡ 4 * c.args.i = omega arith in
    rw (
      first,
      get_or-map word_of words i 0 [] (omega (arith, c.told-words)),
      get_or-map word_of words (i + 1) 0 [] (omega (arith, c.told-words)),
      get_or-map word_of words (i + 2) 0 [] (omega (arith, c.told-words)),
      get_or-map word_of words (i + 3) 0 [] (omega (arith, c.told-words)),
    ) refl
