-- The words so far, and then zeros.
use Rattle.std.proofs.Common.{◌≡◌, ◌-◌, ◌++◌, length, map}
use Rattle.std.specs.Prelude.{◌^◌, ◌<◌, replicate, All}
use Rattle.std.specs.List.{range_with_len}
use Rattle.icb_aes.specs.Columns.{word_of}
use Rattle.icb_aes.specs.Fips197.{key_word, schedule}
use Rattle.icb_aes.specs.Stored.{zero_word}
use Rattle.icb_aes.proofs.schedule.expand.Given as goal

abbrev pub invariant-own : goal.invariant-own
invariant-own l = record {
  size : length l.words ≡ 60;
  numbers : All (λ n. n < 2 ^ 32) l.words;
  words : map word_of l.words ≡ map (key_word l.key) (range_with_len 0 l.i) ++ replicate (60 - l.i) zero_word;
}

abbrev pub invariant-next : goal.invariant-next
invariant-next l = record {
  size : length l.words ≡ 60;
  numbers : All (λ n. n < 2 ^ 32) l.words;
  words : map word_of l.words ≡ schedule l.key (l.i - l.nk) ++ replicate (60 - l.i) zero_word;
}
