-- The stored words are those of the schedule.
use Rattle.std.proofs.Common.{◌≡◌, refl, ◌∙◌, ℕ, ◌+◌, ◌-◌, ◌*◌, ◌<◌, List, ◌++◌, [], length, arith}
use Rattle.std.proofs.Math.ListN.{get_or-append}
use Rattle.icb_aes.specs.Fips197.{Word, key_words, rounds, expanded_key, round_key}
use Rattle.icb_aes.proofs.ScheduleLemmas.{length-schedule}

pub length-expanded_key : (key : List ℕ) → length (expanded_key key) ≡ 4 * (rounds key + 1)
unfolding expanded_key
length-expanded_key key = length-schedule key (4 * (rounds key + 1) - key_words key) ∙ omega arith

-- a round key of the words in front
pub round_key-front : (w z : List Word) (i : ℕ) → 4 * i + 3 < length w → round_key (w ++ z) i ≡ round_key w i
unfolding round_key
round_key-front w z i h =
    let e0 = get_or-append w z [] (4 * i + 0) (omega arith) in
    let e1 = get_or-append w z [] (4 * i + 1) (omega arith) in
    let e2 = get_or-append w z [] (4 * i + 2) (omega arith) in
    let e3 = get_or-append w z [] (4 * i + 3) (omega arith) in
    rw (e0, e1, e2, e3) refl
