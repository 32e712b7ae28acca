-- The law of an `AesKey`'s model: a key's bytes determine its fields. Its proof stands here, since
-- the model in src/ cites it and may cite nothing of proofs/.
use Rattle.std.specs.Prelude.{◌≡◌, ℕ, suc, ◌-◌, ◌<◌, ◌^◌, List, [], ◌∷◌, ◌++◌, map, take, replicate}
use Rattle.std.specs.Prelude.{All, refl}
use Rattle.std.specs.Int.{w32, from_be_bytes}
use Rattle.std.proofs.Common.{sym, ap, ◌∙◌, arith}
use Rattle.std.proofs.lemmas.Nat.{from_be_bytes-to_be_bytes_4}
use Rattle.icb_aes.specs.declared.key.AesKey.TheInside.{Inside}
use Rattle.icb_aes.specs.Columns.{word_of}
use Rattle.icb_aes.specs.Key.{IsKeyInside, fields_of, inside_of}
use Rattle.icb_aes.specs.Stored.{stored_words}

-- the numbers that hold words, from the words
numbers_of-words : (ns : List ℕ) → All (λ n. n < 2 ^ 32) ns
    → map (from_be_bytes w32) (map word_of ns) ≡ ns
unfolding word_of
numbers_of-words [] h = refl
numbers_of-words (n ∷ ns) h =
    ap (λ (m : ℕ). m ∷ map (from_be_bytes w32) (map word_of ns))
    (from_be_bytes-to_be_bytes_4 n (h 0 0 (omega arith)))
    ∙ ap (λ (ms : List ℕ). n ∷ ms) (numbers_of-words ns (λ i d k. h (suc i) d (omega arith)))

-- a key's fields are those that hold it
pub fields_determined : (k : Inside) → IsKeyInside k → inside_of (take k.length k.bytes) ≡ k
fields_determined k h =
    let key = take k.length k.bytes in
    let words = map (from_be_bytes w32) (stored_words key) in
    ap (λ (n : ℕ). fields_of n (key ++ replicate (32 - n) 0) words) h.length
    ∙ ap (λ (b : List ℕ). fields_of k.length b words) (sym h.bytes)
    ∙ ap (λ (w : List ℕ). fields_of k.length k.bytes w)
    (ap (map (from_be_bytes w32)) (sym h.words) ∙ numbers_of-words k.words h.numbers)
