-- The fields hold the bytes that were passed.
use Rattle.std.proofs.Common.{◌≡◌, ap, ℕ, ◌-◌, ◌<◌, List, ◌++◌, drop, length, take, arith, refl, inl, inr}
use Rattle.std.specs.Prelude.{replicate}
use Rattle.std.proofs.Math.Seq.{take-append_seam}
use Rattle.std.proofs.lemmas.List.Elements.{All-from_get_or, All-same}
use Rattle.icb_aes.specs.Fips197.{IsKeyLength}
use Rattle.icb_aes.proofs.key.AesKey.expanded.Goals as goal

front : (key stored rest : List ℕ) → stored ≡ key → take (length key) (stored ++ rest) ≡ key
front key stored rest e = rw e (take-append_seam key rest)

-- the zeros behind the key
zeros_left : (n : ℕ) → IsKeyLength n → drop {A = ℕ} n (replicate 32 0) ≡ replicate (32 - n) 0
zeros_left n h = elim h [
  | inl e ↦ rw e refl
  | inr k ↦ elim k [ inl e ↦ rw e refl | inr e ↦ rw e refl ]
]

pub invariant_of-result : goal.invariant_of-result
invariant_of-result c =
    let key = c.args.bytes.now in
    let whole = front key c.copy_from_slice.new.self (drop {A = ℕ} (length key) (replicate 32 0)) c.copy_from_slice.ensures.after in
    record {
      size = c.requires;
      length = rw whole refl;
      are_bytes = All-same (λ b. b < 256) _ key whole
          (All-from_get_or (λ b. b < 256) key 0 (λ i _. omega (arith, c.type_inv.bytes i)));
      bytes = rw whole (rw (zeros_left (length key) c.requires) (ap (λ (t : List ℕ). t ++ replicate (32 - length key) 0) c.copy_from_slice.ensures.after));
      words = rw whole c.expand-words.ensures.words;
      numbers = c.expand-words.ensures.numbers;
    }
