-- What follows from the definitions of GHASH, for the crates above.
use Rattle.std.proofs.Common.{◌≡◌, ℕ, zero, suc, ◌+◌, ◌*◌, ◌/◌, ◌^◌, ◌<◌, List, length, refl, arith, lit<, length-append}
use Rattle.std.specs.Prelude.{All}
use Rattle.std.specs.Int.{byte_at, bytes_high_first}
use Rattle.std.proofs.Math.Nat.{mod-lt}
use Rattle.std.proofs.lemmas.List.{append-nil, length-replicate}
use Rattle.std.proofs.lemmas.List.Elements.{All-nil, All-cons}
use Rattle.icb_ghash.specs.Ghash.{block_of, sum_of_powers, blocks, ghash, padded}

-- how long padded bytes are
pub length-padded : (bytes : List ℕ) → length (padded bytes) ≡ 16 * ((length bytes + 15) / 16)
unfolding padded
length-padded bytes = rw (length-append, length-replicate) (omega arith)

-- a whole block needs no zeros
pub padded_whole : (block : List ℕ) → length block ≡ 16 → padded block ≡ block
unfolding padded
padded_whole block size = rw size (append-nil block)

-- GHASH gives a block
pub length-ghash : (h : ℕ) (bytes : List ℕ) → length (ghash h bytes) ≡ 16
unfolding ghash block_of
length-ghash h bytes = refl

-- one of a number's bytes is a byte
byte_at-lt : (i n : ℕ) → byte_at i n < 256
byte_at-lt zero n = mod-lt n (lit< tt)
byte_at-lt (suc i) n = mod-lt (n / 256 ^ suc i) (lit< tt)

-- a number's bytes are bytes
All-high_first : (k n : ℕ) → All (λ b. b < 256) (bytes_high_first k n)
All-high_first zero n = All-nil (λ b. b < 256)
All-high_first (suc k) n =
    All-cons (λ b. b < 256) (byte_at k n) (bytes_high_first k n) (byte_at-lt k n) (All-high_first k n)

-- a block is bytes
All-block_of : (a : ℕ) → All (λ b. b < 256) (block_of a)
unfolding block_of
All-block_of a = All-high_first 16 a

-- GHASH gives bytes
pub All-ghash : (h : ℕ) (bytes : List ℕ) → All (λ b. b < 256) (ghash h bytes)
unfolding ghash
All-ghash h bytes = All-block_of (sum_of_powers h (blocks (length bytes / 16) bytes))
