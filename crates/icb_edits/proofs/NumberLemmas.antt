-- Numbers of the code as JSON numbers.
use mir.Syntax.{w32, w64}
use mir.Val.{SFits}
use Rattle.std.proofs.Common.{◌≡◌, ◌<◌, ◌^◌, ℕ, ℤ, pos, negsuc, true, Some, refl, arith}
use Rattle.std.proofs.lemmas.Bool.{lt-ltb}
use Rattle.icb_schema.specs.Reading.{fits_32}
use Rattle.icb_types.specs.Fits.{fits_64}
use Rattle.icb_types.specs.Lines.{int_in, long_in, number_json}

long_fits : (n : ℤ) → SFits w64 n → fits_64 n ≡ true
long_fits (pos n) h = lt-ltb n 9223372036854775808 h.sfits
long_fits (negsuc n) h = lt-ltb n 9223372036854775808 h.sfits

int_fits : (n : ℤ) → SFits w32 n → fits_32 n ≡ true
int_fits (pos n) h = lt-ltb n 2147483648 h.sfits
int_fits (negsuc n) h = lt-ltb n 2147483648 h.sfits

wider : (n : ℤ) → SFits w32 n → SFits w64 n
wider (pos n) h = let small = h.sfits in record { sfits = omega arith }
wider (negsuc n) h = let small = h.sfits in record { sfits = omega arith }

long_at : (n : ℤ) → fits_64 n ≡ true → long_in (number_json n) ≡ Some n
long_at (pos n) h = rw h refl
long_at (negsuc n) h = refl

-- a number of 64 bits reads as it
pub long_of : (n : ℤ) → SFits w64 n → long_in (number_json n) ≡ Some n
long_of n h = long_at n (long_fits n h)

-- a number of 32 bits reads as it
pub int_of : (n : ℤ) → SFits w32 n → int_in (number_json n) ≡ Some n
int_of n h = rw (long_of n (wider n h), int_fits n h) refl

-- so does a natural number below 2^63
pub natural_of : (n : ℕ) → n < 2 ^ 63 → long_in (number_json (pos n)) ≡ Some (pos n)
natural_of n h = long_at (pos n) (lt-ltb n 9223372036854775808 h)

-- one of 32 bits, by its test
pub int_by_test : (n : ℤ) → fits_32 n ≡ true → long_in (number_json n) ≡ Some n → int_in (number_json n) ≡ Some n
int_by_test n h g = rw (g, h) refl
