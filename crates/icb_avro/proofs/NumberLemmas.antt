-- Numbers, byte by byte.
use Rattle.std.proofs.Common.{◌≡◌, ℕ, zero, suc, ◌+◌, ◌-◌, ◌*◌, ◌^◌, ◌<◌, ◌≤◌, List, [], ◌∷◌, length, Result, Ok, Err, refl, sym, ap, ◌∙◌, arith, ◌⊎◌, inl, inr, mul-le-mul_left, add-one}
use Rattle.std.proofs.lemmas.Bool.{lt-ltb, le-ltb, cases_lt}
use Rattle.std.proofs.Math.Nat.{pow-suc}
use Rattle.icb_avro.specs.declared.fault.AvroCause.{AvroCause}
use Rattle.icb_avro.specs.declared.fault.AvroCause.TheVariants as cause
use Rattle.icb_avro.specs.Answers.{joined}
use Rattle.icb_avro.specs.Reading.{varint_at, below, number_at, number_of}

-- a byte that isn't the last
joined_below : (low power b : ℕ) (r : Result (ℕ × List ℕ) AvroCause) → joined low power (below b r) ≡ joined (low + power * (b - 128)) (power * 128) r
joined_below low power b (Ok x) = ap (λ (n : ℕ). Ok (n, x.1)) (grind arith)
joined_below low power b (Err c) = refl

goes_on : (low power most b : ℕ) (rest : List ℕ) → 128 ≤ b → joined low power (varint_at (suc most) (b ∷ rest)) ≡ joined (low + power * (b - 128)) (power * 128) (varint_at most rest)
unfolding varint_at
goes_on low power most b rest h = rw (le-ltb b 128 h) (joined_below low power b (varint_at most rest))

ends : (low power most b : ℕ) (rest : List ℕ) → b < 128 → joined low power (varint_at (suc most) (b ∷ rest)) ≡ Ok (low + power * b, rest)
unfolding varint_at
ends low power most b rest h = rw (lt-ltb b 128 h) refl

stops : (low power most : ℕ) → joined low power (varint_at (suc most) []) ≡ Err cause.End
unfolding varint_at
stops low power most = refl

-- ---- powers of 128

power_fits : (i : ℕ) → i < 9 → 128 ^ i ≤ 2 ^ 56
power_fits zero h = omega arith
power_fits (suc zero) h = omega arith
power_fits (suc (suc zero)) h = omega arith
power_fits (suc (suc (suc zero))) h = omega arith
power_fits (suc (suc (suc (suc zero)))) h = omega arith
power_fits (suc (suc (suc (suc (suc zero))))) h = omega arith
power_fits (suc (suc (suc (suc (suc (suc zero)))))) h = omega arith
power_fits (suc (suc (suc (suc (suc (suc (suc zero))))))) h = omega arith
power_fits (suc (suc (suc (suc (suc (suc (suc (suc zero)))))))) h = omega arith
power_fits (suc (suc (suc (suc (suc (suc (suc (suc (suc i))))))))) h = absurd (let f : ⊥ = omega (arith, h) in f)

-- what the power is at a turn of the loop
pub power_small : (i power : ℕ) → i < 9 → power ≡ 128 ^ i → power ≤ 2 ^ 56
power_small i power h e = rw e (power_fits i h)

pub next_power : (i power : ℕ) → power ≡ 128 ^ i → power * 128 ≡ 128 ^ (i + 1)
next_power i power e = rw (e, add-one) (sym (pow-suc 128 i))

pub product_fits : (power b : ℕ) → b < 128 → power * b + power ≤ power * 128
product_fits power b h =
    let k : b + 1 ≤ 128 = omega arith in
    omega (arith, mul-le-mul_left power k)

-- ---- a number that is below 2 ^ 64

number_fits : (all : List ℕ) (n : ℕ) (rest : List ℕ) → n < 2 ^ 64 → number_of all (Ok (n, rest)) ≡ Ok (n, rest)
number_fits all n rest h = rw (lt-ltb n (2 ^ 64) h) refl

pub one_byte : (all : List ℕ) (b : ℕ) (rest : List ℕ) → b < 128 → all ≡ b ∷ rest → number_at all ≡ Ok (b, rest)
unfolding number_at varint_at
one_byte all b rest h e = rw (e, lt-ltb b 128 h) (number_fits (b ∷ rest) b rest (omega arith))

pub no_byte : (all : List ℕ) → all ≡ [] → number_at all ≡ Err (record { left = length all; cause = cause.End })
unfolding number_at varint_at
no_byte all e = rw e refl

-- what was read of a number in the loop
pub record Partly (all : List ℕ) (number power done : ℕ) (rest : List ℕ) : Type 0 where
  pub left : varint_at 10 all ≡ joined number power (varint_at (10 - done) rest)
  pub is_power : power ≡ 128 ^ done
  pub small : number < power

of_varint : (all : List ℕ) (r : Result (ℕ × List ℕ) AvroCause) → varint_at 10 all ≡ r → number_at all ≡ number_of all r
unfolding number_at
of_varint all r e = ap (number_of all) e

turn : (done : ℕ) → done < 9 → 10 - done ≡ suc (9 - done)
turn done h = omega arith

pub wide_end : (all : List ℕ) (number power done : ℕ) (rest : List ℕ) → Partly all number power done rest → done < 9 → rest ≡ [] → number_at all ≡ Err (record { left = length all; cause = cause.End })
wide_end all number power done rest so_far h e =
    let more : joined number power (varint_at (10 - done) rest) ≡ Err cause.End = rw (turn done h, e) (stops number power (9 - done)) in
    of_varint all (Err cause.End) (so_far.left ∙ more)

pub wide_last : (all : List ℕ) (number power done : ℕ) (rest : List ℕ) (b : ℕ) (after : List ℕ) → Partly all number power done rest → done < 9 → rest ≡ b ∷ after → b < 128 → number_at all ≡ Ok (number + power * b, after)
wide_last all number power done rest b after so_far h e lt =
    let more : joined number power (varint_at (10 - done) rest) ≡ Ok (number + power * b, after) = rw (turn done h, e) (ends number power (9 - done) b after lt) in
    of_varint all (Ok (number + power * b, after)) (so_far.left ∙ more)
    ∙ number_fits all (number + power * b) after (omega (arith, so_far.small, power_small done power h so_far.is_power, product_fits power b lt))

pub wide_next : (all : List ℕ) (number power done : ℕ) (rest : List ℕ) (b : ℕ) (after : List ℕ) → Partly all number power done rest → done < 9 → rest ≡ b ∷ after → 128 ≤ b → b < 256
    → Partly all (number + power * (b - 128)) (power * 128) (done + 1) after
wide_next all number power done rest b after so_far h e ge lt =
    let k : 10 - (done + 1) ≡ 9 - done = omega arith in
    record {
      left = so_far.left ∙ rw (turn done h, e, k) (goes_on number power (9 - done) b after ge);
      is_power = next_power done power so_far.is_power;
      small = omega (arith, so_far.small, product_fits power (b - 128) (omega arith));
    }

pub wide_small : (all : List ℕ) (number power done : ℕ) (rest : List ℕ) → Partly all number power done rest → 9 ≤ done → done ≤ 9 → number < 2 ^ 63
wide_small all number power done rest so_far h k =
    let e : done ≡ 9 = omega arith in
    let p : power ≡ 2 ^ 63 = so_far.is_power ∙ rw e refl in
    omega (arith, so_far.small)

pub wide_tenth : (all : List ℕ) (number power done : ℕ) (rest : List ℕ) → Partly all number power done rest → 9 ≤ done → done ≤ 9 → number_at all ≡ number_of all (joined number (2 ^ 63) (varint_at 1 rest))
wide_tenth all number power done rest so_far h k =
    let e : done ≡ 9 = omega arith in
    let p : power ≡ 2 ^ 63 = so_far.is_power ∙ rw e refl in
    let d : 10 - done ≡ 1 = omega arith in
    let more : joined number power (varint_at (10 - done) rest) ≡ joined number (2 ^ 63) (varint_at 1 rest) = rw (p, d) refl in
    of_varint all (joined number (2 ^ 63) (varint_at 1 rest)) (so_far.left ∙ more)

-- ---- the tenth byte

pub tenth_end : (all : List ℕ) (number : ℕ) (rest : List ℕ) → rest ≡ [] → number_of all (joined number (2 ^ 63) (varint_at 1 rest)) ≡ Err (record { left = length all; cause = cause.End })
tenth_end all number rest e = rw (e, stops number (2 ^ 63) 0) refl

pub tenth_byte : (all : List ℕ) (number : ℕ) (rest : List ℕ) (b : ℕ) (after : List ℕ) → rest ≡ b ∷ after → b < 2 → number < 2 ^ 63 → number_of all (joined number (2 ^ 63) (varint_at 1 rest)) ≡ Ok (number + 2 ^ 63 * b, after)
tenth_byte all number rest b after e lt small = rw (e, ends number (2 ^ 63) 0 b after (omega arith)) (number_fits all (number + 2 ^ 63 * b) after (omega arith))

too_long : (all : List ℕ) (number b : ℕ) (after : List ℕ) (t : b < 128 ⊎ 128 ≤ b) → 2 ≤ b → number_of all (joined number (2 ^ 63) (varint_at 1 (b ∷ after))) ≡ Err (record { left = length all; cause = cause.Long })
unfolding varint_at
too_long all number b after (inl lt) ge = rw (lt-ltb b 128 lt, le-ltb (number + 2 ^ 63 * b) (2 ^ 64) (omega arith)) refl
too_long all number b after (inr le) ge = rw (le-ltb b 128 le) refl

pub tenth_high : (all : List ℕ) (number : ℕ) (rest : List ℕ) (b : ℕ) (after : List ℕ) → rest ≡ b ∷ after → 2 ≤ b → number_of all (joined number (2 ^ 63) (varint_at 1 rest)) ≡ Err (record { left = length all; cause = cause.Long })
tenth_high all number rest b after e ge = rw e (too_long all number b after (cases_lt b 128) ge)
