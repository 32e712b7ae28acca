-- The laws of a store that counts. What they cite stands in specs/ as well.
use Rattle.std.specs.Prelude.{ℕ, zero, suc, ◌≡◌, ◌≢◌, Option, Some, None, IfSome}
use Rattle.std.specs.Prelude.{IsSomeAnd, refl}
use Rattle.std.proofs.Common.{arith, ◌∙◌}
use Rattle.icb_base.specs.Causes.{Rose}
use Rattle.icb_base.specs.Objects.{Objects}
use Rattle.icb_generate.specs.Counting.{Counted, Counts, CountsObjects}

-- no more objects were put
none_put : (held : Option Objects) (puts : ℕ)
    → IfSome held (λ files. IsSomeAnd held (CountsObjects puts puts files))
none_put None puts = tt
none_put (Some files) puts = record { later = omega arith; count = omega arith }

-- no call counts nothing
pub counts_at_rest : (x : Counted) → Counts x x
counts_at_rest x = record {
  later = omega arith;
  faults_later = omega arith;
  objects = λ none. none_put x.held x.puts;
  stays = λ none. refl;
  rose = λ none some. absurd (some none);
}

-- objects were put twice
put_twice : (p q r : ℕ) (f g h : Objects) → CountsObjects p q f g → CountsObjects q r g h
    → CountsObjects p r f h
put_twice p q r f g h one two = record {
  later = omega (arith, one.later, two.later);
  count = omega (arith, one.later, two.later, one.count, two.count);
}

-- objects were put twice, as far as stores tell it
told_twice : (p q r : ℕ) (f g h : Option Objects)
    → IfSome f (λ files. IsSomeAnd g (CountsObjects p q files))
    → IfSome g (λ files. IsSomeAnd h (CountsObjects q r files))
    → IfSome f (λ files. IsSomeAnd h (CountsObjects p r files))
told_twice p q r None g h one two = tt
told_twice p q r (Some f) None h one two = absurd one
told_twice p q r (Some f) (Some g) None one two = absurd two
told_twice p q r (Some f) (Some g) (Some h) one two = put_twice p q r f g h one two

-- two calls count what each of them counts
pub counts_twice : (x y z : Counted) → Counts x y → Counts y z → Counts x z
counts_twice x y z one two = record {
  later = omega (arith, one.later, two.later);
  faults_later = omega (arith, one.faults_later, two.faults_later);
  objects = λ none.
      let mid : y.failures ≡ 0 = omega (arith, two.later, none) in
      told_twice x.puts y.puts z.puts x.held y.held z.held (one.objects mid) (two.objects none);
  stays = λ none.
      let mid : y.failures ≡ 0 = omega (arith, two.later, none) in
      two.stays none ∙ one.stays mid;
  rose = λ none some. by_mid y.failures refl none some;
}
  where
    by_mid : (n : ℕ) → y.failures ≡ n → x.failures ≡ 0 → z.failures ≢ 0 → Rose x.faults z.faults
    by_mid zero is none some =
        let same : y.faults ≡ x.faults = one.stays is in
        let risen : Rose y.faults z.faults = two.rose is some in
        omega (arith, same, risen)
    by_mid (suc n) is none some =
        let risen : Rose x.faults y.faults = one.rose none (λ e. absurd (omega (arith, is, e))) in
        omega (arith, risen, two.faults_later)
