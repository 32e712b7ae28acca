-- Numbers of properties, beside the definitions.
use Rattle.std.proofs.Common.{◌≡◌, ℕ, ◌<◌, ◌^◌, Bool, true, false, List, length, Some, None, Result, Ok, Err, refl, nat_lt, if◌then◌else◌, rules}
use Rattle.std.specs.Result.{result_ok}
use Rattle.std.specs.Char.{is_ascii_digit}
use Rattle.std.specs.List.{list_all}
use Rattle.std.specs.Str.Parse.{ParsesUnsigned, digits_value}
use Rattle.std.proofs.lemmas.Str.Parse.{IsNumeralModel, numerals_by_value, parse_digits}
use Rattle.std.proofs.lemmas.Bool.{and_parts, lt-ltb, ltb-true}
use Rattle.icb_append.specs.Settings.{is_decimal, of_32_bits}

-- digits and their value are what `parse` reads
own : IsNumeralModel (λ ds. list_all is_ascii_digit ds ≡ true) (digits_value 10)
own = numerals_by_value _ (search rules)

-- what `parse` gives for digits
pub number_read : {E : Type 0} (digits : List ℕ) (r : Result ℕ E) → ParsesUnsigned 32 10 digits r → is_decimal digits ≡ true
    → result_ok r ≡ of_32_bits (digits_value 10 digits)
number_read {E} digits (Ok n) parsed plain =
    let facts = parse_digits own {E = E} 32 digits (Ok n) parsed (and_parts _ _ plain).1 in
    let small : digits_value 10 digits < 2 ^ 32 = facts.0.1 in
    rw (facts.1, lt-ltb _ _ small) refl
number_read {E} digits (Err e) parsed plain =
    let facts = parse_digits own {E = E} 32 digits (Err e) parsed (and_parts _ _ plain).1 in
    let some = ltb-true 0 (length digits) (and_parts _ _ plain).0 in
    by_test (nat_lt (digits_value 10 digits) (2 ^ 32)) refl (λ small. facts (some, small))
  where
    by_test : (b : Bool) → nat_lt (digits_value 10 digits) (2 ^ 32) ≡ b → (digits_value 10 digits < 2 ^ 32 → ⊥)
        → None ≡ (if nat_lt (digits_value 10 digits) (2 ^ 32) then Some (digits_value 10 digits) else None)
    by_test true e large = absurd (large (ltb-true _ _ e))
    by_test false e large = rw e refl
