-- Digits that `parse` refuses.
use Rattle.std.proofs.Common.{◌≡◌, ◌<◌, ◌∷◌, [], ◌^◌, ℕ, true, List, length, None, Result, Err, rules, arith}
use Rattle.std.specs.Char.{is_ascii_digit}
use Rattle.std.specs.List.{list_all}
use Rattle.std.specs.Str.Parse.{ParsesUnsigned, digits_value}
use Rattle.std.proofs.lemmas.Str.Parse.{IsNumeralModel, numerals_by_value, parse_digits}
use Rattle.std.proofs.lemmas.Bool.Decides.{nat_tests}
use Rattle.icb_turns.specs.Numbers.{decimal_in, is_decimal}

-- digits and their value are what `parse` reads
own : IsNumeralModel (λ ds. list_all is_ascii_digit ds ≡ true) (digits_value 10)
own = numerals_by_value _ (search rules)

-- there is a digit
not_empty : (text : List ℕ) → is_decimal text ≡ true → 0 < length text
not_empty [] h = grind arith
not_empty (b ∷ text) h = omega arith

-- digits that `parse` refuses are no number of 64 bits
pub refused_number : {E : Type 0} (text : List ℕ) (fault : E) (result : Result ℕ E)
    → result ≡ Err fault → ParsesUnsigned 64 10 text result → is_decimal text ≡ true
    → None ≡ decimal_in text
refused_number {E} text fault result is parsed plain =
    let digits : list_all is_ascii_digit text ≡ true = grind arith in
    let refused : ¬ ((0 < length text) × (digits_value 10 text < 2 ^ 64))
    = parse_digits own {E = E} 64 text (Err fault) (rw is at parsed) digits in
    let large : ¬ (digits_value 10 text < 2 ^ 64) = λ small. refused (not_empty text plain, small) in
    grind (arith, nat_tests)
