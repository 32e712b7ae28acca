-- How the steps of reading words follow one another.
use Rattle.std.proofs.Common.{◌≡◌, ◌<◌, ◌∷◌, [], ◌++◌, ◌^◌, Bor, append_assoc, ℕ, true, List, length, Option, Some, None, ap, refl, sym, ◌∙◌, slice_get, ok_or, option_and_then, Result, Ok, Err, rules, arith}
use Rattle.std.specs.Char.{is_ascii_digit}
use Rattle.std.specs.List.{list_all}
use Rattle.std.specs.Str.Parse.{ParsesUnsigned, digits_value}
use Rattle.std.proofs.lemmas.Str.Parse.{IsNumeralModel, numerals_by_value, parse_digits}
use Rattle.std.proofs.lemmas.Bool.Decides.{nat_tests}
use Rattle.std.proofs.lemmas.Option.{slice_get_within}
use Rattle.icb_types.specs.Words.{parts_of}
use Rattle.icb_types.proofs.WordLemmas.{IsFirstPart, first_and_left, parts_left, text_left}
use Rattle.icb_words.specs.Forms.{is_plain_decimal, number_of}
use Rattle.icb_words.specs.Steps.{◌>>=◌, IsReadingOf, word_as}
use Rattle.icb_words.specs.declared.words.WordFault.{WordFault}
use Rattle.icb_words.specs.declared.words.WordFault.TheVariants.{NoPlace, NoMemory}

-- a step that is refused ends the reading
pub refused_step : {A B : Type 0} (step : Result A ℕ) (next : A → Result B ℕ) (fault : WordFault)
    → IsReadingOf step (Err fault) → IsReadingOf (step >>= next) (Err fault)
refused_step (Ok x) next (NoPlace word) h = cc
refused_step (Err at) next (NoPlace word) h = cc
refused_step step next NoMemory h = tt

-- a step that gives a value goes on with the next
pub passed_step : {A B : Type 0} (step : Result A ℕ) (next : A → Result B ℕ) (value : A)
    (result : Result B WordFault)
    → step ≡ Ok value → IsReadingOf (next value) result → IsReadingOf (step >>= next) result
passed_step step next value result e h = rw e h

-- a word that is there is read
pub present_word : (words : List (List ℕ)) (at : ℕ) (word : List ℕ)
    → slice_get words at ≡ Some word → word_as Some words at ≡ Ok word
present_word words at word e = rw e

-- a word that isn't there
pub absent_word : (words : List (List ℕ)) (at : ℕ) (fault : WordFault)
    → (slice_get words at ≡ None) × (fault ≡ NoPlace at) → IsReadingOf (word_as Some words at) (Err fault)
absent_word words at fault h =
    rw h.1 (ap (λ (word : Option (List ℕ)). ok_or (option_and_then Some word) at) h.0)

-- a word that was read is one of the words
pub read_within : {A : Type 0} (read : List ℕ → Option A) (words : List (List ℕ)) (at : ℕ) (value : A)
    → word_as read words at ≡ Ok value → at < length words
read_within {A} read words at value is = by_word (slice_get words at) refl
  where
    by_word : (word : Option (List ℕ)) → slice_get words at ≡ word → at < length words
    by_word None none =
        let missing : word_as read words at ≡ Err at = rw none refl in
        absurd (let never : Err at ≡ Ok value = sym missing ∙ is in cc)
    by_word (Some word) there = slice_get_within words at word there

-- reading step by step: what a goal of it asks for is one of these
pub ruleset steps = (absent_word, passed_step, present_word, refused_step)

-- digits and their value are what `parse` reads
own : IsNumeralModel (λ ds. list_all is_ascii_digit ds ≡ true) (digits_value 10)
own = numerals_by_value _ (search rules)

-- a plain decimal has a digit
plain_not_empty : (word : List ℕ) → is_plain_decimal word ≡ true → 0 < length word
plain_not_empty [] h = grind arith
plain_not_empty (b ∷ word) h = omega arith

-- digits that `parse` refuses are no number
pub refused_number : {E : Type 0} (word : List ℕ) (fault : E) (result : Result ℕ E)
    → result ≡ Err fault → ParsesUnsigned 64 10 word result → is_plain_decimal word ≡ true
    → None ≡ number_of word
refused_number {E} word fault result is parsed plain =
    let digits : list_all is_ascii_digit word ≡ true = grind arith in
    let refused : ¬ ((0 < length word) × (digits_value 10 word < 2 ^ 64))
    = parse_digits own {E = E} 64 word (Err fault) (rw is at parsed) digits in
    let large : ¬ (digits_value 10 word < 2 ^ 63) =
    λ small. refused (plain_not_empty word plain, omega arith) in
    grind (arith, nat_tests)

-- the names that were read and those that are left, after one more was
pub name_read : (names new : List (List ℕ)) (word left name : List ℕ) (more : Option (Bor (List ℕ)))
    → names ++ parts_of left ≡ parts_of word → IsFirstPart left name more → new ≡ names ++ name ∷ []
    → new ++ parts_left (text_left more) ≡ parts_of word
name_read names new word left name more same first grown =
    rw grown (append_assoc names (name ∷ []) (parts_left (text_left more))
    ∙ ap (λ (rest : List (List ℕ)). names ++ rest) (sym (first_and_left left name more first)) ∙ same)
