-- Schema words, beside the definitions.
use denote.Ref.{Bor}
use Rattle.std.proofs.Common.{inl, inr, eq-eqb, MatchOption, suc, ap₂, length-drop, option_map, ◌≡◌, ℕ, ◌+◌, ◌<◌, ◌^◌, Bool, true, false, List, [], ◌∷◌, length, Option, Some, None, Result, Ok, Err, IsUtf8, refl, sym, ap, ◌∙◌, arith, nat_lt, if◌then◌else◌, rules}
use Rattle.std.specs.Result.{result_ok}
use Rattle.std.specs.Char.{is_ascii_digit}
use Rattle.std.specs.List.{list_all, position_or_len, before_first, after_first}
use Rattle.std.specs.Str.Parse.{ParsesUnsigned, digits_value}
use Rattle.std.proofs.lemmas.Str.Parse.{IsNumeralModel, numerals_by_value, parse_digits}
use Rattle.std.proofs.lemmas.Bool.{and_parts, cases_eq, lt-ltb, ltb-true, ne_eqb}
use Rattle.std.proofs.lemmas.Bool.Decides.{nat_tests}
use Rattle.json.proofs.Printed.Utf8.{IsUtf8-are_ascii, are_ascii}
use Rattle.std.specs.Prelude.{◌==◌}
use Rattle.icb_types.specs.Words.{cut_at, has_plain_digits, onto_first, parts_of}

-- ---- numbers

-- a digit is below 128
digit_small : (c : ℕ) → is_ascii_digit c ≡ true → nat_lt c 128 ≡ true
digit_small c h = grind (arith, nat_tests)

digits_ascii : (digits : List ℕ) → list_all is_ascii_digit digits ≡ true → are_ascii digits ≡ true
digits_ascii [] h = refl
digits_ascii (c ∷ digits) h = let p = and_parts _ _ h in rw (digit_small c p.0, digits_ascii digits p.1) refl

-- plain digits are a text
pub plain_utf8 : (digits : List ℕ) → has_plain_digits digits ≡ true → IsUtf8 digits
unfolding has_plain_digits
plain_utf8 digits h = IsUtf8-are_ascii digits (digits_ascii digits (and_parts _ _ h).0)

-- digits and their value are what `parse` reads
own : IsNumeralModel (λ ds. list_all is_ascii_digit ds ≡ true) (digits_value 10)
own = numerals_by_value _ (search rules)

plain_not_empty : (digits : List ℕ) → has_plain_digits digits ≡ true → 0 < length digits
unfolding has_plain_digits
plain_not_empty [] h = absurd (let never : ⊥ = grind arith in never)
plain_not_empty (c ∷ digits) h = omega arith

-- what `parse` gives for plain digits
pub number_read : {E : Type 0} (digits : List ℕ) (r : Result ℕ E) → ParsesUnsigned 32 10 digits r → has_plain_digits digits ≡ true
    → result_ok r ≡ (if nat_lt (digits_value 10 digits) (2 ^ 32) then Some (digits_value 10 digits) else None)
unfolding has_plain_digits
number_read {E} digits (Ok n) parsed plain =
    let facts = parse_digits own {E = E} 32 digits (Ok n) parsed (and_parts _ _ plain).0 in
    let small : digits_value 10 digits < 2 ^ 32 = facts.0.1 in
    rw (facts.1, lt-ltb _ _ small) refl
number_read {E} digits (Err e) parsed plain =
    let facts = parse_digits own {E = E} 32 digits (Err e) parsed (and_parts _ _ plain).0 in
    let some = plain_not_empty digits plain in
    by_test (nat_lt (digits_value 10 digits) (2 ^ 32)) refl (λ small. facts (some, small))
  where
    by_test : (b : Bool) → nat_lt (digits_value 10 digits) (2 ^ 32) ≡ b → (digits_value 10 digits < 2 ^ 32 → ⊥)
        → None ≡ (if nat_lt (digits_value 10 digits) (2 ^ 32) then Some (digits_value 10 digits) else None)
    by_test true e large = absurd (large (ltb-true _ _ e))
    by_test false e large = rw e refl

-- ---- parts

-- the comma
abbrev is_comma : ℕ → Bool
is_comma c = c == 44

-- what the parts of a text are where a comma stands in it
cut_parts : (text : List ℕ) → position_or_len is_comma text < length text
    → parts_of text ≡ before_first is_comma text ∷ parts_of (after_first is_comma text)
unfolding parts_of
cut_parts [] h = absurd (let never : ⊥ = omega arith in never)
cut_parts (c ∷ text) h = elim (cases_eq c 44) [
  | inl comma ↦ (let yes : (c == 44) ≡ true = eq-eqb c 44 comma in rw yes refl)
  | inr other ↦ (let no : (c == 44) ≡ false = ne_eqb c 44 other in
      let at : ℕ = position_or_len is_comma text in
      let later : 1 + at < suc (length text) = rw no at h in
      let one : 1 + at ≡ suc at = omega arith in
      let two : suc at + 1 ≡ suc (at + 1) = omega arith in
      rw (no, one, two) (ap (onto_first c) (cut_parts text (omega arith))))
]

-- what they are where none does
whole_part : (text : List ℕ) → nat_lt (position_or_len is_comma text) (length text) ≡ false → parts_of text ≡ text ∷ []
unfolding parts_of
whole_part [] h = refl
whole_part (c ∷ text) h = elim (cases_eq c 44) [
  | inl comma ↦ (let yes : (c == 44) ≡ true = eq-eqb c 44 comma in
      let first : nat_lt 0 (suc (length text)) ≡ false = rw yes at h in
      absurd (let never : ⊥ = grind (arith, nat_tests, first) in never))
  | inr other ↦ (let no : (c == 44) ≡ false = ne_eqb c 44 other in
      let at : ℕ = position_or_len is_comma text in
      let past : nat_lt (1 + at) (suc (length text)) ≡ false = rw no at h in
      let past_text : nat_lt at (length text) ≡ false = grind (arith, nat_tests, past) in
      rw (no, whole_part text past_text) refl)
]

-- equal cuts have equal parts
same_cut : (x y : List ℕ × List ℕ) → Some x ≡ Some y → x ≡ y
same_cut x y h = cc

no_cut : (x : List ℕ × List ℕ) → None ≡ Some x → ⊥
no_cut x h = cc

-- the parts that are left of a text, if any
abbrev pub parts_left : Option (List ℕ) → List (List ℕ)
parts_left None = []
parts_left (Some text) = parts_of text

-- the text of what is left
abbrev pub text_left : Option (Bor (List ℕ)) → Option (List ℕ)
text_left more = option_map (λ t. t.now) more

-- the part is the first of a text, and the rest stands behind its comma, if any
abbrev pub IsFirstPart : List ℕ → List ℕ → Option (Bor (List ℕ)) → Type 0
IsFirstPart text part more =
    MatchOption more ((cut_at 44 text ≡ None) × (part ≡ text)) (λ m. cut_at 44 text ≡ Some (part, m.now))

-- the first part, and those that are left
pub first_and_left : (text part : List ℕ) (more : Option (Bor (List ℕ))) → IsFirstPart text part more
    → parts_of text ≡ part ∷ parts_left (text_left more)
unfolding cut_at
first_and_left text part None h = by_test (nat_lt (position_or_len is_comma text) (length text)) refl
  where
    by_test : (b : Bool) → nat_lt (position_or_len is_comma text) (length text) ≡ b → parts_of text ≡ part ∷ []
    by_test true e = absurd (no_cut _ (sym (rw e at h.0)))
    by_test false e = whole_part text e ∙ ap (λ p. p ∷ []) (sym h.1)
first_and_left text part (Some more) h = by_test (nat_lt (position_or_len is_comma text) (length text)) refl
  where
    by_test : (b : Bool) → nat_lt (position_or_len is_comma text) (length text) ≡ b → parts_of text ≡ part ∷ parts_of more.now
    by_test true e =
        let pair = same_cut (before_first is_comma text, after_first is_comma text) (part, more.now) (rw e at h) in
        cut_parts text (ltb-true _ _ e) ∙ ap₂ (λ a b. a ∷ parts_of b) (ap (λ p. p.0) pair) (ap (λ p. p.1) pair)
    by_test false e = absurd (no_cut (part, more.now) (rw e at h))

-- the rest is shorter than the text
pub rest_shorter : (text part more : List ℕ) → cut_at 44 text ≡ Some (part, more) → length more < length text
unfolding cut_at
rest_shorter text part more h = by_test (nat_lt (position_or_len is_comma text) (length text)) refl
  where
    by_test : (b : Bool) → nat_lt (position_or_len is_comma text) (length text) ≡ b → length more < length text
    by_test true e =
        let pair = same_cut (before_first is_comma text, after_first is_comma text) (part, more) (rw e at h) in
        let rest : after_first is_comma text ≡ more = ap (λ p. p.1) pair in
        let within : position_or_len is_comma text < length text = ltb-true _ _ e in
        let size = length-drop (position_or_len is_comma text + 1) text in
        omega (arith, ap length rest, size, within)
    by_test false e = absurd (no_cut (part, more) (rw e at h))

-- how much of a text is left
abbrev pub left_length : Option (List ℕ) → ℕ
left_length None = 0
left_length (Some text) = suc (length text)

-- less is left than there was
pub less_left : (text part : List ℕ) (more : Option (Bor (List ℕ))) → IsFirstPart text part more
    → left_length (text_left more) < suc (length text)
less_left text part None h = omega arith
less_left text part (Some more) h = let e = rest_shorter text part more.now h in omega arith
