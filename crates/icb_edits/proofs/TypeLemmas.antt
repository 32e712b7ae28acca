-- The word of a type names it.
use Rattle.std.proofs.Common.{◌≡◌, ◌<◌, ◌+◌, ◌-◌, ◌^◌, ℕ, List, [], ◌∷◌, ◌++◌, length, take, drop, true, Some, nat_le, bytes_eq, codes, decimal, slice_index, refl, arith, rules}
use Rattle.std.specs.Char.{is_ascii_digit}
use Rattle.std.specs.List.{list_all}
use Rattle.std.specs.Str.Parse.{digits_value}
use Rattle.std.proofs.lemmas.Bool.{and_parts, leb-true, lt-ltb}
use Rattle.std.proofs.lemmas.Fmt.{digits_decimal, digits_value-decimal, first_decimal}
use Rattle.std.proofs.lemmas.List.{length-append}
use Rattle.std.proofs.Math.Seq.{take-append_seam}
use Rattle.std.proofs.lemmas.Slice.Eq.{bytes_eq-Decides}
use Rattle.std.proofs.lemmas.Str.Parse.{IsNumeralModel, numerals_by_value}
use Rattle.icb_types.specs.Columns.{is_kind, is_size}
use Rattle.icb_types.specs.Words.{before_suffix, fixed_word, has_plain_digits, kind_of_word, size_in}
use Rattle.icb_types.specs.declared.columns.ColType.{ColType}
use Rattle.icb_types.specs.declared.columns.ColType.TheVariants as kind
use Rattle.icb_columns.specs.Printed.{type_word}

own : IsNumeralModel (λ ds. list_all is_ascii_digit ds ≡ true) (digits_value 10)
own = numerals_by_value _ (search rules)

same_text : (xs : List ℕ) → bytes_eq xs xs ≡ true
same_text xs = (bytes_eq-Decides xs xs).1 refl

drop_seam : (xs ys : List ℕ) → drop (length xs) (xs ++ ys) ≡ ys
drop_seam [] ys = refl
drop_seam (x ∷ xs) ys = drop_seam xs ys

-- a text without its suffix
ends_with : (xs suffix : List ℕ) → before_suffix suffix (xs ++ suffix) ≡ Some xs
ends_with xs suffix =
    let at : length (xs ++ suffix) - length suffix ≡ length xs = rw (length-append xs suffix) (omega arith) in
    rw (at, drop_seam xs suffix, same_text suffix, take-append_seam xs suffix) refl

plain_decimal : (n : ℕ) → 0 < n → n < 2 ^ 64 → has_plain_digits (decimal n) ≡ true
unfolding has_plain_digits
plain_decimal n above small =
    rw (digits_decimal own n small, lt-ltb 48 (slice_index (decimal n) 0) (first_decimal n above small)) refl

size_back : (n : ℕ) → is_size n ≡ true → size_in (decimal n) ≡ Some n
unfolding size_in
size_back n h =
    let p = and_parts (nat_le 1 n) (nat_le n 1048576) h in
    let a = leb-true 1 n p.0 in let b = leb-true n 1048576 p.1 in
    let small : n < 2 ^ 64 = omega arith in
    let above : 0 < n = omega arith in
    rw (plain_decimal n above small, digits_value-decimal own n small, h) refl

fixed_back : (n : ℕ) → is_size n ≡ true → fixed_word (codes "fixed[" ++ (decimal n ++ codes "]")) ≡ Some (kind.Fixed n)
unfolding fixed_word
fixed_back n h = rw (ends_with (decimal n) (codes "]"), size_back n h) refl

-- the kind that a kind's word names
pub kind_back : (k : ColType) → is_kind k ≡ true → kind_of_word (type_word k) ≡ Some k
unfolding kind_of_word
kind_back kind.Boolean h = refl
kind_back kind.Int h = refl
kind_back kind.Long h = refl
kind_back kind.Date h = refl
kind_back kind.Time h = refl
kind_back kind.Timestamp h = refl
kind_back kind.TimestampTz h = refl
kind_back kind.Text h = refl
kind_back kind.Uuid h = refl
kind_back (kind.Fixed n) h = fixed_back n h
kind_back kind.Binary h = refl
