-- The sum behind the lines of days is that of the days.
use Rattle.std.proofs.Common.{◌≡◌, ◌∙◌, ◌<◌, ◌≤◌, ◌+◌, ◌*◌, ◌-◌, ◌^◌, ◌/◌, ◌%◌, ◌++◌, ℕ, List, [], ◌∷◌, true, ap, refl, arith, min, fold}
use Rattle.std.specs.Prelude.{decimal, pos}
use Rattle.std.specs.Char.{is_ascii_digit}
use Rattle.std.specs.List.{AllByRecursion, sum}
use Rattle.std.proofs.lemmas.Fmt.{decimal_by_steps}
use Rattle.std.proofs.lemmas.List.Sums.{fold-append}
use Rattle.icb_types.specs.Lines.{row_line}
use Rattle.icb_types.specs.declared.datum.Datum.TheVariants as datum
use Rattle.icb_generate.specs.Days.{SumsDays, behind, day_lines}
use Rattle.icb_generate.specs.declared.day_sum.DaySum.{DaySum}

-- a sum and a day
abbrev at : ℕ → ℕ → DaySum
at s d = record { sum = s; day = d }

-- the line of a day
line : ℕ → List ℕ
line d = 91 ∷ ((decimal d ++ 93 ∷ []) ++ 10 ∷ [])

line_is : (d : ℕ) → row_line (datum.Date (pos d) ∷ []) ≡ line d
unfolding row_line line
line_is d = refl

-- a digit
digit_true : (x : ℕ) → x < 10 → is_ascii_digit (48 + x) ≡ true
digit_true x small = grind arith

-- one more digit
digit_behind : (s n x : ℕ) → x < 10 → n * 10 + x < 2 ^ 64 → behind (at s n) (48 + x) ≡ at s (n * 10 + x)
digit_behind s n x small fits =
    let e : min (min (n * 10) (2 ^ 64 - 1) + (48 + x - 48)) (2 ^ 64 - 1) ≡ n * 10 + x = omega (arith, fits) in
    rw (digit_true x small) (ap (at s) e)

-- the digits of a number
digits_behind : (s n : ℕ) → n < 2 ^ 64 → fold behind (at s 0) (decimal n) ≡ at s n
digits_behind s n fits = decimal_by_steps (λ m ds. m < 2 ^ 64 → fold behind (at s 0) ds ≡ at s m) one more n fits fits
  where
    one : (m : ℕ) → m < 10 → m < 2 ^ 64 → fold behind (at s 0) ((48 + m) ∷ []) ≡ at s m
    one m small h = let e : 0 * 10 + m ≡ m = omega arith in digit_behind s 0 m small (omega (arith, small)) ∙ ap (at s) e

    more : (m : ℕ) (ds : List ℕ) → 10 ≤ m → (m / 10 < 2 ^ 64 → fold behind (at s 0) ds ≡ at s (m / 10)) → m < 2 ^ 64
        → fold behind (at s 0) (ds ++ (48 + m % 10) ∷ []) ≡ at s m
    more m ds big had h =
        let e : m / 10 * 10 + m % 10 ≡ m = omega arith in
        fold-append behind (at s 0) ds ((48 + m % 10) ∷ [])
        ∙ ap (λ t. behind t (48 + m % 10)) (had (omega (arith, h)))
        ∙ digit_behind s (m / 10) (m % 10) (omega arith) (omega (arith, h))
        ∙ ap (at s) e

-- a line
line_behind : (s d : ℕ) → d < 2 ^ 31 → fold behind (at s 0) (line d) ≡ at (min (s + d) (2 ^ 64 - 1)) 0
unfolding line
line_behind s d small =
    fold-append behind (at s 0) (decimal d ++ 93 ∷ []) (10 ∷ [])
    ∙ ap (λ t. behind t 10) (fold-append behind (at s 0) (decimal d) (93 ∷ [])
    ∙ ap (λ t. behind t 93) (digits_behind s d (omega (arith, small))))

-- lines
lines_behind : (a s : ℕ) (days : List ℕ) → s ≡ min a (2 ^ 64 - 1) → AllByRecursion (λ day. day < 2 ^ 31) days
    → fold behind (at s 0) (day_lines days) ≡ at (min (fold (λ x y. x + y) a days) (2 ^ 64 - 1)) 0
lines_behind a s [] is all = ap (λ x. at x 0) is
lines_behind a s (d ∷ days) is all =
    let next : min (s + d) (2 ^ 64 - 1) ≡ min (a + d) (2 ^ 64 - 1) = omega (arith, is) in
    fold-append behind (at s 0) (row_line (datum.Date (pos d) ∷ [])) (day_lines days)
    ∙ ap (λ t. fold behind t (day_lines days)) (ap (fold behind (at s 0)) (line_is d) ∙ line_behind s d all.0)
    ∙ lines_behind (a + d) (min (s + d) (2 ^ 64 - 1)) days next all.1

-- the sum behind all bytes of a text
pub sums_days : (text : List ℕ) (total : DaySum) → total ≡ fold behind (at 0 0) text → SumsDays text total.sum
sums_days text total is days small lines =
    ap (λ t. t.sum) (is ∙ ap (fold behind (at 0 0)) lines ∙ lines_behind 0 0 days (omega arith) small)
