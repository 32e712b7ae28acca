-- The sum of the days that a scan of the column `day` prints.
use Rattle.std.specs.Prelude.{ℕ, ◌+◌, ◌*◌, ◌-◌, ◌^◌, ◌<◌, ◌==◌, ◌≡◌, min, pos, List, [], ◌∷◌}
use Rattle.std.specs.Prelude.{if◌then◌else◌}
use Rattle.std.specs.Char.{is_ascii_digit}
use Rattle.std.specs.List.{AllByRecursion, flat_map, sum}
use Rattle.icb_types.specs.Lines.{row_line}
use Rattle.icb_types.specs.declared.datum.Datum.TheVariants as datum
use Rattle.icb_generate.specs.declared.day_sum.DaySum.{DaySum}

-- the lines of these days, one behind the other
abbrev pub day_lines : List ℕ → List ℕ
day_lines days = flat_map (λ day. row_line (datum.Date (pos day) ∷ [])) days

-- where a text is the lines of days, this is their sum, up to 2^64 - 1
abbrev pub SumsDays : List ℕ → ℕ → Type 0
SumsDays text found = (days : List ℕ) → AllByRecursion (λ day. day < 2 ^ 31) days
    → text ≡ day_lines days → found ≡ min (sum days) (2 ^ 64 - 1)

-- the sum of the days of whole lines, and the day of the line that is begun, behind one more byte
abbrev pub behind : DaySum → ℕ → DaySum
behind total byte =
    if is_ascii_digit byte then record {
      sum = total.sum;
      day = min (min (total.day * 10) (2 ^ 64 - 1) + (byte - 48)) (2 ^ 64 - 1);
    } else if byte == 10 then record {
      sum = min (total.sum + total.day) (2 ^ 64 - 1);
      day = 0;
    } else total
