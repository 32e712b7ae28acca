-- What is chosen of rows that come one after another.
use Rattle.std.proofs.Common.{◌≡◌, ℕ, zero, suc, ◌+◌, ◌-◌, ◌^◌, ◌<◌, ◌≤◌, true, false, List, [], ◌∷◌, ◌++◌, length, take, drop, Option, Some, None, refl, sym, ap, ◌∙◌, arith, true≢false, append_assoc, append-nil, length-append, length-drop}
use Rattle.std.specs.Prelude.{filter, option_map, min}
use Rattle.std.proofs.lemmas.List.{drop_all}
use Rattle.std.proofs.Math.Dec.{eqb-suc-zero}
use Rattle.std.proofs.Math.Nat.{min-eq_left}
use Rattle.std.specs.List.{flat_map}
use Rattle.std.proofs.lemmas.List.Concat.{flat_map-append}
use Rattle.std.proofs.lemmas.List.Elements.{filter-append}
use Rattle.icb_types.specs.declared.columns.Column.{Column}
use Rattle.icb_rows.specs.Records.{Row}
use Rattle.icb_rows.specs.Views as views
use Rattle.icb_table.specs.Selection.{ColumnRange, Selection, at_most, chosen, is_within, line_of}
use Rattle.icb_datafile.specs.declared.plan.Plan.{Plan}
use Rattle.icb_datafile.specs.Plans.{CountsDown, IsPlanOf, KeepsWords, Passes, StaysPut, asks_none, matches, range_at, selection_by}

-- ---- selections

-- the columns and the range stay
pub kept_words : (a b c : Plan) → KeepsWords a b → KeepsWords b c → KeepsWords a c
kept_words a b c one two = record {
  same_columns = two.same_columns ∙ one.same_columns;
  same_range = two.same_range ∙ one.same_range;
}

-- a plan's positions stay those of columns
pub plan_stays : (columns : List Column) (old new : Plan) → KeepsWords old new → IsPlanOf columns old → IsPlanOf columns new
plan_stays columns old new words is = record {
  own_ids = is.own_ids;
  shown = rw words.same_columns is.shown;
  range_in = rw words.same_range is.range_in;
}

-- ---- counts

-- a number less none
less_none : (k : ℕ) (most : Option ℕ) → k ≡ 0 → most ≡ option_map (λ n. n - k) most
less_none k None e = refl
less_none k (Some n) e = ap Some (omega (arith, e))

-- none is asked, less any number
less_any : (k : ℕ) (most : Option ℕ) → asks_none most ≡ true → most ≡ option_map (λ n. n - k) most
less_any k None e = absurd (let never : ⊥ = cc in never)
less_any k (Some zero) e = ap Some (let none : 0 ≡ 0 - k = omega arith in none)
less_any k (Some (suc n)) e = absurd (true≢false (sym e ∙ eqb-suc-zero n))

-- one number less, and then another
less_twice : (p q r : ℕ) (most : Option ℕ) → p + q ≡ r → option_map (λ n. n - q) (option_map (λ n. n - p) most) ≡ option_map (λ n. n - r) most
less_twice p q r None e = refl
less_twice p q r (Some n) e = ap Some (omega (arith, e))

-- so many rows are counted
counts_by : (old new : Selection) (rows : List Row) (m : ℕ) → matches old.range rows ≡ m → new.skip ≡ old.skip - m
    → new.most ≡ option_map (λ n. n - (m - old.skip)) old.most → CountsDown old new rows
counts_by old new rows m e skips asks = record {
  skips = skips ∙ ap (λ (k : ℕ). old.skip - k) (sym e);
  asks = asks ∙ ap (λ (k : ℕ). option_map (λ n. n - (k - old.skip)) old.most) (sym e);
}

-- none is counted
pub counts_none : (old new : Selection) (rows : List Row) → matches old.range rows ≡ 0 → new.skip ≡ old.skip → new.most ≡ old.most → CountsDown old new rows
counts_none old new rows e skip most =
    counts_by old new rows 0 e (skip ∙ (let same : old.skip ≡ old.skip - 0 = omega arith in same)) (most ∙ less_none (0 - old.skip) old.most (omega arith))

-- rows and more rows are counted
pub counts_more : (a b c : Selection) (x y : List Row) → b.range ≡ a.range → CountsDown a b x → CountsDown b c y → CountsDown a c (x ++ y)
counts_more a b c x y same one two =
    let p : ℕ = matches a.range x in
    let q : ℕ = matches a.range y in
    let both : matches a.range (x ++ y) ≡ p + q = ap length (filter-append (is_within a.range) x y) ∙ length-append (filter (is_within a.range) x) (filter (is_within a.range) y) in
    let skips : c.skip ≡ b.skip - q = two.skips ∙ ap (λ (r : Option ColumnRange). b.skip - matches r y) same in
    let asks : c.most ≡ option_map (λ n. n - (q - b.skip)) b.most = two.asks ∙ ap (λ (r : Option ColumnRange). option_map (λ n. n - (matches r y - b.skip)) b.most) same in
    let sum : (p - a.skip) + (q - b.skip) ≡ (p + q) - a.skip = omega (arith, one.skips) in
    counts_by a c (x ++ y) (p + q) both (omega (arith, skips, one.skips))
    (asks ∙ ap (option_map (λ n. n - (q - b.skip))) one.asks ∙ less_twice (p - a.skip) (q - b.skip) ((p + q) - a.skip) a.most sum)

-- ---- rows that are chosen

-- without the first ones, of two lists
drop_both : {A : Type 0} (k : ℕ) (xs ys : List A) → drop k (xs ++ ys) ≡ drop k xs ++ drop (k - length xs) ys
drop_both zero xs ys = let e : 0 ≡ 0 - length xs = omega arith in ap (λ (n : ℕ). xs ++ drop n ys) e
drop_both (suc k) [] ys = let e : suc k ≡ suc k - 0 = omega arith in ap (λ (n : ℕ). drop n ys) e
drop_both (suc k) (x ∷ xs) ys = drop_both k xs ys ∙ ap (λ (n : ℕ). drop k xs ++ drop n ys) (let e : k - length xs ≡ suc k - length (x ∷ xs) = omega arith in e)

-- the first ones, of two lists
take_both : {A : Type 0} (n : ℕ) (xs ys : List A) → take n (xs ++ ys) ≡ take n xs ++ take (n - length xs) ys
take_both (suc n) [] ys = let e : suc n ≡ suc n - 0 = omega arith in ap (λ (m : ℕ). take m ys) e
take_both zero [] ys = refl
take_both zero (x ∷ xs) ys = let e : 0 - length (x ∷ xs) ≡ 0 = omega arith in rw e refl
take_both (suc n) (x ∷ xs) ys = ap (λ zs. x ∷ zs) (take_both n xs ys
    ∙ ap (λ (m : ℕ). take n xs ++ take m ys) (let e : n - length xs ≡ suc n - length (x ∷ xs) = omega arith in e))

most_both : {A : Type 0} (most : Option ℕ) (xs ys : List A) (k : ℕ) → length xs ≡ k → at_most most (xs ++ ys) ≡ at_most most xs ++ at_most (option_map (λ n. n - k) most) ys
most_both None xs ys k e = refl
most_both (Some n) xs ys k e = take_both n xs ys ∙ ap (λ (m : ℕ). take n xs ++ take (n - m) ys) e

-- of rows and those behind them are chosen those of the first, and then, by what is left to choose, those behind
pub chosen_more : (a b : Selection) (x y : List Row) → b.range ≡ a.range → CountsDown a b x → chosen a (x ++ y) ≡ chosen a x ++ chosen b y
chosen_more a b x y same counts =
    let fx = filter (is_within a.range) x in
    let fy = filter (is_within a.range) y in
    let behind : at_most (option_map (λ n. n - (length fx - a.skip)) a.most) (drop (a.skip - length fx) fy) ≡ chosen b y =
    ap (λ (m : Option ℕ). at_most m (drop (a.skip - length fx) fy)) (sym counts.asks)
    ∙ ap (λ (k : ℕ). at_most b.most (drop k fy)) (sym counts.skips)
    ∙ ap (λ (r : Option ColumnRange). at_most b.most (drop b.skip (filter (is_within r) y))) (sym same) in
    ap (λ (rs : List Row). at_most a.most (drop a.skip rs)) (filter-append (is_within a.range) x y)
    ∙ ap (at_most a.most) (drop_both a.skip fx fy)
    ∙ most_both a.most (drop a.skip fx) (drop (a.skip - length fx) fy) (length fx - a.skip) (length-drop a.skip fx)
    ∙ ap (λ (rs : List Row). chosen a x ++ rs) behind

-- of none none is chosen
drop_none : {A : Type 0} (k : ℕ) → drop k (let none : List A = [] in none) ≡ []
drop_none zero = refl
drop_none (suc k) = refl

take_none : {A : Type 0} (k : ℕ) → take k (let none : List A = [] in none) ≡ []
take_none zero = refl
take_none (suc k) = refl

nothing : (most : Option ℕ) (skip : ℕ) (rows : List Row) → rows ≡ [] → at_most most (drop skip rows) ≡ []
nothing most skip rows e = ap (λ (rs : List Row). at_most most (drop skip rs)) e ∙ ap (at_most most) (drop_none skip) ∙ at_most_none most
  where
    at_most_none : (most : Option ℕ) → at_most most (let none : List Row = [] in none) ≡ []
    at_most_none None = refl
    at_most_none (Some n) = take_none n

pub chosen_none : (s : Selection) → chosen s [] ≡ []
chosen_none s = nothing s.most s.skip [] refl

-- ---- one row, or none

-- no row is printed
nothing_more : {A : Type 0} (line : A → List ℕ) (old new : List ℕ) (rows : List A) → rows ≡ [] → new ≡ old → new ≡ old ++ flat_map line rows
nothing_more line old new rows none same = same ∙ sym (append-nil old) ∙ ap (λ rs. old ++ flat_map line rs) (sym none)

none_counted : {A : Type 0} (old new : ℕ) (rows : List A) → rows ≡ [] → new ≡ old → new ≡ old + length rows
none_counted old new rows none same =
    let size : length rows ≡ 0 = ap length none in omega (arith, size, same)

-- no row was passed
pub none_passed : (columns : List Column) (old new : Plan) (rows : List Row) → KeepsWords old new → StaysPut old new → Passes columns old new rows rows
none_passed columns old new rows words put =
    let s : Selection = selection_by columns old in
    record {
      passed = [];
      first = refl;
      counts = counts_none s (selection_by columns new) [] refl put.same_skip put.same_most;
      is_text = nothing_more (line_of s.columns) old.text new.text (chosen s []) (chosen_none s) put.same_text;
      counted = λ fits. none_counted old.shown new.shown (chosen s []) (chosen_none s) put.same_shown;
    }

-- a row that isn't chosen
pub row_passed : (columns : List Column) (old new : Plan) (row : Row) → new.text ≡ old.text → new.shown ≡ old.shown
    → CountsDown (selection_by columns old) (selection_by columns new) (row ∷ []) → chosen (selection_by columns old) (row ∷ []) ≡ []
    → Passes columns old new (row ∷ []) []
row_passed columns old new row text shown counts none =
    let s : Selection = selection_by columns old in
    record {
      passed = row ∷ [];
      first = refl;
      counts = counts;
      is_text = nothing_more (line_of s.columns) old.text new.text (chosen s (row ∷ [])) none text;
      counted = λ fits. none_counted old.shown new.shown (chosen s (row ∷ [])) none shown;
    }

-- the row of a list of one that isn't in the range, and of one that is
not_matched : (range : Option ColumnRange) (row : Row) → is_within range row ≡ false → filter (is_within range) (row ∷ []) ≡ []
not_matched range row out = rw out refl

matched : (range : Option ColumnRange) (row : Row) → is_within range row ≡ true → filter (is_within range) (row ∷ []) ≡ row ∷ []
matched range row is = rw is refl

-- it isn't in the range
pub row_outside : (columns : List Column) (old : Plan) (row : Row) → is_within (range_at columns old.range) row ≡ false → Passes columns old old (row ∷ []) []
row_outside columns old row out =
    let s : Selection = selection_by columns old in
    let none = not_matched (range_at columns old.range) row out in
    row_passed columns old old row refl refl (counts_none s s (row ∷ []) (ap length none) refl refl)
    (nothing old.most old.skip (filter (is_within (range_at columns old.range)) (row ∷ [])) none)

-- it is left out
left_out : (skip : ℕ) (most : Option ℕ) (row : Row) → 0 < skip → at_most most (drop skip (row ∷ [])) ≡ []
left_out zero most row some = absurd (let never : ⊥ = omega (arith, some) in never)
left_out (suc skip) most row some = nothing most skip [] refl

pub row_left_out : (columns : List Column) (old new : Plan) (row : Row) → is_within (range_at columns old.range) row ≡ true → 0 < old.skip
    → KeepsWords old new → new.skip ≡ old.skip - 1 → new.most ≡ old.most → new.text ≡ old.text → new.shown ≡ old.shown
    → Passes columns old new (row ∷ []) []
row_left_out columns old new row is some words skip most text shown =
    let one = matched (range_at columns old.range) row is in
    let enough : 1 - old.skip ≡ 0 = omega (arith, some) in
    row_passed columns old new row text shown
    (counts_by (selection_by columns old) (selection_by columns new) (row ∷ []) 1 (ap length one) skip (most ∙ less_none (1 - old.skip) old.most enough))
    (ap (λ (rs : List Row). at_most old.most (drop old.skip rs)) one ∙ left_out old.skip old.most row some)

-- none is asked
none_asked : (most : Option ℕ) (rows : List Row) → asks_none most ≡ true → at_most most rows ≡ []
none_asked None rows e = absurd (let never : ⊥ = cc in never)
none_asked (Some zero) rows e = refl
none_asked (Some (suc n)) rows e = absurd (true≢false (sym e ∙ eqb-suc-zero n))

pub row_not_asked : (columns : List Column) (old : Plan) (row : Row) → old.skip ≡ 0 → asks_none old.most ≡ true → Passes columns old old (row ∷ []) []
row_not_asked columns old row first none =
    let s : Selection = selection_by columns old in
    let m : ℕ = matches (range_at columns old.range) (row ∷ []) in
    let same : old.skip ≡ old.skip - m = omega (arith, first) in
    row_passed columns old old row refl refl
    (counts_by s s (row ∷ []) m refl same (less_any (m - old.skip) old.most none))
    (none_asked old.most (drop old.skip (filter (is_within (range_at columns old.range)) (row ∷ []))) none)

-- it is shown
is_shown : (skip : ℕ) (most : Option ℕ) (row : Row) → skip ≡ 0 → asks_none most ≡ false → at_most most (drop skip (row ∷ [])) ≡ row ∷ []
is_shown zero None row none asked = refl
is_shown zero (Some zero) row none asked = absurd (let never : ⊥ = cc in never)
is_shown zero (Some (suc n)) row none asked = ap (λ (rs : List Row). row ∷ rs) (take_none n)
is_shown (suc skip) most row none asked = absurd (let never : ⊥ = omega (arith, none) in never)

pub row_shown : (columns : List Column) (old new : Plan) (row : Row) (line : List ℕ) → is_within (range_at columns old.range) row ≡ true → old.skip ≡ 0 → asks_none old.most ≡ false
    → KeepsWords old new → new.skip ≡ old.skip → new.most ≡ option_map (λ n. n - 1) old.most
    → line ≡ line_of (views.chosen columns old.columns) row → new.text ≡ old.text ++ line → new.shown ≡ min (old.shown + 1) (2 ^ 64 - 1)
    → Passes columns old new (row ∷ []) []
row_shown columns old new row line is none asked words skip most line_is text shown =
    let s : Selection = selection_by columns old in
    let one = matched (range_at columns old.range) row is in
    let here : chosen s (row ∷ []) ≡ row ∷ [] = ap (λ (rs : List Row). at_most old.most (drop old.skip rs)) one ∙ is_shown old.skip old.most row none asked in
    let size : length (chosen s (row ∷ [])) ≡ 1 = ap length here in
    let left : 1 ≡ 1 - old.skip = omega (arith, none) in
    let zero : old.skip ≡ old.skip - 1 = omega (arith, none) in
    record {
      passed = row ∷ [];
      first = refl;
      counts = counts_by s (selection_by columns new) (row ∷ []) 1 (ap length one) (skip ∙ zero)
          (most ∙ ap (λ (k : ℕ). option_map (λ n. n - k) old.most) left);
      is_text = text ∙ ap (λ (l : List ℕ). old.text ++ l) (line_is ∙ sym (append-nil (line_of (views.chosen columns old.columns) row)))
          ∙ ap (λ (rs : List Row). old.text ++ flat_map (line_of (views.chosen columns old.columns)) rs) (sym here);
      counted = λ fits. shown ∙ min-eq_left (omega (arith, fits, size)) ∙ ap (λ (n : ℕ). old.shown + n) (sym size);
    }

-- ---- rows that are left out

-- where no range is asked all rows are in it
all_match : (rows : List Row) → filter (is_within None) rows ≡ rows
all_match [] = refl
all_match (row ∷ rows) = ap (λ (rs : List Row). row ∷ rs) (all_match rows)

pub none_outside : (range : Option ColumnRange) (rows : List Row) → range ≡ None → filter (is_within range) rows ≡ rows
none_outside range rows none = ap (λ (r : Option ColumnRange). filter (is_within r) rows) none ∙ all_match rows

-- rows that are no more than those that are left out
pub passes_out : (columns : List Column) (p q : Plan) (rows rest : List Row) → p.range ≡ None → length rows ≤ p.skip → KeepsWords p q → q.skip ≡ p.skip - length rows
    → q.most ≡ p.most → q.text ≡ p.text → q.shown ≡ p.shown → Passes columns p q (rows ++ rest) rest
passes_out columns p q rows rest none few words skip most text shown =
    let s : Selection = selection_by columns p in
    let all : filter (is_within s.range) rows ≡ rows = none_outside s.range rows (ap (range_at columns) none) in
    let size : matches s.range rows ≡ length rows = ap length all in
    let nothing_chosen : chosen s rows ≡ [] =
    ap (λ (rs : List Row). at_most p.most (drop p.skip rs)) all ∙ ap (at_most p.most) (drop_all p.skip rows few) ∙ nothing p.most 0 [] refl in
    record {
      passed = rows;
      first = refl;
      counts = counts_by s (selection_by columns q) rows (length rows) size skip (most ∙ less_none (length rows - p.skip) p.most (omega (arith, few)));
      is_text = nothing_more (line_of s.columns) p.text q.text (chosen s rows) nothing_chosen text;
      counted = λ fits. none_counted p.shown q.shown (chosen s rows) nothing_chosen shown;
    }

-- ---- rows and more rows

-- the text of rows, and of more behind them
text_more : {A : Type 0} (line : A → List ℕ) (a b c : List ℕ) (first second : List A) → b ≡ a ++ flat_map line first → c ≡ b ++ flat_map line second
    → c ≡ a ++ flat_map line (first ++ second)
text_more line a b c first second one two =
    two ∙ ap (λ (t : List ℕ). t ++ flat_map line second) one ∙ append_assoc a (flat_map line first) (flat_map line second)
    ∙ ap (λ (t : List ℕ). a ++ t) (sym (flat_map-append line first second))

pub passes_more : (columns : List Column) (a b c : Plan) (rows mid left : List Row) → KeepsWords a b
    → Passes columns a b rows mid → Passes columns b c mid left → Passes columns a c rows left
passes_more columns a b c rows mid left words one two =
    let line : Row → List ℕ = line_of (views.chosen columns a.columns) in
    let sa : Selection = selection_by columns a in
    let sb : Selection = selection_by columns b in
    let same : sb.range ≡ sa.range = ap (range_at columns) words.same_range in
    let both : chosen sa (one.passed ++ two.passed) ≡ chosen sa one.passed ++ chosen sb two.passed = chosen_more sa sb one.passed two.passed same one.counts in
    let size = ap length both ∙ length-append (chosen sa one.passed) (chosen sb two.passed) in
    record {
      passed = one.passed ++ two.passed;
      first = one.first ∙ ap (λ (rs : List Row). one.passed ++ rs) two.first ∙ sym (append_assoc one.passed two.passed left);
      counts = counts_more sa sb (selection_by columns c) one.passed two.passed same one.counts two.counts;
      is_text = text_more line a.text b.text c.text (chosen sa one.passed) (chosen sb two.passed) one.is_text
          (two.is_text ∙ ap (λ (ps : List ℕ). b.text ++ flat_map (line_of (views.chosen columns ps)) (chosen sb two.passed)) words.same_columns)
          ∙ ap (λ (rs : List Row). a.text ++ flat_map line rs) (sym both);
      counted = λ fits.
          let first : b.shown ≡ a.shown + length (chosen sa one.passed) = one.counted (omega (arith, fits, size)) in
          let second : c.shown ≡ b.shown + length (chosen sb two.passed) = two.counted (omega (arith, fits, size, first)) in
          omega (arith, size, first, second);
    }

-- behind rows that are passed there may be more
pub passes_before : (columns : List Column) (a b : Plan) (rows left behind : List Row) → Passes columns a b rows left → Passes columns a b (rows ++ behind) (left ++ behind)
passes_before columns a b rows left behind p = record {
  passed = p.passed;
  first = ap (λ (rs : List Row). rs ++ behind) p.first ∙ append_assoc p.passed left behind;
  counts = p.counts;
  is_text = p.is_text;
  counted = p.counted;
}
