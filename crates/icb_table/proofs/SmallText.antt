-- What queries choose of the small table.
use Rattle.std.specs.Prelude.{◌≡◌, ℕ, pos, Bool, true, false, List, [], ◌∷◌, ◌++◌, length, drop, filter, Option, Some, None, if◌then◌else◌, codes, unwrap_or}
use Rattle.std.specs.List.{flat_map}
use Rattle.std.specs.Cmp.{int_cmp_total}
use Rattle.std.specs.FinMap as finite
use Rattle.std.specs.Fmt.{digits}
use Rattle.std.proofs.Common.{refl, ap, ◌∙◌}
use Rattle.std.proofs.lemmas.List.{append-nil}
use Rattle.serde_json.proofs.OnLiterals.{serde_json_on_literals}
use Rattle.icb_types.specs.declared.datum.Datum.TheVariants as datum
use Rattle.icb_types.specs.Lines.{row_line}
use Rattle.icb_rows.specs.Ranges.{holds}
use Rattle.icb_table.specs.Laws.{SmallBound, SmallText, SmallVisits, SmallWords}
use Rattle.icb_table.specs.Selection.{at_most, chosen, columns_named, datum_in, is_within, line_of, selection_of}
use Rattle.icb_table.specs.Small as small
use Rattle.icb_table.specs.Tree.{TreeFile}
use Rattle.icb_table.specs.Tree as tree
use Rattle.icb_table.specs.Visited.{before_path, bound_of, matches_in, up_to}

-- ---- rows

got : (n : ℕ) → finite.get (small.row_of n) (pos 1) ≡ Some (datum.Long (pos n))
got n = finite.get-from_entries int_cmp_total ((pos 1, datum.Long (pos n)) ∷ []) (pos 1)

has : (n : ℕ) → datum_in (small.row_of n) (pos 1) ≡ datum.Long (pos n)
has n = ap (λ o. unwrap_or o datum.Null) (got n)

-- the items that are picked
abbrev picked : {A : Type 0} → List Bool → List A → List A
picked [] xs = []
picked (b ∷ bs) [] = []
picked (b ∷ bs) (x ∷ xs) = if b then x ∷ picked bs xs else picked bs xs

four : {A : Type 0} (p : A → Bool) (a b c d : A) (k l m n : Bool) → p a ≡ k → p b ≡ l → p c ≡ m → p d ≡ n
    → filter p (a ∷ b ∷ c ∷ d ∷ []) ≡ picked (k ∷ l ∷ m ∷ n ∷ []) (a ∷ b ∷ c ∷ d ∷ [])
four p a b c d k l m n e f g h = rw (e, f, g, h) refl

two : {A : Type 0} (p : A → Bool) (a b : A) (k l : Bool) → p a ≡ k → p b ≡ l
    → filter p (a ∷ b ∷ []) ≡ picked (k ∷ l ∷ []) (a ∷ b ∷ [])
two p a b k l e f = rw (e, f) refl

-- a number from another one on
from : (low skip n : ℕ) (most : Option ℕ) (b : Bool)
    → holds (record { kind = small.column.kind; low = Some (datum.Long (pos low)); high = None }) (datum.Long (pos n)) ≡ b
    → is_within (small.from_on low skip most).range (small.row_of n) ≡ b
from low skip n most b e =
    ap (holds (record { kind = small.column.kind; low = Some (datum.Long (pos low)); high = None })) (has n) ∙ e

chosen_is : chosen (small.from_on 2 1 (Some 1)) small.rows_2 ≡ small.row_of 3 ∷ []
chosen_is = ap (λ rows. at_most (Some 1) (drop 1 rows)) (four (is_within (small.from_on 2 1 (Some 1)).range)
    (small.row_of 1) (small.row_of 2) (small.row_of 3) (small.row_of 4) false true true true
    (from 2 1 1 (Some 1) false refl) (from 2 1 2 (Some 1) true refl) (from 2 1 3 (Some 1) true refl)
    (from 2 1 4 (Some 1) true refl))

line_is : row_line (datum.Long (pos 3) ∷ []) ≡ codes "[3]" ++ 10 ∷ []
unfolding row_line serde_json_on_literals digits
line_is = refl

two_line_is : row_line (datum.Long (pos 3) ∷ datum.Null ∷ []) ≡ codes "[3,null]" ++ 10 ∷ []
unfolding row_line serde_json_on_literals digits
two_line_is = refl

-- a row has nothing at another id
lacks : (n : ℕ) → datum_in (small.row_of n) (pos 2) ≡ datum.Null
lacks n = ap (λ o. unwrap_or o datum.Null)
    (finite.get-from_entries int_cmp_total ((pos 1, datum.Long (pos n)) ∷ []) (pos 2))

pub small_text : SmallText
small_text = record {
  rows = chosen_is;
  text = ap (flat_map (line_of (small.column ∷ []))) chosen_is
      ∙ append-nil (line_of (small.column ∷ []) (small.row_of 3))
      ∙ ap (λ d. row_line (d ∷ [])) (has 3) ∙ line_is;
  line = ap (λ d. row_line (d ∷ datum_in (small.row_of 3) (pos 2) ∷ [])) (has 3)
      ∙ ap (λ d. row_line (datum.Long (pos 3) ∷ d ∷ [])) (lacks 3) ∙ two_line_is;
}

-- ---- files

up_to_third : (m : TreeFile → ℕ) (a b c : TreeFile) (rest : List TreeFile) → m a ≡ 0 → m b ≡ 0 → m c ≡ 2
    → up_to m 2 (a ∷ b ∷ c ∷ rest) ≡ a ∷ b ∷ c ∷ []
unfolding up_to
up_to_third m a b c rest e f g = rw (e, f, g) refl

pub small_visits : SmallVisits
unfolding bound_of before_path
small_visits = record {
  all = refl;
  excluded = refl;
  ended = up_to_third (matches_in small.contents (small.from_on 1 1 (Some 1)).range) (tree.list small.list_2)
      (tree.manifest small.manifest_1) (tree.data_file small.live_1)
      (tree.manifest small.manifest_2 ∷ tree.data_file small.live_2 ∷ []) refl refl
      (ap length (two (is_within (small.from_on 1 1 (Some 1)).range) (small.row_of 1) (small.row_of 2) true true
      (from 1 1 1 (Some 1) true refl) (from 1 1 2 (Some 1) true refl)));
  none = refl;
  before = refl;
}

pub small_bound : SmallBound
unfolding bound_of
small_bound = refl

pub small_words : SmallWords
unfolding selection_of columns_named
small_words = (refl, (refl, (refl, (refl, tt))))
