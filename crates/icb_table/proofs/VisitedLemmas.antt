-- The files that a query visits have the rows that it chooses.
use Rattle.std.specs.Prelude.{◌≡◌, ℕ, zero, suc, ◌+◌, ◌-◌, ℤ, Bool, true, false, List, [], ◌∷◌, ◌++◌, length, map, take, drop, filter, Option, Some, None, IfSome, if◌then◌else◌}
use Rattle.std.specs.List.{AllByRecursion, Contains, flat_map}
use Rattle.std.proofs.Common.{refl, ap, ◌∙◌, sym, subst, arith}
use Rattle.std.proofs.lemmas.List.{append_assoc, drop-take}
use Rattle.std.proofs.lemmas.List.Elements.{filter-append, Contains-append_right, All-contains, All-from_recursion}
use Rattle.icb_types.specs.declared.columns.ColType.{ColType}
use Rattle.icb_types.specs.declared.columns.Column.{Column}
use Rattle.icb_types.specs.declared.datum.Datum.{Datum}
use Rattle.icb_rows.specs.Bounds.{IsLowerBound, IsUpperBound}
use Rattle.icb_rows.specs.Ranges.{is_uuid}
use Rattle.icb_rows.specs.Records.{Row}
use Rattle.icb_rows.proofs.BoundLemmas.{nothing_is_pruned}
use Rattle.icb_manifest.specs.declared.file.DataFile.{DataFile}
use Rattle.icb_table.specs.Laws.{IsRangeOf, VisitedSuffice}
use Rattle.icb_table.specs.Selection.{ColumnRange, at_most, chosen, datum_in, is_within}
use Rattle.icb_table.specs.Snapshots.{columns_of}
use Rattle.icb_table.specs.Table.{AllBoundsHold, BoundsHold, contents_in}
use Rattle.icb_table.specs.Trace.{Stop, behind, each_in, whole}
use Rattle.icb_table.specs.Tree.{Contents, LiveFile, TreeFile, list, manifest, data_file, live_files, rows_in}
use Rattle.icb_table.specs.Visited.{bound_of, files_for, is_open, matches_in, may_match, up_to, visited}
use Rattle.icb_table.proofs.TraceLemmas.{behind_first, behind_second}

-- ---- rows that are all read

-- the rows of each of these files are all read
abbrev pub AllRead : Contents → List TreeFile → Type 0
AllRead contents files = AllByRecursion (λ f. (rows_in contents f).stop ≡ None) files

-- the rows of these files
abbrev items_of : Contents → List TreeFile → List Row
items_of contents files = flat_map (λ f. (rows_in contents f).items) files

pub all_read : (contents : Contents) (files : List TreeFile) → (each_in (rows_in contents) files).stop ≡ None
    → AllRead contents files
unfolding each_in
all_read contents [] e = tt
all_read contents (f ∷ files) e = (
  behind_first (rows_in contents f).items (rows_in contents f).stop (each_in (rows_in contents) files) e,
  all_read contents files
      (behind_second (rows_in contents f).items (rows_in contents f).stop (each_in (rows_in contents) files) e),
)

-- behind what wasn't stopped comes all of the rest
behind_whole : (items : List Row) (stop : Option Stop) (more : List Row) → stop ≡ None
    → behind items stop (whole more) ≡ whole (items ++ more)
behind_whole items None more e = refl
behind_whole items (Some s) more e = absurd (let g : ⊥ = cc in g)

are_items : (contents : Contents) (files : List TreeFile) → AllRead contents files
    → each_in (rows_in contents) files ≡ whole (items_of contents files)
unfolding each_in
are_items contents [] all = refl
are_items contents (f ∷ files) all =
    ap (behind (rows_in contents f).items (rows_in contents f).stop) (are_items contents files all.1)
    ∙ behind_whole (rows_in contents f).items (rows_in contents f).stop (items_of contents files) all.0

filter_read : (contents : Contents) (p : TreeFile → Bool) (files : List TreeFile) → AllRead contents files
    → AllRead contents (filter p files)
filter_read contents p [] all = tt
filter_read contents p (f ∷ files) all =
    elim (p f) as (λ b. AllRead contents (if b then f ∷ filter p files else filter p files)) [
      | true ↦ (all.0, filter_read contents p files all.1)
      | false ↦ filter_read contents p files all.1
    ]

up_to_read : (contents : Contents) (m : TreeFile → ℕ) (n : ℕ) (files : List TreeFile) → AllRead contents files
    → AllRead contents (up_to m n files)
unfolding up_to
up_to_read contents m zero files all = tt
up_to_read contents m (suc n) [] all = tt
up_to_read contents m (suc n) (f ∷ files) all = (all.0, up_to_read contents m (suc n - m f) files all.1)

for_read : (contents : Contents) (m : TreeFile → ℕ) (skip : ℕ) (most : Option ℕ) (files : List TreeFile)
    → AllRead contents files → AllRead contents (files_for m skip most files)
for_read contents m skip None files all = all
for_read contents m skip (Some zero) files all = tt
for_read contents m skip (Some (suc n)) files all = up_to_read contents m (skip + suc n) files all

-- ---- rows that match

-- the rows of a file that match
abbrev matching : Contents → Option ColumnRange → TreeFile → List Row
matching contents range f = filter (is_within range) (rows_in contents f).items

filter_items : (contents : Contents) (range : Option ColumnRange) (files : List TreeFile)
    → filter (is_within range) (items_of contents files) ≡ flat_map (matching contents range) files
filter_items contents range [] = refl
filter_items contents range (f ∷ files) =
    filter-append (is_within range) (rows_in contents f).items (items_of contents files)
    ∙ ap (λ rows. matching contents range f ++ rows) (filter_items contents range files)

-- no row passes where none of them does
none_pass : (p : Row → Bool) (q : Row → Datum) (all before : List Datum) (rows : List Row)
    → all ≡ before ++ map q rows → ((row : Row) → Contains all (q row) → p row ≡ false)
    → filter p rows ≡ []
none_pass p q all before [] e none = refl
none_pass p q all before (row ∷ rows) e none =
    let here : Contains all (q row) = subst (λ ds. Contains ds (q row)) (sym e)
    (Contains-append_right before (q row ∷ map q rows) (q row) (0, omega arith, refl)) in
    let rest : all ≡ before ++ q row ∷ [] ++ map q rows =
    e ∙ sym (append_assoc before (q row ∷ []) (map q rows)) in
    rw (none row here) (none_pass p q all (before ++ q row ∷ []) rows rest none)

not_both : (b : Bool) → (b ≡ true → ⊥) → b ≡ false
not_both true h = absurd (h refl)
not_both false h = refl

clash : {b : Bool} → b ≡ true → b ≡ false → ⊥
clash p q = let g : ⊥ = cc in g

-- the bounds of the column of this id and kind bound its data
abbrev LowerHolds : DataFile → List Row → ℤ → ColType → Type 0
LowerHolds file rows id k = is_uuid k ≡ false → IfSome (bound_of id file.lower)
    (λ bytes. IsLowerBound k bytes (map (λ row. datum_in row id) rows))

abbrev UpperHolds : DataFile → List Row → ℤ → ColType → Type 0
UpperHolds file rows id k = is_uuid k ≡ false → IfSome (bound_of id file.upper)
    (λ bytes. IsUpperBound k bytes (map (λ row. datum_in row id) rows))

-- a file whose bounds exclude the range has no row in it
excluded_by : (file : DataFile) (rows : List Row) (r : ColumnRange) (u : Bool) → is_uuid r.range.kind ≡ u
    → LowerHolds file rows r.id r.range.kind → UpperHolds file rows r.id r.range.kind
    → may_match (Some r) file ≡ false → filter (is_within (Some r)) rows ≡ []
excluded_by file rows r true u low high out = absurd (clash (rw u refl) out)
excluded_by file rows r false u low high out =
    none_pass (is_within (Some r)) (λ row. datum_in row r.id) (map (λ row. datum_in row r.id) rows) [] rows refl
    (λ row has. not_both (is_within (Some r) row) (λ held. clash (nothing_is_pruned r.range
    (map (λ row. datum_in row r.id) rows) (datum_in row r.id) (bound_of r.id file.lower) (bound_of r.id file.upper)
    has held (low u) (high u)) out))

excluded : (file : DataFile) (rows : List Row) (c : Column) (r : ColumnRange) → BoundsHold file rows c
    → c.id ≡ r.id → c.kind ≡ r.range.kind → may_match (Some r) file ≡ false
    → filter (is_within (Some r)) rows ≡ []
excluded file rows c r bounds id kind out =
    let low : LowerHolds file rows c.id c.kind = bounds.lower in
    let high : UpperHolds file rows c.id c.kind = bounds.upper in
    excluded_by file rows r (is_uuid r.range.kind) refl
    (subst (λ k. LowerHolds file rows r.id k) kind (subst (λ i. LowerHolds file rows i c.kind) id low))
    (subst (λ k. UpperHolds file rows r.id k) kind (subst (λ i. UpperHolds file rows i c.kind) id high)) out

-- ---- pruning

-- a column's bounds are among those of all
bounds_of_column : (file : DataFile) (rows : List Row) (columns : List Column) (c : Column)
    → Contains columns c → AllByRecursion (BoundsHold file rows) columns → BoundsHold file rows c
bounds_of_column file rows columns c has all =
    All-contains (BoundsHold file rows) columns c (All-from_recursion (BoundsHold file rows) columns all) has

-- a file that is closed to the range has no row that matches
closed : (columns : List Column) (contents : Contents) (range : Option ColumnRange) (f : LiveFile)
    → IsRangeOf columns range → AllBoundsHold columns contents f → may_match range f.file ≡ false
    → matching contents range (data_file f) ≡ []
closed columns contents None f is bounds out = absurd (clash refl out)
closed columns contents (Some r) f is bounds out =
    excluded f.file (contents.data_rows f.listed).items is.0 r
    (bounds_of_column f.file (contents.data_rows f.listed).items columns is.0 is.1 bounds) is.2 is.3 out

-- where it is said whether a data file is open
open_or_closed : (columns : List Column) (contents : Contents) (range : Option ColumnRange) (f : LiveFile)
    (files : List TreeFile) (b : Bool) → may_match range f.file ≡ b
    → IsRangeOf columns range → AllBoundsHold columns contents f
    → flat_map (matching contents range) (filter (is_open range) files) ≡ flat_map (matching contents range) files
    → flat_map (matching contents range) (if b then data_file f ∷ filter (is_open range) files else filter (is_open range) files)
    ≡ matching contents range (data_file f) ++ flat_map (matching contents range) files
open_or_closed columns contents range f files true p is bounds rest =
    ap (λ rows. matching contents range (data_file f) ++ rows) rest
open_or_closed columns contents range f files false p is bounds rest =
    rest ∙ ap (λ rows. rows ++ flat_map (matching contents range) files)
    (sym (closed columns contents range f is bounds p))

-- the files that are open have all rows that match
open_suffice : (columns : List Column) (contents : Contents) (range : Option ColumnRange)
    → IsRangeOf columns range → (files : List TreeFile)
    → AllByRecursion (AllBoundsHold columns contents) (live_files files)
    → flat_map (matching contents range) (filter (is_open range) files) ≡ flat_map (matching contents range) files
open_suffice columns contents range is [] bounds = refl
open_suffice columns contents range is (list f ∷ files) bounds = open_suffice columns contents range is files bounds
open_suffice columns contents range is (manifest f ∷ files) bounds = open_suffice columns contents range is files bounds
open_suffice columns contents range is (data_file f ∷ files) bounds =
    open_or_closed columns contents range f files (may_match range f.file) refl is bounds.0
    (open_suffice columns contents range is files bounds.1)

-- ---- the first rows

-- the first of two texts, one behind the other, are of the first one and then of the second
take_both : {A : Type 0} (n : ℕ) (xs ys : List A) → take n (xs ++ ys) ≡ take n xs ++ take (n - length xs) ys
take_both zero [] ys = refl
take_both (suc n) [] ys = let e : suc n ≡ suc n - 0 = omega arith in ap (λ m. take m ys) e
take_both zero (x ∷ xs) ys = let e : 0 - length (x ∷ xs) ≡ 0 = omega arith in rw e refl
take_both (suc n) (x ∷ xs) ys = ap (λ zs. x ∷ zs) (take_both n xs ys
    ∙ ap (λ m. take n xs ++ take m ys) (let e : n - length xs ≡ suc n - length (x ∷ xs) = omega arith in e))

enough : (contents : Contents) (range : Option ColumnRange) (n : ℕ) (files : List TreeFile)
    → take n (flat_map (matching contents range) (up_to (matches_in contents range) n files))
    ≡ take n (flat_map (matching contents range) files)
unfolding up_to
enough contents range zero files = refl
enough contents range (suc n) [] = refl
enough contents range (suc n) (f ∷ files) =
    let m = matching contents range f in
    take_both (suc n) m (flat_map (matching contents range) (up_to (matches_in contents range) (suc n - length m) files))
    ∙ ap (λ rows. take (suc n) m ++ rows) (enough contents range (suc n - length m) files)
    ∙ sym (take_both (suc n) m (flat_map (matching contents range) files))

-- at most so many behind others, of texts that agree on so many first ones
first_suffice : {A : Type 0} (k n : ℕ) (xs ys : List A) → take (k + n) xs ≡ take (k + n) ys
    → take n (drop k xs) ≡ take n (drop k ys)
first_suffice k n xs ys e = sym (drop-take k n xs) ∙ ap (drop k) e ∙ drop-take k n ys

for_suffice : (contents : Contents) (range : Option ColumnRange) (skip : ℕ) (most : Option ℕ) (files : List TreeFile)
    → at_most most (drop skip (flat_map (matching contents range) (files_for (matches_in contents range) skip most files)))
    ≡ at_most most (drop skip (flat_map (matching contents range) files))
for_suffice contents range skip None files = refl
for_suffice contents range skip (Some zero) files = refl
for_suffice contents range skip (Some (suc n)) files =
    first_suffice skip (suc n) (flat_map (matching contents range) (up_to (matches_in contents range) (skip + suc n) files))
    (flat_map (matching contents range) files) (enough contents range (skip + suc n) files)

pub visited_suffice : VisitedSuffice
visited_suffice objects meta ring id rows s has is =
    let contents : Contents = contents_in meta objects in
    let columns : List Column = (columns_of meta).kept in
    let read : AllRead contents has.tree = all_read contents has.tree (ap (λ t. t.stop) has.are_rows) in
    let opened : List TreeFile = filter (is_open s.range) has.tree in
    let seen_read : AllRead contents (visited contents s has.tree) =
    for_read contents (matches_in contents s.range) s.skip s.most opened
    (filter_read contents (is_open s.range) has.tree read) in
    let rows_are : rows ≡ items_of contents has.tree =
    ap (λ t. t.items) (sym has.are_rows ∙ are_items contents has.tree read) in
    let kept : List TreeFile → List Row = flat_map (matching contents s.range) in
    let all : chosen s rows ≡ at_most s.most (drop s.skip (kept has.tree)) =
    ap (chosen s) rows_are ∙ ap (λ r. at_most s.most (drop s.skip r)) (filter_items contents s.range has.tree) in
    let seen : chosen s (items_of contents (visited contents s has.tree))
    ≡ at_most s.most (drop s.skip (kept (visited contents s has.tree))) =
    ap (λ r. at_most s.most (drop s.skip r)) (filter_items contents s.range (visited contents s has.tree)) in
    record {
      seen = items_of contents (visited contents s has.tree);
      are_rows = are_items contents (visited contents s has.tree) seen_read;
      same = seen ∙ for_suffice contents s.range s.skip s.most opened
          ∙ ap (λ r. at_most s.most (drop s.skip r)) (open_suffice columns contents s.range is has.tree has.bounds)
          ∙ sym all;
    }
