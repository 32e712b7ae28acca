-- Which files are visited, and which rows they have, where the first files of a tree are passed.
use Rattle.std.specs.Prelude.{◌≡◌, ◌⊎◌, ℕ, zero, suc, ◌+◌, ◌-◌, ◌<◌, Bool, true, false, List, [], ◌∷◌, ◌++◌, length, map, take, drop, filter, Option, Some, None, IfSome, option_map, bytes_eq, if◌then◌else◌}
use Rattle.std.specs.List.{Contains}
use Rattle.std.proofs.Common.{refl, ap, sym, subst, ◌∙◌, arith, inl, inr, true≢false, length-append, length-drop}
use Rattle.std.proofs.Math.Dec.{eqb-suc-zero}
use Rattle.std.proofs.lemmas.List.{length-take-le}
use Rattle.std.proofs.lemmas.List.Elements.{Contains-append_right, filter-append}
use Rattle.std.proofs.lemmas.Slice.Eq.{bytes_eq-Decides}
use Rattle.icb_rows.specs.Records.{Row}
use Rattle.icb_datafile.specs.Plans.{CountsDown, asks_none, matches}
use Rattle.icb_table.proofs.StepLemmas.{through_one}
use Rattle.icb_table.specs.Listed.{Listed}
use Rattle.icb_table.specs.Selection.{ColumnRange, Selection, at_most, chosen, is_within}
use Rattle.icb_table.specs.Trace.{Trace, each_in, ended, one, then_read, through, whole}
use Rattle.icb_table.specs.Tree.{Contents, LiveFile, TreeFile, listed_as, live_files, rows_in}
use Rattle.icb_table.specs.Tree as tree
use Rattle.icb_table.specs.Visited.{before_path, files_for, is_open, matches_in, may_match, rows_of_files, up_to, visited}
use Rattle.icb_walk.specs.Walks.{IsAhead}
use Rattle.icb_scan.specs.Answers.{rows_read}

-- ---- lists and manifests

open_none : (range : Option ColumnRange) (ps xs : List TreeFile) → live_files ps ≡ []
    → filter (is_open range) (ps ++ xs) ≡ ps ++ filter (is_open range) xs
open_none range [] xs e = refl
open_none range (tree.list f ∷ ps) xs e = ap (λ (r : List TreeFile). tree.list f ∷ r) (open_none range ps xs e)
open_none range (tree.manifest f ∷ ps) xs e = ap (λ (r : List TreeFile). tree.manifest f ∷ r) (open_none range ps xs e)
open_none range (tree.data_file f ∷ ps) xs e = absurd (let never : ⊥ = cc in never)

up_none : (c : Contents) (range : Option ColumnRange) (n : ℕ) (ps xs : List TreeFile) → live_files ps ≡ []
    → up_to (matches_in c range) (suc n) (ps ++ xs) ≡ ps ++ up_to (matches_in c range) (suc n) xs
unfolding up_to
up_none c range n [] xs e = refl
up_none c range n (tree.list f ∷ ps) xs e =
    let same : suc n - 0 ≡ suc n = omega arith in
    ap (λ (r : List TreeFile). tree.list f ∷ r) (ap (λ (k : ℕ). up_to (matches_in c range) k (ps ++ xs)) same ∙ up_none c range n ps xs e)
up_none c range n (tree.manifest f ∷ ps) xs e =
    let same : suc n - 0 ≡ suc n = omega arith in
    ap (λ (r : List TreeFile). tree.manifest f ∷ r) (ap (λ (k : ℕ). up_to (matches_in c range) k (ps ++ xs)) same ∙ up_none c range n ps xs e)
up_none c range n (tree.data_file f ∷ ps) xs e = absurd (let never : ⊥ = cc in never)

for_none : (c : Contents) (range : Option ColumnRange) (skip : ℕ) (most : Option ℕ) (ps xs : List TreeFile) → live_files ps ≡ [] → asks_none most ≡ false
    → files_for (matches_in c range) skip most (ps ++ xs) ≡ ps ++ files_for (matches_in c range) skip most xs
for_none c range skip None ps xs e asked = refl
for_none c range skip (Some zero) ps xs e asked = absurd (let never : ⊥ = cc in never)
for_none c range skip (Some (suc n)) ps xs e asked =
    let some : skip + suc n ≡ suc (skip + n) = omega arith in
    ap (λ (k : ℕ). up_to (matches_in c range) k (ps ++ xs)) some ∙ up_none c range (skip + n) ps xs e
    ∙ ap (λ (k : ℕ). ps ++ up_to (matches_in c range) k xs) (sym some)

-- lists and manifests that come first are visited first
pub visited_none : (c : Contents) (s : Selection) (ps xs : List TreeFile) → live_files ps ≡ [] → asks_none s.most ≡ false
    → visited c s (ps ++ xs) ≡ ps ++ visited c s xs
visited_none c s ps xs e asked =
    ap (files_for (matches_in c s.range) s.skip s.most) (open_none s.range ps xs e)
    ∙ for_none c s.range s.skip s.most ps (filter (is_open s.range) xs) e asked

each_none : (c : Contents) (ps xs : List TreeFile) → live_files ps ≡ [] → each_in (rows_in c) (ps ++ xs) ≡ each_in (rows_in c) xs
unfolding each_in
each_none c [] xs e = refl
each_none c (tree.list f ∷ ps) xs e = each_none c ps xs e
each_none c (tree.manifest f ∷ ps) xs e = each_none c ps xs e
each_none c (tree.data_file f ∷ ps) xs e = absurd (let never : ⊥ = cc in never)

-- and have no rows
pub read_none : (c : Contents) (s : Selection) (ps : List TreeFile) (t : Trace TreeFile) → live_files ps ≡ []
    → rows_read c s (then_read (whole ps) t) ≡ rows_read c s t
read_none c s ps t e =
    ap (λ (fs : List TreeFile). through (rows_in c) (record { items = fs; stop = t.stop })) (open_none s.range ps t.items e)
    ∙ ap (λ (r : Trace Row). then_read r (ended t.stop)) (each_none c ps (filter (is_open s.range) t.items) e)

pub rows_none : (c : Contents) (ps : List TreeFile) → live_files ps ≡ [] → rows_of_files c ps ≡ []
rows_none c [] e = refl
rows_none c (tree.list f ∷ ps) e = rows_none c ps e
rows_none c (tree.manifest f ∷ ps) e = rows_none c ps e
rows_none c (tree.data_file f ∷ ps) e = absurd (let never : ⊥ = cc in never)

-- ---- a data file

-- a data file that the bounds exclude isn't visited, and has no rows that are read
pub visited_closed : (c : Contents) (s : Selection) (f : LiveFile) (xs : List TreeFile) → may_match s.range f.file ≡ false
    → visited c s (tree.data_file f ∷ xs) ≡ visited c s xs
visited_closed c s f xs shut =
    let less : filter (is_open s.range) (tree.data_file f ∷ xs) ≡ filter (is_open s.range) xs = rw shut refl in
    ap (files_for (matches_in c s.range) s.skip s.most) less

pub read_closed : (c : Contents) (s : Selection) (f : LiveFile) (t : Trace TreeFile) → may_match s.range f.file ≡ false
    → rows_read c s (then_read (one (tree.data_file f)) t) ≡ rows_read c s t
read_closed c s f t shut =
    let less : filter (is_open s.range) (tree.data_file f ∷ t.items) ≡ filter (is_open s.range) t.items = rw shut refl in
    ap (λ (fs : List TreeFile). through (rows_in c) (record { items = fs; stop = t.stop })) less

-- the rows of one that they don't exclude come first
pub read_open : (c : Contents) (s : Selection) (f : LiveFile) (t : Trace TreeFile) → may_match s.range f.file ≡ true
    → rows_read c s (then_read (one (tree.data_file f)) t) ≡ then_read (c.data_rows f.listed) (rows_read c s t)
read_open c s f t open_it =
    let more : filter (is_open s.range) (tree.data_file f ∷ t.items) ≡ tree.data_file f ∷ filter (is_open s.range) t.items = rw open_it refl in
    ap (λ (fs : List TreeFile). through (rows_in c) (record { items = fs; stop = t.stop })) more
    ∙ through_one (rows_in c) (tree.data_file f) (record { items = filter (is_open s.range) t.items; stop = t.stop })

-- the range alone says which rows are read
pub read_same : (c : Contents) (s t : Selection) (files : Trace TreeFile) → t.range ≡ s.range → rows_read c s files ≡ rows_read c t files
read_same c s t files same = ap (λ (r : Option ColumnRange). through (rows_in c) (record { items = filter (is_open r) files.items; stop = files.stop })) (sym same)

-- a number that is none
none_left : (n : ℕ) → asks_none (Some n) ≡ true → n ≡ 0
none_left zero e = refl
none_left (suc n) e = absurd (true≢false (sym e ∙ eqb-suc-zero n))

-- how many files are visited behind one of which so many rows in the range were passed
for_more : (m : TreeFile → ℕ) (file : TreeFile) (files : List TreeFile) (skip : ℕ) (most : Option ℕ) (p l : ℕ) → asks_none most ≡ false → m file ≡ p + l
    → (asks_none (option_map (λ n. n - (p - skip)) most) ≡ true) ⊎ (l ≡ 0)
    → files_for m skip most (file ∷ files) ≡ file ∷ files_for m (skip - p) (option_map (λ n. n - (p - skip)) most) files
unfolding up_to
for_more m file files skip None p l asked size h = refl
for_more m file files skip (Some zero) p l asked size h = absurd (let never : ⊥ = cc in never)
for_more m file files skip (Some (suc n)) p l asked size h =
    let some : skip + suc n ≡ suc (skip + n) = omega arith in
    ap (λ (k : ℕ). up_to m k (file ∷ files)) some
    ∙ ap (λ (r : List TreeFile). file ∷ r) (behind (suc n - (p - skip)) refl)
  where
    by_left : (k : ℕ) → suc n - (p - skip) ≡ suc k → (asks_none (Some (suc n - (p - skip))) ≡ true) ⊎ (l ≡ 0) → suc (skip + n) - m file ≡ (skip - p) + suc k
    by_left k is (inl none) = absurd (let zero_is : suc n - (p - skip) ≡ 0 = none_left (suc n - (p - skip)) none in let never : ⊥ = omega (arith, zero_is, is) in never)
    by_left k is (inr all) = omega (arith, is, size, all)

    behind : (k : ℕ) → suc n - (p - skip) ≡ k → up_to m (suc (skip + n) - m file) files ≡ files_for m (skip - p) (Some (suc n - (p - skip))) files
    behind zero is =
        let enough : suc (skip + n) - m file ≡ 0 = omega (arith, is, size) in
        ap (λ (k : ℕ). up_to m k files) enough ∙ ap (λ (k : ℕ). files_for m (skip - p) (Some k) files) (sym is)
    behind (suc k) is = ap (λ (j : ℕ). up_to m j files) (by_left k is h) ∙ ap (λ (j : ℕ). files_for m (skip - p) (Some j) files) (sym is)

-- a data file that isn't excluded is visited first
pub visited_read : (c : Contents) (s t : Selection) (f : LiveFile) (xs : List TreeFile) (passed left : List Row) → may_match s.range f.file ≡ true
    → asks_none s.most ≡ false → t.range ≡ s.range → (c.data_rows f.listed).items ≡ passed ++ left → CountsDown s t passed
    → (asks_none t.most ≡ true) ⊎ (left ≡ []) → visited c s (tree.data_file f ∷ xs) ≡ tree.data_file f ∷ visited c t xs
visited_read c s t f xs passed left open_it asked same rows counts enough =
    let m = matches_in c s.range in
    let fs = filter (is_open s.range) xs in
    let p : ℕ = matches s.range passed in
    let l : ℕ = matches s.range left in
    let more : filter (is_open s.range) (tree.data_file f ∷ xs) ≡ tree.data_file f ∷ fs = rw open_it refl in
    let size : m (tree.data_file f) ≡ p + l = ap (matches s.range) rows ∙ ap length (filter-append (is_within s.range) passed left)
    ∙ length-append (filter (is_within s.range) passed) (filter (is_within s.range) left) in
    let h : (asks_none (option_map (λ n. n - (p - s.skip)) s.most) ≡ true) ⊎ (l ≡ 0) = left_or enough in
    ap (files_for m s.skip s.most) more ∙ for_more m (tree.data_file f) fs s.skip s.most p l asked size h
    ∙ ap (λ (r : List TreeFile). tree.data_file f ∷ r) (
    ap (λ (k : ℕ). files_for m k (option_map (λ n. n - (p - s.skip)) s.most) fs) (sym counts.skips)
    ∙ ap (λ (k : Option ℕ). files_for m t.skip k fs) (sym counts.asks)
    ∙ ap (λ (r : Option ColumnRange). files_for (matches_in c r) t.skip t.most (filter (is_open r) xs)) (sym same))
  where
    left_or : (asks_none t.most ≡ true) ⊎ (left ≡ []) → (asks_none (option_map (λ n. n - (matches s.range passed - s.skip)) s.most) ≡ true) ⊎ (matches s.range left ≡ 0)
    left_or (inl none) = inl (ap asks_none (sym counts.asks) ∙ none)
    left_or (inr all) = inr (ap (matches s.range) all)

-- and then others may be
for_first : (m : TreeFile → ℕ) (file : TreeFile) (files : List TreeFile) (skip : ℕ) (most : Option ℕ) → asks_none most ≡ false
    → (more : List TreeFile) × (files_for m skip most (file ∷ files) ≡ file ∷ more)
unfolding up_to
for_first m file files skip None asked = (files, refl)
for_first m file files skip (Some zero) asked = absurd (let never : ⊥ = cc in never)
for_first m file files skip (Some (suc n)) asked =
    let some : skip + suc n ≡ suc (skip + n) = omega arith in
    (up_to m (suc (skip + n) - m file) files, ap (λ (k : ℕ). up_to m k (file ∷ files)) some)

pub visited_first : (c : Contents) (s : Selection) (f : LiveFile) (xs : List TreeFile) → may_match s.range f.file ≡ true → asks_none s.most ≡ false
    → (more : List TreeFile) × (visited c s (tree.data_file f ∷ xs) ≡ tree.data_file f ∷ more)
visited_first c s f xs open_it asked =
    let fs = filter (is_open s.range) xs in
    let first : filter (is_open s.range) (tree.data_file f ∷ xs) ≡ tree.data_file f ∷ fs = rw open_it refl in
    let r = for_first (matches_in c s.range) (tree.data_file f) fs s.skip s.most asked in
    (r.0, ap (files_for (matches_in c s.range) s.skip s.most) first ∙ r.1)

-- ---- files among others

-- a file is listed so among files
unfoldable pub IsIn : Listed → List TreeFile → Type 0
IsIn f [] = ⊥
IsIn f (file ∷ files) = (f ≡ listed_as file) ⊎ IsIn f files

pub in_left : (f : Listed) (xs ys : List TreeFile) → IsIn f xs → IsIn f (xs ++ ys)
unfolding IsIn
in_left f [] ys h = absurd h
in_left f (x ∷ xs) ys (inl is) = inl is
in_left f (x ∷ xs) ys (inr rest) = inr (in_left f xs ys rest)

pub in_right : (f : Listed) (xs ys : List TreeFile) → IsIn f ys → IsIn f (xs ++ ys)
unfolding IsIn
in_right f [] ys h = h
in_right f (x ∷ xs) ys h = inr (in_right f xs ys h)

pub is_contained : (f : Listed) (xs : List TreeFile) → IsIn f xs → Contains (map listed_as xs) f
unfolding IsIn
is_contained f [] h = absurd h
is_contained f (x ∷ xs) (inl is) = subst (λ (g : Listed). Contains (listed_as x ∷ map listed_as xs) g) (sym is) (0, omega arith, refl)
is_contained f (x ∷ xs) (inr rest) = Contains-append_right (listed_as x ∷ []) (map listed_as xs) f (is_contained f xs rest)

-- where it stands
pub record StandsIn (f : Listed) (xs : List TreeFile) : Type 0 where
  pub first : List TreeFile
  pub file : TreeFile
  pub rest : List TreeFile
  pub order : xs ≡ first ++ file ∷ rest
  pub is : f ≡ listed_as file

pub stands_in : (f : Listed) (xs : List TreeFile) → IsIn f xs → StandsIn f xs
unfolding IsIn
stands_in f [] h = absurd h
stands_in f (x ∷ xs) (inl is) = record { first = []; file = x; rest = xs; order = refl; is = is }
stands_in f (x ∷ xs) (inr rest) =
    let r = stands_in f xs rest in
    record { first = x ∷ r.first; file = r.file; rest = r.rest; order = ap (λ (ys : List TreeFile). x ∷ ys) r.order; is = r.is }

-- a file that comes before the first data file is one of the lists and manifests that come first
pub record StandsAhead (f : Listed) (xs : List TreeFile) : Type 0 where
  pub first : List TreeFile
  pub rest : List TreeFile
  pub order : xs ≡ first ++ rest
  pub no_data : live_files first ≡ []
  pub is_in : IsIn f first

pub stands_ahead : (f : Listed) (xs : List TreeFile) → IsAhead f xs → StandsAhead f xs
unfolding IsIn
stands_ahead f [] h = absurd h
stands_ahead f (tree.data_file g ∷ xs) h = absurd h
stands_ahead f (tree.list g ∷ xs) (inl is) = record { first = tree.list g ∷ []; rest = xs; order = refl; no_data = refl; is_in = inl is }
stands_ahead f (tree.manifest g ∷ xs) (inl is) = record { first = tree.manifest g ∷ []; rest = xs; order = refl; no_data = refl; is_in = inl is }
stands_ahead f (tree.list g ∷ xs) (inr h) =
    let r = stands_ahead f xs h in
    record { first = tree.list g ∷ r.first; rest = r.rest; order = ap (λ (ys : List TreeFile). tree.list g ∷ ys) r.order; no_data = r.no_data; is_in = inr r.is_in }
stands_ahead f (tree.manifest g ∷ xs) (inr h) =
    let r = stands_ahead f xs h in
    record { first = tree.manifest g ∷ r.first; rest = r.rest; order = ap (λ (ys : List TreeFile). tree.manifest g ∷ ys) r.order; no_data = r.no_data; is_in = inr r.is_in }

-- of files before a data file it is among them
pub ahead_in : (f : Listed) (ps : List TreeFile) (g : LiveFile) (xs : List TreeFile) → IsAhead f (ps ++ tree.data_file g ∷ xs) → IsIn f ps
unfolding IsIn
ahead_in f [] g xs h = absurd h
ahead_in f (tree.data_file k ∷ ps) g xs h = absurd h
ahead_in f (tree.list k ∷ ps) g xs (inl is) = inl is
ahead_in f (tree.list k ∷ ps) g xs (inr h) = inr (ahead_in f ps g xs h)
ahead_in f (tree.manifest k ∷ ps) g xs (inl is) = inl is
ahead_in f (tree.manifest k ∷ ps) g xs (inr h) = inr (ahead_in f ps g xs h)

-- ---- files before a path

front_by : (x : TreeFile) (xs before : List TreeFile) (b : Bool) → (rest : List TreeFile) × (xs ≡ before ++ rest)
    → (rest : List TreeFile) × (x ∷ xs ≡ (if b then [] else x ∷ before) ++ rest)
front_by x xs before true r = (x ∷ xs, refl)
front_by x xs before false r = (r.0, ap (λ (ys : List TreeFile). x ∷ ys) r.1)

-- those before the first one at a path are a front of those before any one at it
pub before_front : (path : List ℕ) (xs : List TreeFile) (g : TreeFile) (zs : List TreeFile) → path ≡ (listed_as g).path
    → (rest : List TreeFile) × (xs ≡ before_path path (xs ++ g ∷ zs) ++ rest)
unfolding before_path
before_front path [] g zs at =
    let here : bytes_eq (listed_as g).path path ≡ true = (bytes_eq-Decides (listed_as g).path path).1 (sym at) in
    ([], rw here refl)
before_front path (x ∷ xs) g zs at = front_by x xs (before_path path (xs ++ g ∷ zs)) (bytes_eq (listed_as x).path path) (before_front path xs g zs at)

-- ---- rows that are chosen

drop_front : {A : Type 0} (n : ℕ) (xs ys : List A) → (more : List A) × (drop n (xs ++ ys) ≡ drop n xs ++ more)
drop_front zero xs ys = (ys, refl)
drop_front (suc n) [] ys = (drop (suc n) ys, refl)
drop_front (suc n) (x ∷ xs) ys = drop_front n xs ys

take_front : {A : Type 0} (n : ℕ) (xs ys : List A) → (more : List A) × (take n (xs ++ ys) ≡ take n xs ++ more)
take_front zero xs ys = ([], refl)
take_front (suc n) [] ys = (take (suc n) ys, refl)
take_front {A} (suc n) (x ∷ xs) ys = let rest = take_front n xs ys in (rest.0, ap (λ (zs : List A). x ∷ zs) rest.1)

at_most_front : {A : Type 0} (most : Option ℕ) (xs ys : List A) → (more : List A) × (at_most most (xs ++ ys) ≡ at_most most xs ++ more)
at_most_front None xs ys = (ys, refl)
at_most_front (Some n) xs ys = take_front n xs ys

-- what is chosen of a front of rows is a front of what is chosen
pub chosen_front : (s : Selection) (front rest : List Row) → (more : List Row) × (chosen s (front ++ rest) ≡ chosen s front ++ more)
chosen_front s front rest =
    let p = is_within s.range in
    let kept = drop_front s.skip (filter p front) (filter p rest) in
    let some = at_most_front s.most (drop s.skip (filter p front)) kept.0 in (
      some.0,
      ap (λ (rows : List Row). at_most s.most (drop s.skip rows)) (filter-append p front rest)
          ∙ ap (at_most s.most) kept.1 ∙ some.1,
    )

-- as many rows as are asked for were chosen, where no more are
enough_by : (most : Option ℕ) (skip : ℕ) (rows : List Row) → asks_none (option_map (λ n. n - (length rows - skip)) most) ≡ true
    → most ≡ Some (length (at_most most (drop skip rows)))
enough_by None skip rows e = absurd (let never : ⊥ = cc in never)
enough_by (Some n) skip rows e =
    let none : n - (length rows - skip) ≡ 0 = none_left (n - (length rows - skip)) e in
    let size = length-drop skip rows in
    ap Some (sym (length-take-le n (drop skip rows) (omega (arith, none, size))))

pub chosen_enough : (s t : Selection) (rows : List Row) → CountsDown s t rows → asks_none t.most ≡ true → s.most ≡ Some (length (chosen s rows))
chosen_enough s t rows counts none = enough_by s.most s.skip (filter (is_within s.range) rows) (ap asks_none (sym counts.asks) ∙ none)

-- fewer rows than are asked for were chosen, where more are
take_few : (n : ℕ) (rows : List Row) → length rows < n → length (take n rows) < n
take_few zero rows few = absurd (let never : ⊥ = omega (arith, few) in never)
take_few (suc n) [] few = omega arith
take_few (suc n) (row ∷ rows) few =
    let rest : length (take n rows) < n = take_few n rows (omega (arith, few)) in omega (arith, rest)

fewer_by : (most : Option ℕ) (skip : ℕ) (rows : List Row) → asks_none (option_map (λ n. n - (length rows - skip)) most) ≡ false
    → IfSome most (λ n. length (at_most most (drop skip rows)) < n)
fewer_by None skip rows e = tt
fewer_by (Some n) skip rows e =
    let some : 0 < n - (length rows - skip) = some_left (n - (length rows - skip)) e in
    let size = length-drop skip rows in
    take_few n (drop skip rows) (omega (arith, some, size))
  where
    some_left : (k : ℕ) → asks_none (Some k) ≡ false → 0 < k
    some_left zero e = absurd (let never : ⊥ = cc in never)
    some_left (suc k) e = omega arith

pub chosen_fewer : (s t : Selection) (rows : List Row) → CountsDown s t rows → asks_none t.most ≡ false → IfSome s.most (λ n. length (chosen s rows) < n)
chosen_fewer s t rows counts asked = fewer_by s.most s.skip (filter (is_within s.range) rows) (ap asks_none (sym counts.asks) ∙ asked)

-- none is chosen where none is asked
none_of : (most : Option ℕ) (rows : List Row) → asks_none most ≡ true → at_most most rows ≡ []
none_of None rows e = absurd (let never : ⊥ = cc in never)
none_of (Some zero) rows e = refl
none_of (Some (suc n)) rows e = absurd (true≢false (sym e ∙ eqb-suc-zero n))

pub chosen_done : (s : Selection) (rows : List Row) → asks_none s.most ≡ true → chosen s rows ≡ []
chosen_done s rows e = none_of s.most (drop s.skip (filter (is_within s.range) rows)) e

-- no file is visited where none is asked
visits_none : (m : TreeFile → ℕ) (skip : ℕ) (most : Option ℕ) (files : List TreeFile) → asks_none most ≡ true → files_for m skip most files ≡ []
visits_none m skip None files e = absurd (let never : ⊥ = cc in never)
visits_none m skip (Some zero) files e = refl
visits_none m skip (Some (suc n)) files e = absurd (true≢false (sym e ∙ eqb-suc-zero n))

pub visited_done : (c : Contents) (s : Selection) (files : List TreeFile) → asks_none s.most ≡ true → visited c s files ≡ []
visited_done c s files e = visits_none (matches_in c s.range) s.skip s.most (filter (is_open s.range) files) e
