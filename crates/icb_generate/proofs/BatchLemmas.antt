-- The batches of a list are its pieces in order, and those of numbers are numbers.
use Rattle.std.proofs.Common.{◌≡◌, ◌∙◌, ◌<◌, ◌≤◌, ◌+◌, ◌*◌, ◌-◌, ◌++◌, ℕ, suc, zero, List, [], ◌∷◌, sym, ap, arith}
use Rattle.std.proofs.Common.{take, drop, length, map, min, append-nil}
use Rattle.std.specs.List.{flat_map, range_with_len}
use Rattle.std.proofs.lemmas.List.{drop-take, drop-map, length-map, take-append-drop, take-map, take-take, take_all}
use Rattle.std.proofs.lemmas.List.Concat.{flat_map-append}
use Rattle.std.proofs.lemmas.List.Folds.{flat_map-map}
use Rattle.std.proofs.lemmas.List.FromFn.{length-range_with_len}
use Rattle.icb_types.specs.Lines.{row_line}
use Rattle.icb_generate.specs.Batches.{batch_count, batch_lines, batch_rows, rows_of}
use Rattle.icb_generate.specs.Laws.{BatchesAreAllRows}
use Rattle.icb_generate.specs.Rows.{row_of}

-- ---- numbers one after another

-- one more of them
pub range_more : (a n : ℕ) → range_with_len a (suc n) ≡ range_with_len a n ++ (a + n) ∷ []
range_more a zero = let e : a ≡ a + 0 = omega arith in ap (λ (x : ℕ). x ∷ []) e
range_more a (suc n) =
    let e : a + 1 + n ≡ a + suc n = omega arith in
    ap (λ (xs : List ℕ). a ∷ xs) (range_more (a + 1) n
    ∙ ap (λ (x : ℕ). range_with_len (a + 1) n ++ x ∷ []) e)

-- the first of them
pub take_range : (k a n : ℕ) → take k (range_with_len a n) ≡ range_with_len a (min k n)
take_range zero a n = let e : 0 ≡ min 0 n = omega arith in ap (λ (m : ℕ). range_with_len a m) e
take_range (suc k) a zero = let e : 0 ≡ min (suc k) 0 = omega arith in ap (λ (m : ℕ). range_with_len a m) e
take_range (suc k) a (suc n) =
    let e : suc (min k n) ≡ min (suc k) (suc n) = omega arith in
    ap (λ (xs : List ℕ). a ∷ xs) (take_range k (a + 1) n) ∙ ap (λ (m : ℕ). range_with_len a m) e

-- those behind the first
pub drop_range : (k a n : ℕ) → drop k (range_with_len a n) ≡ range_with_len (a + k) (n - k)
drop_range zero a n =
    let e : a ≡ a + 0 = omega arith in let f : n ≡ n - 0 = omega arith in
    ap (λ (b : ℕ). range_with_len b n) e ∙ ap (λ (m : ℕ). range_with_len (a + 0) m) f
drop_range (suc k) a zero = let e : 0 ≡ 0 - suc k = omega arith in ap (λ (m : ℕ). range_with_len (a + suc k) m) e
drop_range (suc k) a (suc n) =
    let e : a + 1 + k ≡ a + suc k = omega arith in let f : n - k ≡ suc n - suc k = omega arith in
    drop_range k (a + 1) n ∙ ap (λ (b : ℕ). range_with_len b (n - k)) e ∙ ap (λ (m : ℕ). range_with_len (a + suc k) m) f

-- ---- a batch

-- numbers that are none have no first
same_numbers : (a b n m : ℕ) → n ≡ m → (0 < n → a ≡ b) → range_with_len a n ≡ range_with_len b m
same_numbers a b n zero same first = ap (range_with_len a) same
same_numbers a b n (suc m) same first =
    let some : 0 < n = omega (arith, same) in
    ap (λ (k : ℕ). range_with_len a k) same ∙ ap (λ (k : ℕ). range_with_len k (suc m)) (first some)

-- the rows of a batch are those of the numbers in between
pub batch_between : (seed rows number first last : ℕ) → first ≡ min (10000 * number) rows
    → last ≡ min (first + 10000) rows
    → batch_lines seed rows number ≡ flat_map (λ i. row_line (row_of seed i)) (range_with_len first (last - first))
batch_between seed rows number first last is_first is_last =
    let numbers : take 10000 (drop (10000 * number) (range_with_len 0 rows)) ≡ range_with_len first (last - first) =
    let start : 0 + 10000 * number ≡ 10000 * number = omega arith in
    ap (take 10000) (drop_range (10000 * number) 0 rows)
    ∙ ap (λ (b : ℕ). take 10000 (range_with_len b (rows - 10000 * number))) start
    ∙ take_range 10000 (10000 * number) (rows - 10000 * number)
    ∙ same_numbers (10000 * number) first (min 10000 (rows - 10000 * number)) (last - first)
    (omega (arith, is_first, is_last)) (λ some. omega (arith, is_first, is_last, some)) in
    let rows_are : batch_rows seed rows number ≡ map (row_of seed) (range_with_len first (last - first)) =
    ap (take 10000) (drop-map (row_of seed) (10000 * number) (range_with_len 0 rows))
    ∙ take-map (row_of seed) 10000 (drop (10000 * number) (range_with_len 0 rows))
    ∙ ap (map (row_of seed)) numbers in
    ap (flat_map row_line) rows_are ∙ flat_map-map row_line (row_of seed) (range_with_len first (last - first))

-- one more row is one more line
pub lines_more : (seed first number : ℕ) (lines line : List ℕ) → first ≤ number
    → lines ≡ flat_map (λ i. row_line (row_of seed i)) (range_with_len first (number - first))
    → line ≡ row_line (row_of seed number)
    → lines ++ line ≡ flat_map (λ i. row_line (row_of seed i)) (range_with_len first (number + 1 - first))
lines_more seed first number lines line behind is is_line =
    let f : ℕ → List ℕ = λ i. row_line (row_of seed i) in
    let last : first + (number - first) ≡ number = omega (arith, behind) in
    let more : suc (number - first) ≡ number + 1 - first = omega (arith, behind) in
    ap (λ (xs : List ℕ). xs ++ line) is
    ∙ ap (λ (xs : List ℕ). flat_map f (range_with_len first (number - first)) ++ xs) (is_line ∙ sym (append-nil (f number)))
    ∙ sym (flat_map-append f (range_with_len first (number - first)) (number ∷ []))
    ∙ ap (λ (k : ℕ). flat_map f (range_with_len first (number - first) ++ k ∷ [])) (sym last)
    ∙ ap (flat_map f) (sym (range_more first (number - first)))
    ∙ ap (λ (k : ℕ). flat_map f (range_with_len first k)) more

-- ---- all batches

-- the first elements and then the next are the first of both
take_add : {X : Type 0} (n m : ℕ) (xs : List X) → take n xs ++ take m (drop n xs) ≡ take (n + m) xs
take_add n m xs =
    ap (λ ys. ys ++ take m (drop n xs)) (sym (take-take n (n + m) xs (omega arith)))
    ∙ ap (λ ys. take n (take (n + m) xs) ++ ys) (sym (drop-take n m xs))
    ∙ take-append-drop n (take (n + m) xs)

-- so many pieces, one behind the other, are the first elements
pub pieces_are_front : {X : Type 0} → (size m : ℕ) (xs : List X)
    → flat_map (λ k. take size (drop (size * k) xs)) (range_with_len 0 m) ≡ take (size * m) xs
pieces_are_front {X} size zero xs = let e : 0 ≡ size * 0 = omega arith in ap (λ n. take n xs) e
pieces_are_front {X} size (suc m) xs =
    let f : ℕ → List X = λ k. take size (drop (size * k) xs) in
    let e : size * m + size ≡ size * suc m = omega arith in
    let at : 0 + m ≡ m = omega arith in
    ap (flat_map f) (range_more 0 m ∙ ap (λ (k : ℕ). range_with_len 0 m ++ k ∷ []) at)
    ∙ flat_map-append f (range_with_len 0 m) (m ∷ [])
    ∙ ap (λ ys. flat_map f (range_with_len 0 m) ++ ys) (append-nil (f m))
    ∙ ap (λ ys. ys ++ f m) (pieces_are_front size m xs)
    ∙ take_add (size * m) size xs
    ∙ ap (λ n. take n xs) e

-- the batches are all rows
pub batches_are_all_rows : BatchesAreAllRows
batches_are_all_rows seed rows =
    let few : length (rows_of seed rows) ≤ 10000 * batch_count rows =
    let size : length (rows_of seed rows) ≡ rows =
    length-map (range_with_len 0 rows) (row_of seed) ∙ length-range_with_len 0 rows in omega (arith, size) in
    pieces_are_front 10000 (batch_count rows) (rows_of seed rows)
    ∙ take_all (10000 * batch_count rows) (rows_of seed rows) few
