-- Columns that are read one behind the other.
use denote.Ref.{Bor}
use Rattle.icb_types.proofs.WordLemmas.{IsFirstPart, first_and_left, parts_left, text_left}
use Rattle.std.proofs.Common.{◌≡◌, ◌≢◌, ◌<◌, ◌≤◌, ◌+◌, ℕ, ℤ, pos, List, [], ◌∷◌, ◌++◌, length, length-append, map, Bool, true, false, not, ◌&&◌, ◌||◌, nat_lt, if◌then◌else◌}
use Rattle.std.proofs.Common.{subst, true≢false, Ok, Err, Option, Some, None, MatchOption, option_map, option_and_then, refl, sym, ap, ◌∙◌, arith, codes, bytes_eq}
use Rattle.std.specs.List.{list_all, list_any}
use Rattle.std.specs.Ordering.{int_eq}
use Rattle.std.proofs.lemmas.Bool.{and_parts, or_parts, ltb-true}
use Rattle.std.proofs.lemmas.Slice.Eq.{bytes_eq-Decides}
use Rattle.std.specs.Bool.{Decides}
use Rattle.std.specs.Str.Parse.{digits_value}
use Rattle.std.proofs.lemmas.Bool.Decides.{Decides-int_eq, nat_tests}
use Rattle.std.proofs.lemmas.List.Folds.{list_all-append}
use Rattle.icb_schema.specs.Names.{are_distinct, is_among}
use Rattle.icb_schema.specs.Reading.{only_if}
use Rattle.icb_types.specs.Columns.{AreColumns, are_distinct_ids, is_id, is_kind, is_size}
use Rattle.icb_types.specs.Words.{after_prefix, before_suffix, column_in, column_of, columns_from, columns_of, cut_at, fixed_word, has_name, has_plain_digits, is_name, kind_of_word, marked, next_column, parts_of, size_in}
use Rattle.icb_types.specs.declared.columns.ColType.{ColType}
use Rattle.icb_types.specs.declared.columns.ColType.TheVariants as kind
use Rattle.icb_types.specs.declared.columns.Column.{Column}

-- ---- what is known of a column that was read

-- what holds of a value that may be there
abbrev pub IfThere : {A : Type 0} → (A → Type 0) → Option A → Type 0
IfThere P o = MatchOption o (Unit {0}) P

-- what holds of both choices holds of the chosen one
either : {A : Type 0} (P : A → Type 0) (b : Bool) (x y : Option A) → IfThere P x → IfThere P y → IfThere P (if b then x else y)
either P true x y hx hy = hx
either P false x y hx hy = hy

-- what passed
if_true : {A : Type 0} (P : A → Type 0) (b : Bool) (a : A) → (b ≡ true → P a) → IfThere P (if b then Some a else None)
if_true P true a h = h refl
if_true P false a h = tt

pub not_true : (b : Bool) → not b ≡ true → b ≡ false
not_true true h = sym h
not_true false h = refl

size_known : (digits : List ℕ) → IfThere (λ n. is_size n ≡ true) (size_in digits)
unfolding size_in
size_known digits =
    let n : ℕ = digits_value 10 digits in
    if_true (λ k. is_size k ≡ true) (has_plain_digits digits && is_size n) n (λ passed. (and_parts (has_plain_digits digits) (is_size n) passed).1)

fixed_known : (word : List ℕ) → IfThere (λ k. is_kind k ≡ true) (fixed_word word)
unfolding fixed_word
fixed_known word = by_digits (option_and_then (before_suffix (codes "]")) (after_prefix (codes "fixed[") word))
  where
    by_size : (o : Option ℕ) → IfThere (λ n. is_size n ≡ true) o → IfThere (λ k. is_kind k ≡ true) (option_map kind.Fixed o)
    by_size None h = tt
    by_size (Some n) h = h

    by_digits : (o : Option (List ℕ)) → IfThere (λ k. is_kind k ≡ true) (option_map kind.Fixed (option_and_then size_in o))
    by_digits None = tt
    by_digits (Some digits) = by_size (size_in digits) (size_known digits)

kind_known : (word : List ℕ) → IfThere (λ k. is_kind k ≡ true) (kind_of_word word)
unfolding kind_of_word
kind_known word =
    either _ (bytes_eq word (codes "boolean")) _ _ refl (
    either _ (bytes_eq word (codes "int")) _ _ refl (
    either _ (bytes_eq word (codes "long")) _ _ refl (
    either _ (bytes_eq word (codes "date")) _ _ refl (
    either _ (bytes_eq word (codes "time")) _ _ refl (
    either _ (bytes_eq word (codes "timestamp")) _ _ refl (
    either _ (bytes_eq word (codes "timestamptz")) _ _ refl (
    either _ (bytes_eq word (codes "string")) _ _ refl (
    either _ (bytes_eq word (codes "uuid")) _ _ refl (
    either _ (bytes_eq word (codes "binary")) _ _ refl (fixed_known word))))))))))

-- a column with this id and a kind within its limits
abbrev pub IsRead : ℤ → Column → Type 0
IsRead id c = (c.id ≡ id) × (is_kind c.kind ≡ true)

of_known : (id : ℤ) (name : List ℕ) (type : List ℕ × Bool) → IfThere (IsRead id) (column_of id name type)
of_known id name type = by_kind (kind_of_word type.0) (kind_known type.0)
  where
    by_kind : (o : Option ColType) → IfThere (λ k. is_kind k ≡ true) o
        → IfThere (IsRead id) (option_map (λ k. record { id = id; name = name; kind = k; required = type.1 }) o)
    by_kind None h = tt
    by_kind (Some k) h = (refl, h)

column_known : (id : ℤ) (part : List ℕ) → IfThere (IsRead id) (column_in id part)
unfolding column_in
column_known id part = by_cut (cut_at 58 part)
  where
    by_cut : (o : Option (List ℕ × List ℕ))
        → IfThere (IsRead id) (option_and_then (λ p. if is_name p.0 then column_of id p.0 (marked p.1) else None) o)
    by_cut None = tt
    by_cut (Some p) = either _ (is_name p.0) _ _ (of_known id p.0 (marked p.1)) tt

-- what is known of the column that comes next
pub record IsNext (columns : List Column) (c : Column) : Type 0 where
  pub few : length columns < 1000
  pub id : c.id ≡ pos (length columns + 1)
  pub new : has_name c.name columns ≡ false
  pub kind : is_kind c.kind ≡ true

pub next_known : (columns : List Column) (part : List ℕ) → IfThere (IsNext columns) (next_column columns part)
unfolding next_column
next_known columns part = by_room (nat_lt (length columns) 1000) refl
  where
    by_name : (c : Column) → length columns < 1000 → IsRead (pos (length columns + 1)) c
        → IfThere (IsNext columns) (only_if (λ d. not (has_name d.name columns)) c)
    by_name c few is = if_true (IsNext columns) (not (has_name c.name columns)) c
        (λ passed. record { few = few; id = is.0; new = not_true (has_name c.name columns) passed; kind = is.1 })

    by_column : (o : Option Column) → length columns < 1000 → IfThere (IsRead (pos (length columns + 1))) o
        → IfThere (IsNext columns) (option_and_then (only_if (λ d. not (has_name d.name columns))) o)
    by_column None few h = tt
    by_column (Some c) few h = by_name c few h

    by_room : (b : Bool) → nat_lt (length columns) 1000 ≡ b
        → IfThere (IsNext columns) (if b
        then option_and_then (only_if (λ d. not (has_name d.name columns))) (column_in (pos (length columns + 1)) part) else None)
    by_room true e = by_column _ (ltb-true _ _ e) (column_known _ part)
    by_room false e = tt

-- ---- columns that were read so far

-- an id is one of the first numbers
abbrev pub IsUpTo : ℕ → ℤ → Type 0
IsUpTo n id = (m : ℕ) × (id ≡ pos m) × (m ≤ n)

abbrev pub AreUpTo : ℕ → List ℤ → Type 0
AreUpTo n [] = Unit {0}
AreUpTo n (id ∷ ids) = IsUpTo n id × AreUpTo n ids

-- columns that were read so far: their ids are among the first numbers
pub record Read (columns : List Column) : Type 0 where
  pub few : length columns ≤ 1000
  pub counted : AreUpTo (length columns) (map (λ c. c.id) columns)
  pub ids : are_distinct_ids (map (λ c. c.id) columns) ≡ true
  pub above : list_all is_id (map (λ c. c.id) columns) ≡ true
  pub names : are_distinct (map (λ c. c.name) columns) ≡ true
  pub kinds : list_all is_kind (map (λ c. c.kind) columns) ≡ true

pub none_read : Read []
none_read = record { few = omega arith; counted = tt; ids = refl; above = refl; names = refl; kinds = refl }

pub read_columns : (columns : List Column) → 1 ≤ length columns → Read columns → AreColumns columns
read_columns columns some r =
    record { some = some; few = r.few; ids = r.ids; above = r.above; names = r.names; kinds = r.kinds }

map-push : {A B : Type 0} (f : A → B) (xs : List A) (x : A) → map f (xs ++ x ∷ []) ≡ map f xs ++ f x ∷ []
map-push f [] x = refl
map-push f (y ∷ xs) x = ap (λ ys. f y ∷ ys) (map-push f xs x)

up_to_more : (n k : ℕ) (ids : List ℤ) → n ≤ k → AreUpTo n ids → AreUpTo k ids
up_to_more n k [] h are = tt
up_to_more n k (id ∷ ids) h are = ((are.0.0, are.0.1, omega arith), up_to_more n k ids h are.1)

up_to_push : (n k : ℕ) (ids : List ℤ) (id : ℤ) → n ≤ k → AreUpTo n ids → IsUpTo k id → AreUpTo k (ids ++ id ∷ [])
up_to_push n k [] id h are is = (is, tt)
up_to_push n k (i ∷ ids) id h are is = ((are.0.0, are.0.1, omega arith), up_to_push n k ids id h are.1 is)

-- a test that decides what doesn't hold is false
pub decided_no : {P : Type 0} (b : Bool) → Decides b P → (P → ⊥) → b ≡ false
decided_no true decides never = absurd (never (decides.0 refl))
decided_no false decides never = refl

-- a number isn't another one
other_number : (m n : ℕ) → m ≢ n → int_eq (pos m) (pos n) ≡ false
other_number m n other = decided_no _ (Decides-int_eq (pos m) (pos n)) (λ e. other (pos_of e))
  where
    pos_of : pos m ≡ pos n → m ≡ n
    pos_of e = cc

-- nor is a text, the other way round
other_text : (xs ys : List ℕ) → bytes_eq xs ys ≡ false → bytes_eq ys xs ≡ false
other_text xs ys other =
    decided_no _ (bytes_eq-Decides ys xs) (λ e. true≢false (sym ((bytes_eq-Decides xs ys).1 (sym e)) ∙ other))

any-push : {A : Type 0} (p : A → Bool) (xs : List A) (x : A) → p x ≡ false → list_any p xs ≡ false → list_any p (xs ++ x ∷ []) ≡ false
any-push p [] x last before = rw last refl
any-push p (y ∷ xs) x last before =
    let both = or_parts (p y) (list_any p xs) before in
    rw (both.0, any-push p xs x last both.1) refl

distinct_ids_push : (n : ℕ) (ids : List ℤ) → AreUpTo n ids → are_distinct_ids ids ≡ true → are_distinct_ids (ids ++ pos (n + 1) ∷ []) ≡ true
distinct_ids_push n [] are h = refl
distinct_ids_push n (id ∷ ids) are h =
    let p = and_parts (not (list_any (λ other. int_eq other id) ids)) (are_distinct_ids ids) h in
    let m : ℕ = are.0.0 in
    let small : m ≤ n = are.0.2 in
    let fresh : int_eq (pos (n + 1)) id ≡ false = rw are.0.1 (other_number (n + 1) m (λ e. absurd (let never : ⊥ = omega arith in never))) in
    let none = any-push (λ other. int_eq other id) ids (pos (n + 1)) fresh (not_true _ p.0) in
    rw (none, distinct_ids_push n ids are.1 p.1) refl

distinct_names_push : (names : List (List ℕ)) (name : List ℕ) → list_any (λ other. bytes_eq other name) names ≡ false
    → are_distinct names ≡ true → are_distinct (names ++ name ∷ []) ≡ true
distinct_names_push [] name new h = refl
distinct_names_push (n ∷ names) name new h =
    let p = and_parts (not (is_among n names)) (are_distinct names) h in
    let here = or_parts (bytes_eq n name) (list_any (λ other. bytes_eq other name) names) new in
    let none = any-push (λ other. bytes_eq other n) names name (other_text n name here.0) (not_true _ p.0) in
    rw (none, distinct_names_push names name here.1 p.1) refl

names_any : (name : List ℕ) (columns : List Column) → has_name name columns ≡ list_any (λ other. bytes_eq other name) (map (λ c. c.name) columns)
unfolding has_name
names_any name [] = refl
names_any name (c ∷ columns) = ap (λ b. bytes_eq c.name name || b) (names_any name columns)

all-push : {A : Type 0} (p : A → Bool) (xs : List A) (x : A) → list_all p xs ≡ true → p x ≡ true → list_all p (xs ++ x ∷ []) ≡ true
all-push p xs x before last = rw (list_all-append, before, last) refl

-- one more column is read
pub one_more : (columns : List Column) (c : Column) → Read columns → IsNext columns c → Read (columns ++ c ∷ [])
one_more columns c r next =
    let size = length-append columns (c ∷ []) in
    let small = next.few in
    let more : length columns ≤ length (columns ++ c ∷ []) = omega arith in
    let last : IsUpTo (length (columns ++ c ∷ [])) c.id = (length columns + 1, next.id, omega arith) in
    record {
      few = omega arith;
      counted = rw map-push (up_to_push (length columns) (length (columns ++ c ∷ [])) (map (λ d. d.id) columns) c.id more r.counted last);
      ids = rw (map-push, next.id) (distinct_ids_push (length columns) (map (λ d. d.id) columns) r.counted r.ids);
      above = rw map-push (all-push is_id (map (λ d. d.id) columns) c.id r.above (rw next.id (id_above (length columns) small)));
      names = rw map-push (distinct_names_push (map (λ d. d.name) columns) c.name (sym (names_any c.name columns) ∙ next.new) r.names);
      kinds = rw map-push (all-push is_kind (map (λ d. d.kind) columns) c.kind r.kinds next.kind);
    }
  where
    id_above : (n : ℕ) → n < 1000 → is_id (pos (n + 1)) ≡ true
    id_above n small = grind (arith, nat_tests)

-- ---- the loop

-- the columns of the first part, and then of those that are left
pub first_read : (columns : List Column) (part : List ℕ) (parts : List (List ℕ)) (c : Column) → Some c ≡ next_column columns part
    → columns_from columns (part ∷ parts) ≡ columns_from (columns ++ c ∷ []) parts
unfolding columns_from
first_read columns part parts c e = rw (sym e) refl

-- the first part is refused
pub first_refused : (columns : List Column) (part : List ℕ) (parts : List (List ℕ)) → None ≡ next_column columns part
    → columns_from columns (part ∷ parts) ≡ Err (length columns)
unfolding columns_from
first_refused columns part parts e = rw (sym e) refl

pub none_left : (columns : List Column) → columns_from columns [] ≡ Ok columns
unfolding columns_from
none_left columns = refl

-- what holds of a value that is there
there : {A : Type 0} (P : A → Type 0) (o : Option A) (a : A) → Some a ≡ o → IfThere P o → P a
there {A} P o a e h = let F : Option A → Type 0 = IfThere P in subst F (sym e) h

-- what was there before a part that is read, and what is there after it
pub part_read : (columns new : List Column) (words left part : List ℕ) (more : Option (Bor (List ℕ))) (c : Column)
    → Read columns → columns_from columns (parts_of left) ≡ columns_from [] (parts_of words) → IsFirstPart left part more
    → Some c ≡ next_column columns part → new ≡ columns ++ c ∷ []
    → Read new × MatchOption more (1 ≤ length new) (λ _. Unit {0})
    × (columns_from new (parts_left (text_left more)) ≡ columns_from [] (parts_of words))
part_read columns new words left part more c r same first found grown =
    let known = there (IsNext columns) (next_column columns part) c found (next_known columns part) in
    let size = length-append columns (c ∷ []) in
    let some : 1 ≤ length new = omega (arith, ap length grown) in (
      rw grown (one_more columns c r known),
      any_rest more some,
      rw grown (sym (first_read columns part (parts_left (text_left more)) c found)
          ∙ ap (columns_from columns) (sym (first_and_left left part more first)) ∙ same),
    )
  where
    any_rest : (o : Option (Bor (List ℕ))) → 1 ≤ length new → MatchOption o (1 ≤ length new) (λ _. Unit {0})
    any_rest None h = h
    any_rest (Some t) h = tt

-- a part that is refused is the first
pub part_refused : (columns : List Column) (words left part : List ℕ) (more : Option (Bor (List ℕ)))
    → columns_from columns (parts_of left) ≡ columns_from [] (parts_of words) → IsFirstPart left part more
    → None ≡ next_column columns part → columns_of words ≡ Err (length columns)
unfolding columns_of
part_refused columns words left part more same first none =
    sym same ∙ ap (columns_from columns) (first_and_left left part more first) ∙ first_refused columns part _ none

-- where nothing is left all columns are read
pub all_read : (columns : List Column) (words : List ℕ) → columns_from columns [] ≡ columns_from [] (parts_of words) → columns_of words ≡ Ok columns
unfolding columns_of
all_read columns words same = sym same ∙ none_left columns
