-- The paths of an append's files are no versions', and apart where they were put one after another.
use Rattle.std.proofs.Common.{◌≡◌, ◌+◌, ℕ, suc, Bool, true, false, List, [], ◌∷◌, ◌++◌, length, Option, Some, None, IsSome, refl, sym, ap, ◌∙◌, subst, arith, append_assoc}
use Rattle.std.specs.Prelude.{◌||◌, not, bytes_eq, codes, decimal}
use Rattle.std.specs.List.{AllByRecursion}
use Rattle.std.proofs.lemmas.Bool.{and_parts}
use Rattle.std.proofs.lemmas.Slice.Eq.{bytes_eq-Decides}
use Rattle.hex.specs.Hex.{encode_lower}
use Rattle.icb_base.specs.Objects.{Objects, object_at}
use Rattle.icb_manifest.specs.declared.entry.Entry.{Entry}
use Rattle.icb_schema.specs.Names.{are_distinct, is_among}
use Rattle.icb_tree.specs.Versions.{version_path}
use Rattle.icb_turns.specs.Turns.{IsVersionPath}
use Rattle.icb_append.specs.Keeping.{data_paths}
use Rattle.icb_append.specs.Paths.{data_path, list_path, manifest_path}

-- ---- no version

-- the last bytes of equal texts are equal
last_same : (xs ys : List ℕ) (a b : ℕ) → xs ++ a ∷ [] ≡ ys ++ b ∷ [] → a ≡ b
last_same [] [] a b e = cc
last_same [] (y ∷ ys) a b e = absurd (nothing ys b (let rest : [] ≡ ys ++ b ∷ [] = cc in rest))
  where
    nothing : (ys : List ℕ) (b : ℕ) → [] ≡ ys ++ b ∷ [] → ⊥
    nothing [] b e = let g : ⊥ = cc in g
    nothing (y ∷ ys) b e = let g : ⊥ = cc in g
last_same (x ∷ xs) [] a b e = absurd (nothing xs a (let rest : xs ++ a ∷ [] ≡ [] = cc in rest))
  where
    nothing : (xs : List ℕ) (a : ℕ) → xs ++ a ∷ [] ≡ [] → ⊥
    nothing [] a e = let g : ⊥ = cc in g
    nothing (x ∷ xs) a e = let g : ⊥ = cc in g
last_same (x ∷ xs) (y ∷ ys) a b e = last_same xs ys a b (let rest : xs ++ a ∷ [] ≡ ys ++ b ∷ [] = cc in rest)

apart_by : (x y : List ℕ) → bytes_eq x y ≡ false → x ≡ y → ⊥
apart_by x y e same = let both : bytes_eq x y ≡ true = (bytes_eq-Decides x y).1 same in let g : ⊥ = cc in g

pub data_no_version : (unique : List ℕ) (number : ℕ) → IsVersionPath (data_path unique number) → ⊥
data_no_version unique number is = apart_by (data_path unique number) (version_path is.0) refl is.1

pub list_no_version : (unique : List ℕ) (snapshot attempt : ℕ) → IsVersionPath (list_path unique snapshot attempt) → ⊥
list_no_version unique snapshot attempt is = apart_by (list_path unique snapshot attempt) (version_path is.0) refl is.1

pub manifest_no_version : (unique : List ℕ) → IsVersionPath (manifest_path unique) → ⊥
manifest_no_version unique is =
    let front : List ℕ = codes "metadata/" in
    let digits : List ℕ = encode_lower unique in
    let own : manifest_path unique ≡ (front ++ (digits ++ codes "-m0.avr")) ++ 111 ∷ [] =
    ap (λ xs. front ++ xs) (sym (append_assoc digits (codes "-m0.avr") (111 ∷ []))) ∙ sym (append_assoc front (digits ++ codes "-m0.avr") (111 ∷ [])) in
    let its : version_path is.0 ≡ ((codes "metadata/v" ++ decimal is.0) ++ codes ".metadata.jso") ++ 110 ∷ [] =
    sym (append_assoc (codes "metadata/v" ++ decimal is.0) (codes ".metadata.jso") (110 ∷ [])) in
    let same : 111 ≡ 110 = last_same (front ++ (digits ++ codes "-m0.avr")) ((codes "metadata/v" ++ decimal is.0) ++ codes ".metadata.jso") 111 110 (sym own ∙ is.1 ∙ its) in
    omega (arith, same)

-- ---- apart

-- objects are held at paths
abbrev pub AreHeld : Objects → List (List ℕ) → Type 0
AreHeld files paths = AllByRecursion (λ p. IsSome (object_at files p)) paths

-- a path at which nothing is held
pub is_other : (files : Objects) (path other : List ℕ) → object_at files path ≡ None → IsSome (object_at files other) → bytes_eq other path ≡ false
is_other files path other free held = by_test (bytes_eq other path) refl
  where
    by_test : (b : Bool) → bytes_eq other path ≡ b → bytes_eq other path ≡ false
    by_test false e = e
    by_test true e =
        let same : other ≡ path = (bytes_eq-Decides other path).0 e in
        let none : IsSome (object_at files path) = subst (λ p. IsSome (object_at files p)) same held in
        absurd (no_some (object_at files path) none free)
      where
        no_some : (o : Option (List ℕ)) → IsSome o → o ≡ None → ⊥
        no_some None h e = let g : ⊥ = cc in g
        no_some (Some x) h e = let g : ⊥ = cc in g

not_among : (files : Objects) (path : List ℕ) (paths : List (List ℕ)) → object_at files path ≡ None → AreHeld files paths → is_among path paths ≡ false
not_among files path [] free held = refl
not_among files path (p ∷ paths) free held = rw (is_other files path p free held.0, not_among files path paths free held.1) refl

-- a path at which nothing is held, before those of objects that are
pub distinct_first : (files : Objects) (path : List ℕ) (paths : List (List ℕ)) → object_at files path ≡ None → AreHeld files paths → are_distinct paths ≡ true → are_distinct (path ∷ paths) ≡ true
distinct_first files path paths free held h = rw (not_among files path paths free held, h) refl

-- and behind them
other_way : (files : Objects) (path p : List ℕ) → object_at files path ≡ None → IsSome (object_at files p) → bytes_eq path p ≡ false
other_way files path p free held = by_test (bytes_eq path p) refl
  where
    by_test : (b : Bool) → bytes_eq path p ≡ b → bytes_eq path p ≡ false
    by_test false e = e
    by_test true e =
        let same : path ≡ p = (bytes_eq-Decides path p).0 e in
        let both : bytes_eq p path ≡ true = (bytes_eq-Decides p path).1 (sym same) in
        let none : bytes_eq p path ≡ false = is_other files path p free held in
        absurd (let g : ⊥ = cc in g)

among_more : (path q : List ℕ) (ps : List (List ℕ)) → bytes_eq path q ≡ false → is_among q ps ≡ false → is_among q (ps ++ path ∷ []) ≡ false
among_more path q [] other e = rw other refl
among_more path q (x ∷ ps) other e = by_test (bytes_eq x q) (is_among q ps) e (among_more path q ps other)
  where
    by_test : (b r : Bool) → (b || r) ≡ false → (r ≡ false → is_among q (ps ++ path ∷ []) ≡ false) → (b || is_among q (ps ++ path ∷ [])) ≡ false
    by_test true r e more = absurd (let g : ⊥ = cc in g)
    by_test false r e more = more e

first_no : (b : Bool) → not b ≡ true → b ≡ false
first_no true h = absurd (let g : ⊥ = cc in g)
first_no false h = refl

pub distinct_last : (files : Objects) (path : List ℕ) (paths : List (List ℕ)) → object_at files path ≡ None → AreHeld files paths → are_distinct paths ≡ true → are_distinct (paths ++ path ∷ []) ≡ true
distinct_last files path [] free held h = refl
distinct_last files path (p ∷ paths) free held h =
    let parts = and_parts (not (is_among p paths)) (are_distinct paths) h in
    let apart : is_among p (paths ++ path ∷ []) ≡ false = among_more path p paths (other_way files path p free held.0) (first_no (is_among p paths) parts.0) in
    rw (apart, distinct_last files path paths free held.1 parts.1) refl

-- the paths of one more data file
pub paths_more : (unique : List ℕ) (number : ℕ) (es : List Entry) (e : Entry) → data_paths unique number (es ++ e ∷ []) ≡ data_paths unique number es ++ data_path unique (number + length es) ∷ []
paths_more unique number [] e = let same : number ≡ number + 0 = omega arith in ap (λ n. data_path unique n ∷ []) same
paths_more unique number (x ∷ es) e =
    let next : suc number + length es ≡ number + suc (length es) = omega arith in
    ap (λ ps. data_path unique number ∷ ps) (paths_more unique (suc number) es e ∙ ap (λ n. data_paths unique (suc number) es ++ data_path unique n ∷ []) next)
