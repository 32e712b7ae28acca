-- The text of a front of the rows.
use Rattle.std.specs.Prelude.{◌≡◌, ℕ, zero, suc, List, [], ◌∷◌, ◌++◌, take, drop, filter, Option, Some, None}
use Rattle.std.specs.List.{flat_map}
use Rattle.std.proofs.Common.{refl, ap, ◌∙◌}
use Rattle.std.proofs.lemmas.List.Concat.{flat_map-append}
use Rattle.std.proofs.lemmas.List.Elements.{filter-append}
use Rattle.icb_table.specs.Selection.{at_most, is_within, line_of}
use Rattle.icb_table.specs.Laws.{TextOfFront}

-- items behind a front stay behind what is left of it
drop_front : {A : Type 0} (n : ℕ) (xs ys : List A) → (more : List A) × (drop n (xs ++ ys) ≡ drop n xs ++ more)
drop_front zero xs ys = (ys, refl)
drop_front (suc n) [] ys = (drop (suc n) ys, refl)
drop_front (suc n) (x ∷ xs) ys = drop_front n xs ys

-- the first items of more are those of the front, and more
take_front : {A : Type 0} (n : ℕ) (xs ys : List A) → (more : List A) × (take n (xs ++ ys) ≡ take n xs ++ more)
take_front zero xs ys = ([], refl)
take_front (suc n) [] ys = (take (suc n) ys, refl)
take_front (suc n) (x ∷ xs) ys = let rest = take_front n xs ys in (rest.0, ap (λ zs. x ∷ zs) rest.1)

-- at most so many of more are those of the front, and more
at_most_front : {A : Type 0} (most : Option ℕ) (xs ys : List A)
    → (more : List A) × (at_most most (xs ++ ys) ≡ at_most most xs ++ more)
at_most_front None xs ys = (ys, refl)
at_most_front (Some n) xs ys = take_front n xs ys

pub text_of_front : TextOfFront
text_of_front s front rest =
    let p = is_within s.range in
    let kept = drop_front s.skip (filter p front) (filter p rest) in
    let some = at_most_front s.most (drop s.skip (filter p front)) kept.0 in (
      flat_map (line_of s.columns) some.0,
      ap (λ rows. flat_map (line_of s.columns) (at_most s.most (drop s.skip rows))) (filter-append p front rest)
          ∙ ap (λ rows. flat_map (line_of s.columns) (at_most s.most rows)) kept.1
          ∙ ap (flat_map (line_of s.columns)) some.1
          ∙ flat_map-append (line_of s.columns) (at_most s.most (drop s.skip (filter p front))) some.0,
    )
