-- The columns at positions that follow one another.
use Rattle.std.proofs.Common.{◌≡◌, ℕ, zero, suc, ◌+◌, ◌<◌, List, [], ◌∷◌, ◌++◌, length, take, Option, Some, None, refl, sym, subst, ap, ◌∙◌, add-one}
use Rattle.std.specs.Prelude.{slice_get}
use Rattle.icb_types.specs.declared.columns.Column.{Column}
use Rattle.icb_rows.specs.Views.{chosen}
use Rattle.icb_datafile.specs.Plans.{ArePositions}
use Rattle.icb_datafile.proofs.DatumLemmas.{get_below}

pub chosen_append : (columns : List Column) (ps qs : List ℕ) → chosen columns (ps ++ qs) ≡ chosen columns ps ++ chosen columns qs
chosen_append columns [] qs = refl
chosen_append columns (p ∷ ps) qs = by_get (slice_get columns p) refl (chosen_append columns ps qs)
  where
    by_get : (o : Option Column) → slice_get columns p ≡ o → chosen columns (ps ++ qs) ≡ chosen columns ps ++ chosen columns qs
        → chosen columns ((p ∷ ps) ++ qs) ≡ chosen columns (p ∷ ps) ++ chosen columns qs
    by_get None e h = rw e h
    by_get (Some c) e h = rw e (ap (λ (cs : List Column). c ∷ cs) h)

-- a front that is one longer
take_more : {A : Type 0} (xs : List A) (n : ℕ) (x : A) → slice_get xs n ≡ Some x → take (suc n) xs ≡ take n xs ++ x ∷ []
take_more [] zero x e = absurd (let never : ⊥ = cc in never)
take_more [] (suc n) x e = absurd (let never : ⊥ = cc in never)
take_more {A} (y ∷ xs) zero x e = ap (λ (z : A). z ∷ []) (the_one y x e)
  where
    the_one : (a b : A) → Some a ≡ Some b → a ≡ b
    the_one a b e = cc
take_more {A} (y ∷ xs) (suc n) x e = ap (λ (zs : List A). y ∷ zs) (take_more xs n x e)

-- one position more
pub one_position : (columns : List Column) (positions more : List ℕ) (at : ℕ) → at < length columns → chosen columns positions ≡ take at columns → more ≡ positions ++ at ∷ []
    → chosen columns more ≡ take (at + 1) columns
one_position columns positions more at h done is =
    let there = get_below columns at h in
    let c : Column = there.0 in
    let one : chosen columns (at ∷ []) ≡ c ∷ [] = rw there.1 refl in
    ap (chosen columns) is ∙ chosen_append columns positions (at ∷ []) ∙ ap (λ (cs : List Column). cs ++ chosen columns (at ∷ [])) done
    ∙ ap (λ (cs : List Column). take at columns ++ cs) one ∙ sym (take_more columns at c there.1) ∙ ap (λ (n : ℕ). take n columns) (sym (add-one at))

-- positions, and one more
pub positions_more : (columns : List Column) (positions more : List ℕ) (at : ℕ) → at < length columns → ArePositions columns positions → more ≡ positions ++ at ∷ []
    → ArePositions columns more
positions_more columns positions more at inside all e = subst (ArePositions columns) (sym e) (both columns positions at inside all)
  where
    both : (columns : List Column) (positions : List ℕ) (at : ℕ) → at < length columns → ArePositions columns positions → ArePositions columns (positions ++ at ∷ [])
    both columns [] at inside all = (inside, tt)
    both columns (p ∷ positions) at inside all = (all.0, both columns positions at inside all.1)
