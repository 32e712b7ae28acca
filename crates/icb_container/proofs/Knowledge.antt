-- Parts of a file that are known: a front of one, and one behind another.
use Rattle.std.proofs.Common.{◌≡◌, ℕ, ◌+◌, ◌-◌, ◌≤◌, List, [], ◌++◌, length, take, drop, map, Option, Some, refl, sym, ap, ◌∙◌, arith}
use Rattle.std.proofs.lemmas.List.{drop-drop, drop-take, length-append, length-drop, length-take-le, map-append, take-append-drop, take-map, take-take}
use Rattle.icb_base.specs.Contents.{FillsKnown, HasPart}
use Rattle.icb_base.proofs.LawLemmas.{length_filled, part_is_filled}
use Rattle.icb_container.specs.Known.{KnownFromTo}

-- no byte is known anywhere
pub known_none : (known : List (Option ℕ)) (at : ℕ) → KnownFromTo known at at
known_none known at = record { part = []; ends = omega arith; is = refl }

-- a part is known up to where it ends
pub known_part : (known : List (Option ℕ)) (at to : ℕ) (part : List ℕ) → HasPart known at part → at + length part ≡ to → KnownFromTo known at to
known_part known at to part is ends = record { part = part; ends = ends; is = is }

-- the front of a known part is known
pub front_is_known : (known : List (Option ℕ)) (at n : ℕ) (part : List ℕ) → n ≤ length part → HasPart known at part → HasPart known at (take n part)
front_is_known known at n part h is =
    let count : length (take n part) ≡ n = length-take-le n part h in
    sym (take-map Some n part) ∙ ap (take n) is ∙ take-take n (length part) (drop at known) h ∙ ap (λ (k : ℕ). take k (drop at known)) (sym count)

-- so many, and then more
pub take_sum : {A : Type 0} (m n : ℕ) (xs : List A) → take (m + n) xs ≡ take m xs ++ take n (drop m xs)
take_sum m n xs =
    sym (take-append-drop m (take (m + n) xs)) ∙ ap (λ (p : List _). p ++ drop m (take (m + n) xs)) (take-take m (m + n) xs (omega arith)) ∙ ap (λ (q : List _). take m xs ++ q) (drop-take m n xs)

-- a known part and the one behind it
pub parts_are_known : (known : List (Option ℕ)) (at mid : ℕ) (p q : List ℕ) → HasPart known at p → mid ≡ at + length p → HasPart known mid q → HasPart known at (p ++ q)
parts_are_known known at mid p q is e more =
    let behind : map Some q ≡ take (length q) (drop (length p) (drop at known)) =
    more ∙ ap (λ (k : ℕ). take (length q) (drop k known)) e ∙ ap (take (length q)) (sym (drop-drop (length p) at known)) in
    let both : map Some p ++ map Some q ≡ take (length p) (drop at known) ++ take (length q) (drop (length p) (drop at known)) = rw (is, behind) refl in
    map-append Some p q ∙ both ∙ sym (take_sum (length p) (length q) (drop at known)) ∙ ap (λ (k : ℕ). take k (drop at known)) (sym (length-append p q))

-- what is known from one place to a second one and from there to a third one is known from the first to the third one
pub known_through : (known : List (Option ℕ)) (a b c : ℕ) → KnownFromTo known a b → KnownFromTo known b c → KnownFromTo known a c
known_through known a b c one two = record {
  part = one.part ++ two.part;
  ends = omega (arith, length-append one.part two.part, one.ends, two.ends);
  is = parts_are_known known a b one.part two.part one.is (sym one.ends) two.is;
}

-- a part that was read is the front of what the file has there
pub part_and_rest : (known : List (Option ℕ)) (file part : List ℕ) (at : ℕ) → FillsKnown known file → HasPart known at part → drop at file ≡ part ++ drop (at + length part) file
part_and_rest known file part at fills is =
    sym (take-append-drop (length part) (drop at file)) ∙ ap (λ (p : List ℕ). p ++ drop (length part) (drop at file)) (sym (part_is_filled known file part at fills is))
    ∙ ap (λ (q : List ℕ). part ++ q) (drop-drop (length part) at file)

-- a file has as many bytes as the reader
pub file_size : (known : List (Option ℕ)) (file : List ℕ) (size : ℕ) → FillsKnown known file → length known ≡ size → length file ≡ size
file_size known file size fills is = sym (length_filled known file fills) ∙ is

-- where the last bytes of a file begin
pub place_of : (file : List ℕ) (at : ℕ) → at ≤ length file → length file - length (drop at file) ≡ at
place_of file at h = omega (arith, length-drop at file)
