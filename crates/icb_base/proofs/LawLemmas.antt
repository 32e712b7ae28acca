-- The laws of the shared words, which crates above cite in their proofs.
use Rattle.std.specs.Prelude.{ℕ, ◌+◌, ◌≤◌, ◌≡◌, List, [], ◌∷◌, ◌++◌, length, take, drop, map, Option, Some, None, refl, Bool, true, false, cond}
use Rattle.std.proofs.Common.{sym, ap, ◌∙◌, arith, append_assoc, zero, suc}
use Rattle.std.specs.Str.{bytes_eq}
use Rattle.std.specs.Cmp.Lexicographic.{texts_ties, nat_list_cmp_total}
use Rattle.std.specs.FinMap as finite
use Rattle.std.proofs.lemmas.Slice.Eq.{bytes_eq-Decides}
use Rattle.icb_base.specs.Causes.{Blames}
use Rattle.icb_base.specs.Contents.{FillsKnown}
use Rattle.icb_base.specs.Counts.{raised}
use Rattle.icb_base.specs.Objects.{Objects, object_at, with_object}
use Rattle.icb_base.specs.Laws.{CountedAtRest, CountedTwice, FilledHasLength, FilledHasPart, FillsLess, FrontsJoin, GrowsAtRest, GrowsTwice, KnowsItself, KnowsThrough, MayRaiseOnly, PutGrows, RaisedOnly, RoseSince}

-- a count that rose later has risen since before
pub rose_since : RoseSince
rose_since before mid now earlier rose = omega arith

-- a count that stayed is blamed on no fault
pub blames_at_rest : (fault : Type 0) (count : ℕ) → (fault → ⊥) → Blames fault count count
blames_at_rest fault count none = record { later = omega arith; rose = λ f. absurd (none f); stays = λ _. refl }

-- a fault of the second of two calls is the fault of both
pub blames_twice : (first second : Type 0) (before mid now : ℕ) → (first → ⊥)
    → Blames first before mid → Blames second mid now → Blames second before now
blames_twice first second before mid now none one two = record {
  later = omega (arith, one.later, two.later);
  rose = λ f. rose_since before mid now one.later (two.rose f);
  stays = λ n. two.stays n ∙ one.stays none;
}

-- a store that did nothing only grew
pub grows_at_rest : GrowsAtRest
grows_at_rest files = record { stays = λ path bytes held. held }

-- a store that only grew twice only grew
pub grows_twice : GrowsTwice
grows_twice before mid now first second = record { stays = λ path bytes held. second.stays path bytes (first.stays path bytes held) }

-- what is held at a path after a put there, and at every other path
pub object_at-with_object : (files : Objects) (path bytes other : List ℕ)
    → object_at (with_object files path bytes) other ≡ cond (bytes_eq other path) (Some bytes) (object_at files other)
object_at-with_object files path bytes other =
    finite.get-insert nat_list_cmp_total files path bytes other ∙ ap (λ b. cond b (Some bytes) (object_at files other)) (sym (texts_ties other path))

-- a put where nothing was held lets a store grow
pub put_grows : PutGrows
put_grows files path bytes none = record { stays = λ other held is. object_at-with_object files path bytes other ∙ kept other held is (bytes_eq other path) refl }
  where
    kept : (other held : List ℕ) → object_at files other ≡ Some held → (b : Bool) → bytes_eq other path ≡ b
        → cond b (Some bytes) (object_at files other) ≡ Some held
    kept other held is true e = let same = (bytes_eq-Decides other path).0 e in let here = ap (object_at files) same in cc
    kept other held is false e = is

-- a call that raised one path's number counted on that path only
pub raised_only : RaisedOnly
raised_only files path more before now is =
    let both = by_held (object_at files path) refl in record { others = is.others; later = both.0; at_most = both.1 }
  where
    by_held : (o : Option (List ℕ)) → object_at files path ≡ o → (before path ≤ now path) × (now path ≤ before path + more)
    by_held None e = let same = is.absent e in (omega arith, omega arith)
    by_held (Some bytes) e =
        let risen : now path ≡ raised (before path) more = is.held (rw e refl) in (omega arith, omega arith)

-- a call that may have raised one path's number counted on that path only
pub may_raise_only : MayRaiseOnly
may_raise_only files path most before now is = record { others = is.others; later = is.later; at_most = is.at_most }

-- no call counts on a path only
pub counted_at_rest : CountedAtRest
counted_at_rest path most counts = record { others = λ other ne. refl; later = omega arith; at_most = omega arith }

-- calls on one path twice are calls on that path only
pub counted_twice : CountedTwice
counted_twice path m n before mid now first second = record {
  others = λ other ne. second.others other ne ∙ first.others other ne;
  later = omega (arith, first.later, second.later);
  at_most = omega (arith, first.at_most, second.at_most);
}

-- a front of the second text behind the whole first one is a front of both
pub fronts_join : FrontsJoin
fronts_join now before first second wrote = record {
  front = first ++ wrote.front;
  missing = wrote.missing;
  whole = append_assoc first wrote.front wrote.missing ∙ ap (λ rest. first ++ rest) wrote.whole;
  is = wrote.is ∙ ap Some (append_assoc before first wrote.front);
}

-- a file has as many bytes as places are spoken of
pub length_filled : FilledHasLength
length_filled [] [] fills = refl
length_filled (None ∷ known) (b ∷ file) fills = ap suc (length_filled known file fills)
length_filled (Some a ∷ known) (b ∷ file) fills = ap suc (length_filled known file fills.1)
length_filled [] (b ∷ file) fills = absurd fills
length_filled (None ∷ known) [] fills = absurd fills
length_filled (Some a ∷ known) [] fills = absurd fills

-- what fills all that is known fills less of it
pub less_is_filled : FillsLess
less_is_filled [] [] [] less fills = tt
less_is_filled [] [] (b ∷ file) less fills = fills
less_is_filled [] (k ∷ all) file less fills = absurd less
less_is_filled (None ∷ known) [] file less fills = absurd less
less_is_filled (Some a ∷ known) [] file less fills = absurd less
less_is_filled (k ∷ known) (None ∷ all) [] less fills = absurd fills
less_is_filled (k ∷ known) (Some c ∷ all) [] less fills = absurd fills
less_is_filled (None ∷ known) (None ∷ all) (b ∷ file) less fills = less_is_filled known all file less fills
less_is_filled (None ∷ known) (Some c ∷ all) (b ∷ file) less fills = less_is_filled known all file less fills.1
less_is_filled (Some a ∷ known) (None ∷ all) (b ∷ file) less fills = let never : None ≡ Some a = less.0 in cc
less_is_filled (Some a ∷ known) (Some c ∷ all) (b ∷ file) less fills =
    let same : Some c ≡ Some a = less.0 in let there : c ≡ b = fills.0 in
    let here : a ≡ b = cc in (here, less_is_filled known all file less.1 fills.1)

-- from a place on the file has the bytes that are known from there on
pub drop_filled : (at : ℕ) (known : List (Option ℕ)) (file : List ℕ) → FillsKnown known file → FillsKnown (drop at known) (drop at file)
drop_filled zero known file fills = fills
drop_filled (suc at) [] [] fills = tt
drop_filled (suc at) [] (b ∷ file) fills = absurd fills
drop_filled (suc at) (None ∷ known) [] fills = absurd fills
drop_filled (suc at) (Some a ∷ known) [] fills = absurd fills
drop_filled (suc at) (None ∷ known) (b ∷ file) fills = drop_filled at known file fills
drop_filled (suc at) (Some a ∷ known) (b ∷ file) fills = drop_filled at known file fills.1

-- bytes that are known at the front are the file's front
pub front_is_filled : (known : List (Option ℕ)) (file part : List ℕ) → FillsKnown known file
    → map Some part ≡ take (length part) known → part ≡ take (length part) file
front_is_filled known file [] fills is = refl
front_is_filled [] file (p ∷ part) fills is = cc
front_is_filled (None ∷ known) [] (p ∷ part) fills is = absurd fills
front_is_filled (Some a ∷ known) [] (p ∷ part) fills is = absurd fills
front_is_filled (None ∷ known) (b ∷ file) (p ∷ part) fills is =
    let never : (Some p ∷ map Some part) ≡ (None ∷ take (length part) known) = is in cc
front_is_filled (Some a ∷ known) (b ∷ file) (p ∷ part) fills is =
    let both : (Some p ∷ map Some part) ≡ (Some a ∷ take (length part) known) = is in
    let rest : map Some part ≡ take (length part) known = cc in
    let later = front_is_filled known file part fills.1 rest in
    let first : a ≡ b = fills.0 in cc

-- a part that was read is the file's part
pub part_is_filled : FilledHasPart
part_is_filled known file part at fills is = front_is_filled (drop at known) (drop at file) part (drop_filled at known file fills) is

-- what is known is known of itself
pub knows_itself : KnowsItself
knows_itself [] = tt
knows_itself (None ∷ known) = knows_itself known
knows_itself (Some a ∷ known) = (refl, knows_itself known)

-- what knows no more than something that knows no more than a third knows no more than the third
pub knows_through : KnowsThrough
knows_through [] [] [] one two = tt
knows_through [] [] (k ∷ all) one two = two
knows_through [] (m ∷ more) all one two = absurd one
knows_through (None ∷ known) [] all one two = absurd one
knows_through (Some a ∷ known) [] all one two = absurd one
knows_through (k ∷ known) (None ∷ more) [] one two = absurd two
knows_through (k ∷ known) (Some b ∷ more) [] one two = absurd two
knows_through (None ∷ known) (None ∷ more) (k ∷ all) one two = knows_through known more all one two
knows_through (None ∷ known) (Some b ∷ more) (k ∷ all) one two = knows_through known more all one two.1
knows_through (Some a ∷ known) (None ∷ more) (k ∷ all) one two = let never : None ≡ Some a = one.0 in cc
knows_through (Some a ∷ known) (Some b ∷ more) (k ∷ all) one two =
    let same : Some b ≡ Some a = one.0 in let there : k ≡ Some b = two.0 in
    (there ∙ same, knows_through known more all one.1 two.1)
