-- Walking the objects of the store in memory, and what its calls count.
use Rattle.std.proofs.Common.{nat_lt, ◌≡◌, ◌≢◌, ℕ, ◌<◌, ◌≤◌, Bool, true, false, cond, List, [], ◌∷◌, ◌++◌, length, take, drop, get_or, zero, suc, map, find, Option, Some, None, option_map, refl, sym, ap, subst, ◌∙◌, IsSome, arith, ◌+◌, ◌-◌}
use Rattle.std.specs.Prelude.{is_some}
use Rattle.std.specs.Option.{option_map_or}
use Rattle.std.specs.Ordering.{nat_cmp}
use Rattle.std.specs.Cmp.Lexicographic.{nat_list_cmp_total, slice_cmp, texts_ties}
use Rattle.std.specs.Str.{bytes_eq}
use Rattle.std.specs.FinMap.{from_entries, from_entries_push, get-from_entries, get-remove, len, len-empty, len-insert, same_map, slice_cmp-IsAntisymmetric, nat_cmp-IsAntisymmetric}
use Rattle.std.proofs.lemmas.List.{map-append}
use Rattle.std.proofs.lemmas.List.Folds.{find-append, find-set, find_at}
use Rattle.std.proofs.lemmas.List.Quantifiers.{position-Some}
use Rattle.std.proofs.lemmas.Option.{slice_get_past}
use Rattle.std.proofs.lemmas.Bool.{ltb-false}
use Rattle.std.specs.List.{position, position_or_len, remove, slice_get}
use Rattle.std.proofs.Math.ListN.{set}
use Rattle.std.proofs.Math.Seq.{drop-cons}
use Rattle.std.proofs.lemmas.List.{length-drop, set_split, drop_all, take_all}
use Rattle.std.proofs.lemmas.Slice.Eq.{bytes_eq-Decides}
use Rattle.icb_base.specs.declared.memory_objects.Object.{Object}
use Rattle.icb_base.specs.Objects.{object_at, with_object, without_object}
use Rattle.icb_base.specs.Counts.{raised, IsRaised, Uncounts}
use Rattle.icb_base.specs.Memory.{asked_in, is_at, moved_in, objects_of, counted_at, counted_once, number_at, SetsIn}
use Rattle.icb_base.proofs.MemoryLemmas.{entry_of, none_found, some_found, number_in, number_is, object_at-objects_of}

-- past the last object none is found
pub look_none : (objects : List Object) (path : List ℕ) (i : ℕ)
    → find (is_at path) objects ≡ find (is_at path) (drop i objects) → length objects ≤ i
    → None ≡ object_at (objects_of objects) path
look_none objects path i so_far past =
    sym (object_at-objects_of objects path ∙ ap (option_map (λ object. object.bytes)) (so_far ∙ ap (find (is_at path)) (drop_all i objects past)))

-- the first object at the path is the one whose bytes are answered
pub look_some : (objects : List Object) (path : List ℕ) (i : ℕ) (object : Object)
    → find (is_at path) objects ≡ find (is_at path) (drop i objects) → i < length objects
    → object ≡ get_or objects i object → is_at path object ≡ true
    → Some object.bytes ≡ object_at (objects_of objects) path
look_some objects path i object so_far within is at =
    let here : find (is_at path) (get_or objects i object ∷ drop (suc i) objects) ≡ Some object =
    rw (← is) (rw at refl) in
    sym (object_at-objects_of objects path ∙ ap (option_map (λ object. object.bytes))
    (so_far ∙ ap (find (is_at path)) (drop-cons objects i object within) ∙ here))

-- the first object at the path is the one that is counted
pub count_here : (objects : List Object) (path : List ℕ) (bytes i : ℕ) (object : Object)
    → counted_at path bytes objects ≡ take i objects ++ counted_at path bytes (drop i objects) → i < length objects
    → object ≡ get_or objects i object → is_at path object ≡ true
    → set objects i (counted_once object bytes) ≡ counted_at path bytes objects
count_here objects path bytes i object so_far within is at =
    let here : counted_at path bytes (get_or objects i object ∷ drop (suc i) objects) ≡ counted_once object bytes ∷ drop (suc i) objects =
    rw (← is) (rw at refl) in
    set_split objects i (counted_once object bytes) within
    ∙ sym (so_far ∙ ap (λ rest. take i objects ++ counted_at path bytes rest) (drop-cons objects i object within) ∙ ap (λ rest. take i objects ++ rest) here)

-- the same of the object that a call wrote at its place
pub count_written : (objects before : List Object) (path : List ℕ) (bytes i : ℕ) (object counted : Object)
    → objects ≡ before
    → counted_at path bytes before ≡ take i before ++ counted_at path bytes (drop i before)
    → counted ≡ counted_once (get_or objects i object) bytes
    → i < length before → object ≡ get_or objects i object → is_at path object ≡ true
    → set objects i counted ≡ counted_at path bytes before
count_written objects before path bytes i object counted same so_far once within is at =
    rw once
    (ap (λ o. set objects i (counted_once o bytes)) (sym is)
    ∙ (let P : List Object → Type 0 = λ os. counted_at path bytes os ≡ take i os ++ counted_at path bytes (drop i os) in
    count_here objects path bytes i object (subst P (sym same) so_far) (rw same within) is at)
    ∙ ap (counted_at path bytes) same)

-- the head's part of the lemma below: the two tests of the head, and what holds of the rest
others_stay_at : (number : Object → ℕ) (path other : List ℕ) (bytes : ℕ) → other ≢ path → (object : Object) (objects : List Object)
    → number_in number (counted_at path bytes objects) other ≡ number_in number objects other
    → (here : Bool) → is_at path object ≡ here → (there : Bool) → is_at other object ≡ there
    → number_in number (counted_at path bytes (object ∷ objects)) other ≡ number_in number (object ∷ objects) other
others_stay_at number path other bytes ne object objects rest true e true f =
    absurd (ne ((bytes_eq-Decides other object.path).0 f ∙ sym ((bytes_eq-Decides path object.path).0 e)))
others_stay_at number path other bytes ne object objects rest true e false f = rw (e, f) refl
others_stay_at number path other bytes ne object objects rest false e true f = rw (e, f) refl
others_stay_at number path other bytes ne object objects rest false e false f = rw (e, f) rest

-- counting a call at a path keeps the numbers of every other path
others_stay : (number : Object → ℕ) (path other : List ℕ) (bytes : ℕ) → other ≢ path → (objects : List Object)
    → number_in number (counted_at path bytes objects) other ≡ number_in number objects other
others_stay number path other bytes ne [] = refl
others_stay number path other bytes ne (object ∷ objects) =
    others_stay_at number path other bytes ne object objects (others_stay number path other bytes ne objects)
    (is_at path object) refl (is_at other object) refl

-- the head's part of the lemma below
this_rises_at : (number : Object → ℕ) (path : List ℕ) (bytes more : ℕ) (object : Object) (objects : List Object)
    → number (counted_once object bytes) ≡ raised (number object) more
    → (IsSome (find (is_at path) objects) → number_in number (counted_at path bytes objects) path ≡ raised (number_in number objects path) more)
    → IsSome (find (is_at path) (object ∷ objects)) → (here : Bool) → is_at path object ≡ here
    → number_in number (counted_at path bytes (object ∷ objects)) path ≡ raised (number_in number (object ∷ objects) path) more
this_rises_at number path bytes more object objects rises rest found true e = rw (e, e) rises
this_rises_at number path bytes more object objects rises rest found false e =
    let later : IsSome (find (is_at path) objects) = rw e at found in
    rw (e, e) (rest later)

-- counting a call at a path raises the number of the first object there
this_rises : (number : Object → ℕ) (path : List ℕ) (bytes more : ℕ)
    → ((object : Object) → number (counted_once object bytes) ≡ raised (number object) more) → (objects : List Object)
    → IsSome (find (is_at path) objects) → number_in number (counted_at path bytes objects) path ≡ raised (number_in number objects path) more
this_rises number path bytes more rises [] found = cc
this_rises number path bytes more rises (object ∷ objects) found =
    this_rises_at number path bytes more object objects (rises object) (this_rises number path bytes more rises objects) found
    (is_at path object) refl

-- where nothing is held at a path nothing is counted
absent_stays : (path : List ℕ) (bytes : ℕ) (objects : List Object)
    → find (is_at path) objects ≡ None → counted_at path bytes objects ≡ objects
absent_stays path bytes [] none = refl
absent_stays path bytes (object ∷ objects) none =
    elim (is_at path object) as (λ b. cond b (Some object) (find (is_at path) objects) ≡ None
    → cond b (counted_once object bytes ∷ objects) (object ∷ counted_at path bytes objects) ≡ object ∷ objects) [
      | true ↦ λ e. cc
      | false ↦ λ e. ap (λ rest. object ∷ rest) (absent_stays path bytes objects e)
    ] none

-- one counted call raises one number of one path
pub is_raised : (number : Object → ℕ) (path : List ℕ) (bytes more : ℕ) (objects : List Object)
    → ((object : Object) → number (counted_once object bytes) ≡ raised (number object) more)
    → IsRaised (objects_of objects) path more (number_at number objects) (number_at number (counted_at path bytes objects))
is_raised number path bytes more objects rises = record {
  others = λ other ne. number_is number (counted_at path bytes objects) other
      ∙ others_stay number path other bytes ne objects ∙ sym (number_is number objects other);
  absent = λ none. ap (λ os. number_at number os path) (absent_stays path bytes objects (none_found objects path none));
  held = λ some. number_is number (counted_at path bytes objects) path
      ∙ this_rises number path bytes more rises objects (some_found objects path some)
      ∙ ap (λ n. raised n more) (sym (number_is number objects path));
}

-- an object added where nothing was held is held with its bytes
pub added : (objects : List Object) (object : Object) → object_at (objects_of objects) object.path ≡ None
    → objects_of (objects ++ object ∷ []) ≡ with_object (objects_of objects) object.path object.bytes
added objects object none =
    ap from_entries (map-append entry_of objects (object ∷ []))
    ∙ from_entries_push nat_list_cmp_total (slice_cmp-IsAntisymmetric nat_cmp-IsAntisymmetric) (map entry_of objects) object.path object.bytes
    (sym (get-from_entries nat_list_cmp_total (map entry_of objects) object.path) ∙ none)

-- an object added with a number of 0 changes no number
added_number : (number : Object → ℕ) (objects : List Object) (object : Object) (path : List ℕ) → number object ≡ 0
    → number_in number (objects ++ object ∷ []) path ≡ number_in number objects path
added_number number [] object path none =
    elim (is_at path object) as (λ b. option_map_or number (cond b (Some object) None) 0 ≡ 0) [ true ↦ none | false ↦ refl ]
added_number number (first ∷ objects) object path none =
    elim (is_at path first) as (λ b. option_map_or number (cond b (Some first) (find (is_at path) (objects ++ object ∷ []))) 0
    ≡ option_map_or number (cond b (Some first) (find (is_at path) objects)) 0) [
      | true ↦ refl
      | false ↦ added_number number objects object path none
    ]

-- the same, 0 where nothing is held
pub added_uncounted : (number : Object → ℕ) (objects : List Object) (object : Object) (path : List ℕ) → number object ≡ 0
    → number_at number (objects ++ object ∷ []) path ≡ number_at number objects path
added_uncounted number objects object path none =
    number_is number (objects ++ object ∷ []) path ∙ added_number number objects object path none
    ∙ sym (number_is number objects path)

-- changes of one path alone, by which object is found first at each path
pub sets_in : (path : List ℕ) (found : Option Object) (before now : List Object)
    → option_map_or (λ object. object.asked) found 0 ≡ 0 → option_map_or (λ object. object.moved) found 0 ≡ 0
    → find (is_at path) now ≡ found
    → ((other : List ℕ) → other ≢ path → find (is_at other) now ≡ find (is_at other) before)
    → SetsIn path (option_map (λ object. object.bytes) found) before now
sets_in path found before now unasked unmoved this others = record {
  this = object_at-objects_of now path ∙ ap (option_map (λ object. object.bytes)) this;
  asked = number_is (λ object. object.asked) now path ∙ ap (λ o. option_map_or (λ object. object.asked) o 0) this ∙ unasked;
  moved = number_is (λ object. object.moved) now path ∙ ap (λ o. option_map_or (λ object. object.moved) o 0) this ∙ unmoved;
  others = λ other ne. object_at-objects_of now other ∙ ap (option_map (λ object. object.bytes)) (others other ne) ∙ sym (object_at-objects_of before other);
  others_asked = λ other ne. number_is (λ object. object.asked) now other
      ∙ ap (λ o. option_map_or (λ object. object.asked) o 0) (others other ne) ∙ sym (number_is (λ object. object.asked) before other);
  others_moved = λ other ne. number_is (λ object. object.moved) now other
      ∙ ap (λ o. option_map_or (λ object. object.moved) o 0) (others other ne) ∙ sym (number_is (λ object. object.moved) before other);
}

-- an object at one path isn't at another
pub elsewhere : (path other : List ℕ) (object : Object) → other ≢ path → is_at path object ≡ true → is_at other object ≡ false
elsewhere path other object ne at = by_test (is_at other object) refl
  where
    by_test : (b : Bool) → is_at other object ≡ b → b ≡ false
    by_test true e = absurd (ne ((bytes_eq-Decides other object.path).0 e ∙ sym ((bytes_eq-Decides path object.path).0 at)))
    by_test false e = refl

-- a test that fails at a place before and after finds the same
pub find_written : (p : Object → Bool) (objects : List Object) (i : ℕ) (y d : Object)
    → p (get_or objects i d) ≡ false → p y ≡ false → find p (set objects i y) ≡ find p objects
find_written p [] i y d old new = refl
find_written p (x ∷ objects) zero y d old new = rw (old, new) refl
find_written p (x ∷ objects) (suc i) y d old new =
    ap (cond (p x) (Some x)) (find_written p objects i y d old new)

-- a test that fails at a place finds the same without it
pub find_removed : (p : Object → Bool) (objects : List Object) (i : ℕ) (d : Object)
    → p (get_or objects i d) ≡ false → find p (remove objects i) ≡ find p objects
find_removed p [] zero d old = refl
find_removed p [] (suc i) d old = refl
find_removed p (x ∷ objects) zero d old = rw old refl
find_removed p (x ∷ objects) (suc i) d old = ap (cond (p x) (Some x)) (find_removed p objects i d old)

-- an object added where none was found is found
pub find_added : (p : Object → Bool) (objects : List Object) (y : Object) → find p objects ≡ None → p y ≡ true → find p (objects ++ y ∷ []) ≡ Some y
find_added p objects y none new = find-append p objects (y ∷ []) ∙ (rw none (rw new refl))

-- an object added where the test fails isn't found
pub find_added_other : (p : Object → Bool) (objects : List Object) (y : Object) → p y ≡ false → find p (objects ++ y ∷ []) ≡ find p objects
find_added_other p [] y new = rw new refl
find_added_other p (x ∷ objects) y new = ap (cond (p x) (Some x)) (find_added_other p objects y new)

-- where no place is found no object is
pub no_place : (p : Object → Bool) (objects : List Object) → position p objects ≡ None → find p objects ≡ None
no_place p objects none = find_at p objects ∙ past (nat_lt (position_or_len p objects) (length objects)) refl
  where
    past : (b : Bool) → nat_lt (position_or_len p objects) (length objects) ≡ b → slice_get objects (position_or_len p objects) ≡ None
    past true e = let found = rw e at none in cc
    past false e = slice_get_past objects (position_or_len p objects) (ltb-false _ _ e)

-- the place that is found is within the list, and the object there is at the path
pub place_found : (p : Object → Bool) (objects : List Object) (i : ℕ) (d : Object) → position p objects ≡ Some i
    → (i < length objects) × (p (get_or objects i d) ≡ true)
place_found p objects i d found = let at = position-Some p objects i d found in (at.0, at.1)

-- writing an object of that path at the place found makes it the first one there
pub find_set_here : (p : Object → Bool) (objects : List Object) (i : ℕ) (y : Object) → position p objects ≡ Some i → p y ≡ true
    → find p (set objects i y) ≡ Some y
find_set_here p objects i y found new =
    let at = position-Some p objects i y found in
    find-set p objects i y (place_is (nat_lt (position_or_len p objects) (length objects)) refl) at.0 new
  where
    place_is : (b : Bool) → nat_lt (position_or_len p objects) (length objects) ≡ b → i ≡ position_or_len p objects
    place_is true e = let known = rw e at found in cc
    place_is false e = let known = rw e at found in cc

-- an object that nothing was asked of
abbrev pub new_object : List ℕ → List ℕ → Object
new_object path bytes = record { path = path; bytes = bytes; asked = 0; moved = 0 }

-- a new object is at its path
new_is_at : (path bytes : List ℕ) → is_at path (new_object path bytes) ≡ true
new_is_at path bytes = (bytes_eq-Decides path path).1 refl

-- a new object is at no other path
new_elsewhere : (path bytes other : List ℕ) → other ≢ path → is_at other (new_object path bytes) ≡ false
new_elsewhere path bytes other ne = elsewhere path other (new_object path bytes) ne (new_is_at path bytes)

-- a new object in the place of the one at its path
pub set_written : (path : List ℕ) (before slice : List Object) (i : ℕ) (bytes : List ℕ)
    → slice ≡ before → Some i ≡ position (is_at path) slice
    → SetsIn path (Some bytes) before (set before i (new_object path bytes))
set_written path before slice i bytes same place =
    let found : position (is_at path) before ≡ Some i = ap (position (is_at path)) (sym same) ∙ sym place in
    let here = place_found (is_at path) before i (new_object path bytes) found in
    sets_in path (Some (new_object path bytes)) before _ refl refl
    (find_set_here (is_at path) before i (new_object path bytes) found (new_is_at path bytes))
    (λ other ne. find_written (is_at other) before i (new_object path bytes) (new_object path bytes)
    (elsewhere path other (get_or before i (new_object path bytes)) ne here.1) (new_elsewhere path bytes other ne))

-- a new object at a path where there was none
pub set_added : (path : List ℕ) (before slice now : List Object) (bytes : List ℕ)
    → slice ≡ before → None ≡ position (is_at path) slice → now ≡ before ++ new_object path bytes ∷ []
    → SetsIn path (Some bytes) before now
set_added path before slice now bytes same place is =
    let none = no_place (is_at path) before (ap (position (is_at path)) (sym same) ∙ sym place) in
    sets_in path (Some (new_object path bytes)) before now refl refl
    (ap (find (is_at path)) is ∙ find_added (is_at path) before (new_object path bytes) none (new_is_at path bytes))
    (λ other ne. ap (find (is_at other)) is ∙ find_added_other (is_at other) before (new_object path bytes) (new_elsewhere path bytes other ne))

-- an object taken away from its path leaves those at other paths
pub removed_stay : (path other : List ℕ) (before slice now : List Object) (i : ℕ) (d : Object) → other ≢ path
    → slice ≡ before → Some i ≡ position (is_at path) slice → now ≡ remove before i
    → find (is_at other) now ≡ find (is_at other) before
removed_stay path other before slice now i d ne same place is =
    let here = place_found (is_at path) before i d (ap (position (is_at path)) (sym same) ∙ sym place) in
    ap (find (is_at other)) is ∙ find_removed (is_at other) before i d (elsewhere path other (get_or before i d) ne here.1)

-- a path at which no place is left
pub all_removed : (path : List ℕ) (before slice now : List Object)
    → slice ≡ now → None ≡ position (is_at path) slice
    → ((other : List ℕ) → other ≢ path → find (is_at other) now ≡ find (is_at other) before)
    → SetsIn path None before now
all_removed path before slice now same place others =
    sets_in path None before now refl refl (no_place (is_at path) now (ap (position (is_at path)) (sym same) ∙ sym place)) others

-- the objects after the one at a path was taken away
pub removed : (path : List ℕ) (before now : List Object) → SetsIn path None before now
    → objects_of now ≡ without_object (objects_of before) path
removed path before now sets =
    same_map nat_list_cmp_total (slice_cmp-IsAntisymmetric nat_cmp-IsAntisymmetric) _ _ (λ other.
    at other (bytes_eq other path) refl
    ∙ sym (get-remove nat_list_cmp_total (objects_of before) path other
    ∙ ap (λ b. cond b None (object_at (objects_of before) other)) (sym (texts_ties other path))))
  where
    at : (other : List ℕ) (b : Bool) → bytes_eq other path ≡ b
        → object_at (objects_of now) other ≡ cond (bytes_eq other path) None (object_at (objects_of before) other)
    at other true e =
        let same : other ≡ path = (bytes_eq-Decides other path).0 e in
        rw e (ap (object_at (objects_of now)) same ∙ sets.this)
    at other false e =
        rw e (sets.others other (λ same. let is : bytes_eq other path ≡ true = (bytes_eq-Decides other path).1 same in cc))

-- what was counted of it goes with it, and all else stays
uncounted : (path : List ℕ) (most : ℕ) (before now : List Object) (was is : List ℕ → ℕ) → SetsIn path None before now
    → ((other : List ℕ) → other ≢ path → is other ≡ was other) → is path ≡ 0
    → (object_at (objects_of before) path ≡ None → was path ≡ 0)
    → Uncounts (objects_of before) path most (Some (objects_of now)) was is
uncounted path most before now was is sets others none absent = record {
  others = others;
  stayed = λ same.
      let alike : objects_of now ≡ objects_of before = cc in
      let nothing : object_at (objects_of before) path ≡ None = ap (λ m. object_at m path) (sym alike) ∙ sets.this in
      let before_none = absent nothing in
      record { others = others; absent = λ _. none ∙ sym before_none; later = omega (arith, none, before_none); at_most = omega (arith, none, before_none) };
}

-- the number of calls goes with a removed object
pub uncounted_asked : (path : List ℕ) (before now : List Object) → SetsIn path None before now
    → Uncounts (objects_of before) path 1 (Some (objects_of now)) (asked_in before) (asked_in now)
uncounted_asked path before now sets =
    uncounted path 1 before now (asked_in before) (asked_in now) sets sets.others_asked sets.asked
    (λ none. ap (λ held. option_map_or (λ _. number_in (λ object. object.asked) before path) held 0) none)

-- and so does that of the bytes moved
pub uncounted_moved : (path : List ℕ) (before now : List Object) → SetsIn path None before now
    → Uncounts (objects_of before) path 0 (Some (objects_of now)) (moved_in before) (moved_in now)
uncounted_moved path before now sets =
    uncounted path 0 before now (moved_in before) (moved_in now) sets sets.others_moved sets.moved
    (λ none. ap (λ held. option_map_or (λ _. number_in (λ object. object.moved) before path) held 0) none)

-- what was found among the objects behind a place tells whether a path is held there
pub held_behind : {A : Type 0} (f : A → List ℕ) (found : Option A) (objects : List Object) (n : ℕ) (path : List ℕ) (b : Bool)
    → option_map f found ≡ object_at (objects_of (take (length objects - n) (drop n objects))) path
    → is_some found ≡ b → is_some (object_at (objects_of (drop n objects)) path) ≡ b
held_behind f found objects n path b is tested =
    ap (λ rest. is_some (object_at (objects_of rest) path)) (sym (take_all (length objects - n) (drop n objects) (omega (arith, length-drop n objects))))
    ∙ ap is_some (sym is) ∙ mapped f found b tested
  where
    mapped : {A : Type 0} (f : A → List ℕ) (found : Option A) (b : Bool) → is_some found ≡ b → is_some (option_map f found) ≡ b
    mapped f None b e = e
    mapped f (Some a) b e = e

-- counted from the front: a path counts where no later object is at it
pub paths_from : (objects : List Object) (i n count : ℕ) (object : Object) (held : Bool) → n ≡ suc i → i < length objects
    → count + len (objects_of (drop i objects)) ≡ len (objects_of objects) → object ≡ get_or objects i object
    → is_some (object_at (objects_of (drop n objects)) object.path) ≡ held
    → cond held count (count + 1) + len (objects_of (drop n objects)) ≡ len (objects_of objects)
paths_from objects i n count object held next within so_far is here =
    let split : drop i objects ≡ object ∷ drop n objects =
    drop-cons objects i object within ∙ ap (λ o. o ∷ drop (suc i) objects) (sym is) ∙ ap (λ k. object ∷ drop k objects) (sym next) in
    let rest = objects_of (drop n objects) in
    let more : len (objects_of (drop i objects)) ≡ cond (is_some (object_at rest object.path)) (len rest) (len rest + 1) =
    ap (λ os. len (objects_of os)) split ∙ len-insert nat_list_cmp_total rest object.path object.bytes in
    by_held held (sym so_far ∙ ap (λ k. count + k) (more ∙ ap (λ b. cond b (len rest) (len rest + 1)) here))
  where
    by_held : (b : Bool) → len (objects_of objects) ≡ count + cond b (len (objects_of (drop n objects))) (len (objects_of (drop n objects)) + 1)
        → cond b count (count + 1) + len (objects_of (drop n objects)) ≡ len (objects_of objects)
    by_held true e = sym e
    by_held false e = omega (arith, e)

-- past the last object all paths are counted
pub no_paths_left : (objects : List Object) (i count : ℕ) → length objects ≤ i
    → count + len (objects_of (drop i objects)) ≡ len (objects_of objects) → count ≡ len (objects_of objects)
no_paths_left objects i count past so_far =
    let none : len (objects_of (drop i objects)) ≡ 0 =
    ap (λ os. len (objects_of os)) (drop_all i objects past) ∙ len-empty (slice_cmp nat_cmp) (List ℕ) in
    omega (arith, none, so_far)
