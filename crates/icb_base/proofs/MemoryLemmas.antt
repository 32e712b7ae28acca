-- What the objects of the store in memory answer: looked up and counted.
use Rattle.std.specs.Prelude.{ℕ, ◌≡◌, true, false, cond, List, [], ◌∷◌, map, find, Option, Some, None, option_map, IsSome, refl}
use Rattle.std.proofs.Common.{sym, ◌∙◌, ap}
use Rattle.std.specs.Str.{bytes_eq}
use Rattle.std.specs.Option.{option_map_or}
use Rattle.std.specs.Ordering.{nat_cmp}
use Rattle.std.specs.Cmp.Lexicographic.{slice_cmp, texts_ties, nat_list_cmp_total}
use Rattle.std.specs.FinMap as finite
use Rattle.icb_base.specs.declared.memory_objects.Object.{Object}
use Rattle.icb_base.specs.Objects.{object_at}
use Rattle.icb_base.specs.Memory.{is_at, objects_of, counted_at, counted_once, number_at}

-- an object as an entry of the map
abbrev pub entry_of : Object → List ℕ × List ℕ
entry_of object = (object.path, object.bytes)

-- the first entry with a path is the first object there
entry_found : (objects : List Object) (path : List ℕ)
    → finite.find (slice_cmp nat_cmp) path (map entry_of objects) ≡ option_map (λ object. object.bytes) (find (is_at path) objects)
entry_found [] path = refl
entry_found (object ∷ objects) path =
    rw (← texts_ties path object.path)
    (elim (bytes_eq path object.path) as (λ b. cond b (Some object.bytes) (finite.find (slice_cmp nat_cmp) path (map entry_of objects))
    ≡ option_map (λ object. object.bytes) (cond b (Some object) (find (is_at path) objects))) [
      | true ↦ refl
      | false ↦ entry_found objects path
    ])

-- the bytes at a path are those of the first object there
pub object_at-objects_of : (objects : List Object) (path : List ℕ)
    → object_at (objects_of objects) path ≡ option_map (λ object. object.bytes) (find (is_at path) objects)
object_at-objects_of objects path = finite.get-from_entries nat_list_cmp_total (map entry_of objects) path ∙ entry_found objects path

-- where no object is found nothing was counted
pub none_found : (objects : List Object) (path : List ℕ) → object_at (objects_of objects) path ≡ None → find (is_at path) objects ≡ None
none_found objects path none =
    let mapped = sym (object_at-objects_of objects path) ∙ none in
    elim (find (is_at path) objects) as (λ found. option_map (λ object. object.bytes) found ≡ None → found ≡ None) [
      | None ↦ λ e. refl
      | Some object ↦ λ e. cc
    ] mapped

-- a number of the first object at a path, 0 where there is none
abbrev pub number_in : (Object → ℕ) → List Object → List ℕ → ℕ
number_in number objects path = option_map_or number (find (is_at path) objects) 0

-- where nothing is held no object is found, so the two numbers are one
pub number_is : (number : Object → ℕ) (objects : List Object) (path : List ℕ) → number_at number objects path ≡ number_in number objects path
number_is number objects path = by_held (object_at (objects_of objects) path) refl
  where
    by_held : (o : Option (List ℕ)) → object_at (objects_of objects) path ≡ o
        → option_map_or (λ _. number_in number objects path) o 0 ≡ number_in number objects path
    by_held None e = rw (none_found objects path e) refl
    by_held (Some bytes) e = refl

-- where an object is held one is found
pub some_found : (objects : List Object) (path : List ℕ) → IsSome (object_at (objects_of objects) path) → IsSome (find (is_at path) objects)
some_found objects path some =
    let mapped = rw (object_at-objects_of objects path) at some in
    elim (find (is_at path) objects) as (λ found. IsSome (option_map (λ object. object.bytes) found) → IsSome found) [
      | None ↦ λ e. e
      | Some object ↦ λ e. refl
    ] mapped

-- counting a call leaves the objects as they were
pub objects_of-counted_at : (path : List ℕ) (bytes : ℕ) (objects : List Object)
    → objects_of (counted_at path bytes objects) ≡ objects_of objects
objects_of-counted_at path bytes objects = ap finite.from_entries (same_entries objects)
  where
    same_entries : (objects : List Object) → map entry_of (counted_at path bytes objects) ≡ map entry_of objects
    same_entries [] = refl
    same_entries (object ∷ objects) =
        elim (is_at path object) as (λ b. map entry_of (cond b (counted_once object bytes ∷ objects) (object ∷ counted_at path bytes objects))
        ≡ entry_of object ∷ map entry_of objects) [
          | true ↦ refl
          | false ↦ ap (λ entries. entry_of object ∷ entries) (same_entries objects)
        ]
