-- The objects of a store, by path, and what its calls answer and change (ours:
-- docs/ARCHITECTURE.md, "The store").
use Rattle.std.specs.Prelude.{ℕ, ◌≡◌, ◌⊎◌, List, ◌++◌, length, take, drop, Bool, Option, Some, None}
use Rattle.std.specs.Prelude.{Result, Ok, Err, MatchOption, IsSome, is_some}
use Rattle.std.specs.Ordering.{nat_cmp}
use Rattle.std.specs.Cmp.Lexicographic.{slice_cmp}
use Rattle.std.specs.FinMap as map
use Rattle.icb_base.specs.declared.storage.Failed.{Failed}
use Rattle.icb_base.specs.declared.storage.Put.{Put}
use Rattle.icb_base.specs.declared.storage.Put.TheVariants.{Done, Taken}

-- what a store holds: from the bytes of a path to the bytes of the object there
abbrev pub Objects : Type 0
Objects = map.FinMap (slice_cmp nat_cmp) (List ℕ)

-- the object at a path, or none
abbrev pub object_at : Objects → List ℕ → Option (List ℕ)
object_at files path = map.get files path

-- the objects with one more put at a path
abbrev pub with_object : Objects → List ℕ → List ℕ → Objects
with_object files path bytes = map.insert files path bytes

-- the objects without the one at a path
abbrev pub without_object : Objects → List ℕ → Objects
without_object files path = map.remove files path

-- at most this many bytes of an object from a place on; fewer where it ends, none past its end
abbrev pub part_of : ℕ → ℕ → List ℕ → List ℕ
part_of at most object = take most (drop at object)

-- a read answers none exactly where nothing is held, and else how many bytes of the object it put
-- in front of the buffer
abbrev pub Reads : Option (List ℕ) → ℕ → List ℕ → List ℕ → Option ℕ → Type 0
Reads object at before after answer =
    MatchOption object ((answer ≡ None) × (after ≡ before)) (λ bytes.
    let read = part_of at (length before) bytes in
    (answer ≡ Some (length read)) × (after ≡ read ++ drop (length read) before))

-- what a put answers and leaves: taken where the path is held, else the object is held, or after a
-- failure perhaps not
abbrev pub Puts : Objects → List ℕ → List ℕ → Option Objects → Result Put Failed → Type 0
Puts files path bytes now (Ok Taken) = IsSome (object_at files path) × (now ≡ Some files)
Puts files path bytes now (Ok Done) =
    (object_at files path ≡ None) × (now ≡ Some (with_object files path bytes))
Puts files path bytes now (Err failed) =
    (now ≡ Some files)
    ⊎ ((object_at files path ≡ None) × (now ≡ Some (with_object files path bytes)))

-- a removal answers whether the path was held, and it is held no more; a failed one may have taken
-- place
abbrev pub Removes : Objects → List ℕ → Option Objects → Result Bool Failed → Type 0
Removes files path now (Ok was) =
    (was ≡ is_some (object_at files path)) × (now ≡ Some (without_object files path))
Removes files path now (Err failed) = (now ≡ Some files) ⊎ (now ≡ Some (without_object files path))

-- a store only grew: each object that was held is held, with the same bytes
pub record Grows (before now : Objects) : Type 0 where
  pub stays : (path bytes : List ℕ) → object_at before path ≡ Some bytes
      → object_at now path ≡ Some bytes
