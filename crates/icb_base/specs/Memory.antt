-- The store in memory: its objects in the order in which they were put, and what the calls' plan
-- says.
use Rattle.std.specs.Prelude.{ℕ, ◌≡◌, ◌≢◌, Bool, if◌then◌else◌, List, [], ◌∷◌, map, find, Option}
use Rattle.std.specs.Option.{option_map_or}
use Rattle.std.specs.Str.{bytes_eq}
use Rattle.std.specs.FinMap as finite
use Rattle.icb_base.specs.declared.memory_objects.Object.{Object}
use Rattle.icb_base.specs.Objects.{Objects, object_at}
use Rattle.icb_base.specs.Counts.{raised}

-- the object is at this path
abbrev pub is_at : List ℕ → Object → Bool
is_at path object = bytes_eq path object.path

-- the objects by path
abbrev pub objects_of : List Object → Objects
objects_of objects = finite.from_entries (map (λ object. (object.path, object.bytes)) objects)

-- a number of the first object at a path, if something is held there, and else 0
abbrev pub number_found : (Object → ℕ) → List Object → List ℕ → Option (List ℕ) → ℕ
number_found number objects path held =
    option_map_or (λ _. option_map_or number (find (is_at path) objects) 0) held 0

-- a number of the first object at a path, 0 where nothing is held there
abbrev pub number_at : (Object → ℕ) → List Object → List ℕ → ℕ
number_at number objects path =
    number_found number objects path (object_at (objects_of objects) path)

-- how many calls asked for a path
abbrev pub asked_in : List Object → List ℕ → ℕ
asked_in objects path = number_at (λ object. object.asked) objects path

-- how many bytes were moved at a path
abbrev pub moved_in : List Object → List ℕ → ℕ
moved_in objects path = number_at (λ object. object.moved) objects path

-- an object with one more call counted, and so many bytes more moved
abbrev pub counted_once : Object → ℕ → Object
counted_once object bytes =
    record object { asked = raised object.asked 1; moved = raised object.moved bytes }

-- the objects with a call counted on the first one at a path
abbrev pub counted_at : List ℕ → ℕ → List Object → List Object
counted_at path bytes [] = []
counted_at path bytes (object ∷ objects) =
    if is_at path object then counted_once object bytes ∷ objects
    else object ∷ counted_at path bytes objects

-- one path holds these bytes with nothing counted, or nothing where none are given, and every other
-- path is as before
pub record SetsIn (path : List ℕ) (object : Option (List ℕ))
    (before now : List Object) : Type 0 where
  pub this : object_at (objects_of now) path ≡ object
  pub asked : asked_in now path ≡ 0
  pub moved : moved_in now path ≡ 0
  pub others : (other : List ℕ) → other ≢ path
      → object_at (objects_of now) other ≡ object_at (objects_of before) other
  pub others_asked : (other : List ℕ) → other ≢ path → asked_in now other ≡ asked_in before other
  pub others_moved : (other : List ℕ) → other ≢ path → moved_in now other ≡ moved_in before other
