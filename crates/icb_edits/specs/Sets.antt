-- What an edit does to the members of a JSON object.
use Rattle.std.specs.Prelude.{List, [], ◌∷◌, ℕ, Option, Some, None, bytes_eq, if◌then◌else◌}
use Rattle.std.specs.Option.{option_or}
use Rattle.serde_json.specs.Data as json
use Rattle.serde_json.specs.Data.{Data, Members}

-- members by their names; where there is no value the member stays as it is
abbrev pub Sets : Type 0
Sets = List (List ℕ × Option Data)

-- a member set, or left as it is
abbrev pub set_one : List ℕ → Option Data → Members → Members
set_one name None ms = ms
set_one name (Some d) ms = json.put name d ms

-- all of them set
abbrev pub set_all : Sets → Members → Members
set_all [] ms = ms
set_all (s ∷ sets) ms = set_one s.0 s.1 (set_all sets ms)

-- the object of these members
abbrev pub object_of : Sets → Data
object_of sets = json.object (set_all sets json.no_members)

-- the value that a name has after them, where it had this one before
abbrev pub value_after : List ℕ → Sets → Option Data → Option Data
value_after name [] before = before
value_after name (s ∷ sets) before =
    if bytes_eq name s.0 then option_or s.1 (value_after name sets before)
    else value_after name sets before
