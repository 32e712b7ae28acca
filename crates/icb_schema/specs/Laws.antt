-- The laws of the definitions. Each is the contract of a function of `src/laws.rt`.
use Rattle.std.specs.Prelude.{◌≡◌, ◌<◌, ℕ, List, true, Ok, Some}
use Rattle.std.specs.FinMap as finite
use Rattle.serde_json.specs.Data.{Data, depth as nesting}
use Rattle.icb_schema.specs.Tree.{Tree}
use Rattle.icb_schema.specs.Shape.{shape, arrays_take_bytes}
use Rattle.icb_schema.specs.Reading.{Scope, Seen, json_levels, name_of, nothing, outermost}
use Rattle.icb_schema.specs.Reading.{schema_at, schema_in}
use Rattle.icb_schema.specs.Rules.{is_schema, types_of, HaveOneForm}

-- a JSON value is read alike with any number of levels that is more than it nests
abbrev pub LevelsAreEnough : Type 0
LevelsAreEnough = (n m depth : ℕ) (scope : Scope) (d : Data) (seen : Seen)
    → nesting d < n → nesting d < m
    → schema_at n depth scope d seen ≡ schema_at m depth scope d seen

-- no array of a schema has items that take no bytes
abbrev pub ArraysTakeBytes : Type 0
ArraysTakeBytes = (t : Tree) → is_schema t ≡ true → arrays_take_bytes (shape t) ≡ true

-- in a schema that is read types of one name have one form
abbrev pub ReferencesAreTheirTypes : Type 0
ReferencesAreTheirTypes = (d : Data) (t : Tree) → schema_in d ≡ Ok t → HaveOneForm (types_of t)

-- what a reading ends with knows each type by the type's own full name, by which references find it
abbrev pub TypesAreKnownByName : Type 0
TypesAreKnownByName = (d : Data) (t : Tree) (after : Seen)
    → schema_at json_levels 1 outermost d nothing ≡ Ok (t, after)
    → (name : List ℕ) (known : Tree) → finite.get after.types name ≡ Some known
    → name_of known ≡ Some name
