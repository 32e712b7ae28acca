-- The schemas and values that are written (Apache Iceberg Table Spec, "Appendix A: Format-specific
-- Requirements", Avro; the names of inner types are those of its other writers).
use Rattle.std.specs.Prelude.{ℕ, ℤ, List, [], ◌∷◌, ◌++◌, codes, Option, Some, None}
use Rattle.std.specs.Borrow.{Bor}
use Rattle.std.specs.Fmt.{signed_decimal}
use Rattle.icb_schema.specs.Tree as tree
use Rattle.icb_schema.specs.Tree.{Tree, Form}
use Rattle.icb_schema.specs.Nodes.{Part, fields_of}
use Rattle.icb_avro.specs.declared.value.Value.{Value}
use Rattle.icb_avro.specs.declared.value.Value.TheVariants as value
use Rattle.icb_fields.specs.declared.making.Written.{Written}
use Rattle.icb_fields.specs.declared.making.Written.TheVariants as written

-- ---- schemas

-- a node without attributes
abbrev pub bare : Form → Tree
bare form = tree.node form None None

-- a primitive type
abbrev pub primitive : tree.Primitive → Tree
primitive p = bare (tree.primitive p)

-- null, or a value of this type
abbrev pub or_null : Tree → Tree
or_null t = bare (tree.union (tree.branch (primitive tree.null) (tree.branch t tree.no_trees)))

-- a record of these fields
abbrev pub record_tree : List ℕ → List Part → Tree
record_tree name parts = bare (tree.fields name (fields_of parts))

-- the name of the record of a key and a value
abbrev pub pair_name : ℤ → ℤ → List ℕ
pair_name key value = codes "k" ++ signed_decimal key ++ codes "_v" ++ signed_decimal value

-- a map whose keys are whole numbers: an array of records of a key and a value
abbrev pub pairs_tree : ℤ → ℤ → Tree → Tree
pairs_tree key value t = tree.node (tree.array (record_tree (pair_name key value)
    ((codes "key", Some key, primitive tree.int) ∷ (codes "value", Some value, t) ∷ [])) None)
    (Some (codes "map")) None

-- the type of a field that is written
abbrev pub written_tree : Written → Tree
written_tree written.Int = primitive tree.int
written_tree written.Long = primitive tree.long
written_tree written.Text = primitive tree.text
written_tree written.LongOrNull = or_null (primitive tree.long)
written_tree written.BytesOrNull = or_null (primitive tree.bytes)
written_tree (written.LongsByInt key value) = or_null (pairs_tree key value (primitive tree.long))
written_tree (written.BytesByInt key value) = or_null (pairs_tree key value (primitive tree.bytes))

-- a field that is written: its name, its id and its type
abbrev pub slot_part : Bor (List ℕ) × ℤ × Written → Part
slot_part s = (s.0.now, Some s.1, written_tree s.2)

-- ---- values

-- null, or this value
abbrev pub optional : Option Value → Value
optional None = value.Union 0 value.Null
optional (Some v) = value.Union 1 v
