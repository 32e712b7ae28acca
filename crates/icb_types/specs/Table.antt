-- The Avro schema of a table's rows (Apache Iceberg Table Spec, "Appendix A: Format-specific
-- Requirements", Avro; the names of types are ours).
use Rattle.std.specs.Prelude.{ℕ, ℤ, List, ◌++◌, codes, map, Bool, true, false}
use Rattle.std.specs.Prelude.{Some, None, if◌then◌else◌}
use Rattle.std.specs.Fmt.{signed_decimal}
use Rattle.icb_schema.specs.Tree as tree
use Rattle.icb_schema.specs.Tree.{Tree, Form}
use Rattle.icb_schema.specs.Nodes.{Part, fields_of}
use Rattle.icb_types.specs.declared.columns.ColType.{ColType}
use Rattle.icb_types.specs.declared.columns.ColType.TheVariants as kind
use Rattle.icb_types.specs.declared.columns.Column.{Column}

-- a node without attributes
abbrev pub bare : Form → Tree
bare form = tree.node form None None

-- a node with a logical type
abbrev pub logical : Form → List ℕ → Tree
logical form name = tree.node form (Some name) None

-- a timestamp, and whether it is in UTC
abbrev pub timestamp : Bool → Tree
timestamp utc = tree.node (tree.primitive tree.long) (Some (codes "timestamp-micros")) (Some utc)

-- the name of a column's type of its own: a word and the column's id in decimal
abbrev pub type_name : List ℕ → ℤ → List ℕ
type_name word id = word ++ signed_decimal id

-- the type of a column's values, by the column's id and kind
abbrev pub kind_tree : ℤ → ColType → Tree
kind_tree id kind.Boolean = bare (tree.primitive tree.boolean)
kind_tree id kind.Int = bare (tree.primitive tree.int)
kind_tree id kind.Long = bare (tree.primitive tree.long)
kind_tree id kind.Date = logical (tree.primitive tree.int) (codes "date")
kind_tree id kind.Time = logical (tree.primitive tree.long) (codes "time-micros")
kind_tree id kind.Timestamp = timestamp false
kind_tree id kind.TimestampTz = timestamp true
kind_tree id kind.Text = bare (tree.primitive tree.text)
kind_tree id kind.Uuid =
    logical (tree.fixed (type_name (codes "uuid_fixed_") id) 16) (codes "uuid")
kind_tree id (kind.Fixed size) = bare (tree.fixed (type_name (codes "fixed_") id) size)
kind_tree id kind.Binary = bare (tree.primitive tree.bytes)

-- null, or a value of this type
abbrev pub or_null : Tree → Tree
or_null t = bare (tree.union
    (tree.branch (bare (tree.primitive tree.null)) (tree.branch t tree.no_trees)))

-- the type of a column, which may be null where it isn't required
abbrev pub column_tree : Column → Tree
column_tree c = if c.required then kind_tree c.id c.kind else or_null (kind_tree c.id c.kind)

-- the field of a column, with its name and id
abbrev pub column_part : Column → Part
column_part c = (c.name, Some c.id, column_tree c)

-- the record `table`, with a field for each column
unfoldable pub table_tree : List Column → Tree
table_tree columns = bare (tree.fields (codes "table") (fields_of (map column_part columns)))
