-- The JSON of a table's schema (Apache Iceberg Table Spec, "Appendix C: JSON serialization",
-- Schemas, and its table of the types' words).
use Rattle.std.specs.Prelude.{ℕ, List, [], ◌∷◌, ◌++◌, codes}
use Rattle.std.specs.Fmt.{decimal}
use Rattle.serde_json.specs.Data as json
use Rattle.serde_json.specs.Data.{Data, Items, Members, put}
use Rattle.serde_json.specs.Written.{compact_text}
use Rattle.icb_types.specs.declared.columns.ColType.{ColType}
use Rattle.icb_types.specs.declared.columns.ColType.TheVariants as kind
use Rattle.icb_types.specs.declared.columns.Column.{Column}
use Rattle.icb_types.specs.declared.columns.TableSchema.{TableSchema}
use Rattle.icb_types.specs.Lines.{number_json}

-- the word that names a type
abbrev pub type_word : ColType → List ℕ
type_word kind.Boolean = codes "boolean"
type_word kind.Int = codes "int"
type_word kind.Long = codes "long"
type_word kind.Date = codes "date"
type_word kind.Time = codes "time"
type_word kind.Timestamp = codes "timestamp"
type_word kind.TimestampTz = codes "timestamptz"
type_word kind.Text = codes "string"
type_word kind.Uuid = codes "uuid"
type_word (kind.Fixed size) = codes "fixed[" ++ decimal size ++ codes "]"
type_word kind.Binary = codes "binary"

-- the members of a column
abbrev pub column_members : Column → Members
column_members c = put (codes "type") (json.string (type_word c.kind))
    (put (codes "required") (json.boolean c.required)
    (put (codes "name") (json.string c.name)
    (put (codes "id") (number_json c.id) json.no_members)))

-- a column
unfoldable pub column_json : Column → Data
column_json c = json.object (column_members c)

-- columns, in order
abbrev pub columns_json : List Column → Items
columns_json [] = json.no_items
columns_json (c ∷ cs) = json.item (column_json c) (columns_json cs)

-- the members of a schema
abbrev pub schema_members : TableSchema → Members
schema_members s = put (codes "type") (json.string (codes "struct"))
    (put (codes "fields") (json.array (columns_json s.columns))
    (put (codes "schema-id") (number_json s.id) json.no_members))

-- a schema
unfoldable pub schema_json : TableSchema → Data
schema_json s = json.object (schema_members s)

-- its text: compact JSON with the keys in the order of their bytes
abbrev pub schema_text : TableSchema → List ℕ
schema_text s = compact_text (schema_json s)
