-- The text of a schema (Apache Avro 1.11, "Schema Declaration"): compact JSON with the keys in the
-- order of their bytes. Names of types are full names (Apache Avro 1.11, "Names").
use Rattle.std.specs.Prelude.{ℕ, ℤ, List, [], ◌∷◌, codes, Bool, true, false, not, ◌&&◌}
use Rattle.std.specs.Prelude.{if◌then◌else◌, Option, Some, None, option_map}
use Rattle.serde_json.specs.Data as json
use Rattle.serde_json.specs.Data.{Data, Items, Members, put}
use Rattle.serde_json.specs.Find.{of_integer}
use Rattle.serde_json.specs.Written.{compact_text}
use Rattle.icb_schema.specs.Tree as tree
use Rattle.icb_schema.specs.Tree.{Primitive, Tree, Form, Fields, Trees}
use Rattle.icb_schema.specs.Names.{has_dot}

-- the members, with one more where there is a value
abbrev pub with_member : List ℕ → Option Data → Members → Members
with_member key None ms = ms
with_member key (Some d) ms = put key d ms

-- the name of a primitive type
abbrev pub primitive_name : Primitive → List ℕ
primitive_name tree.null = codes "null"
primitive_name tree.boolean = codes "boolean"
primitive_name tree.int = codes "int"
primitive_name tree.long = codes "long"
primitive_name tree.float = codes "float"
primitive_name tree.double = codes "double"
primitive_name tree.bytes = codes "bytes"
primitive_name tree.text = codes "string"

-- the members, with the attributes that are there
abbrev pub attributed : Option (List ℕ) → Option Bool → Members → Members
attributed logical utc ms =
    with_member (codes "adjust-to-utc") (option_map json.boolean utc)
    (with_member (codes "logicalType") (option_map json.string logical) ms)

-- the members of an object with this `type`
abbrev pub of_type : Data → Members
of_type d = with_member (codes "type") (Some d) json.no_members

-- a name or an array, and with attributes an object
abbrev pub plain : Data → Option (List ℕ) → Option Bool → Data
plain d None None = d
plain d (Some logical) utc = json.object (attributed (Some logical) utc (of_type d))
plain d None (Some utc) = json.object (attributed None (Some utc) (of_type d))

-- an id
abbrev pub id_json : ℤ → Data
id_json z = json.number (of_integer z)

-- a name without a dot in a record whose name has one
abbrev pub outside : Bool → List ℕ → Bool
outside dotted name = dotted && not (has_dot name)

-- the members, with a full name; one without a dot stands in the empty namespace
abbrev pub with_name : Bool → List ℕ → Members → Members
with_name dotted name ms = with_member (codes "name") (Some (json.string name))
    (with_member (codes "namespace")
    (if outside dotted name then Some (json.string []) else None) ms)

-- texts
abbrev pub texts_json : List (List ℕ) → Items
texts_json [] = json.no_items
texts_json (s ∷ ss) = json.item (json.string s) (texts_json ss)

-- the form of a node of kind null
abbrev pub is_null_form : Form → Bool
is_null_form (tree.primitive tree.null) = true
is_null_form f = false

-- a node of kind null
abbrev pub is_null_tree : Tree → Bool
is_null_tree (tree.node form logical utc) = is_null_form form

-- the form of such a union
abbrev pub form_begins_with_null : Form → Bool
form_begins_with_null (tree.union (tree.branch t ts)) = is_null_tree t
form_begins_with_null f = false

-- a union whose first branch is null
abbrev pub begins_with_null : Tree → Bool
begins_with_null (tree.node form logical utc) = form_begins_with_null form

-- a field whose value may be null is null where it is left out
abbrev pub default_json : Tree → Option Data
default_json t = if begins_with_null t then Some json.null else None

-- a field
abbrev pub field_json : List ℕ → Option ℤ → Option Data → Data → Data
field_json name id default d =
    json.object (with_member (codes "default") default
    (with_member (codes "field-id") (option_map id_json id)
    (with_member (codes "name") (Some (json.string name)) (of_type d))))

abbrev mutual
  -- The JSON of a schema. `dotted` says that the full name of the nearest enclosing record has a
  -- dot.
  pub json_of : Bool → Tree → Data
  json_of dotted (tree.node form logical utc) = form_json dotted form logical utc

  -- the JSON of a node with this form and these attributes
  pub form_json : Bool → Form → Option (List ℕ) → Option Bool → Data
  form_json dotted (tree.primitive p) logical utc =
      plain (json.string (primitive_name p)) logical utc
  form_json dotted (tree.fixed name size) logical utc =
      json.object (attributed logical utc (with_name dotted name
      (with_member (codes "size") (Some (json.number (json.unsigned size)))
      (of_type (json.string (codes "fixed"))))))
  form_json dotted (tree.enumeration name symbols) logical utc =
      json.object (attributed logical utc (with_name dotted name
      (with_member (codes "symbols") (Some (json.array (texts_json symbols)))
      (of_type (json.string (codes "enum"))))))
  form_json dotted (tree.fields name fs) logical utc =
      json.object (attributed logical utc
      (with_member (codes "fields") (Some (json.array (fields_json (has_dot name) fs)))
      (with_name dotted name (of_type (json.string (codes "record"))))))
  form_json dotted (tree.array items element) logical utc =
      json.object (attributed logical utc
      (with_member (codes "element-id") (option_map id_json element)
      (with_member (codes "items") (Some (json_of dotted items))
      (of_type (json.string (codes "array"))))))
  form_json dotted (tree.map values key value) logical utc =
      json.object (attributed logical utc
      (with_member (codes "key-id") (option_map id_json key)
      (with_member (codes "value-id") (option_map id_json value)
      (with_member (codes "values") (Some (json_of dotted values))
      (of_type (json.string (codes "map")))))))
  form_json dotted (tree.union ts) logical utc =
      plain (json.array (trees_json dotted ts)) logical utc

  -- the fields, in order
  pub fields_json : Bool → Fields → Items
  fields_json dotted tree.no_fields = json.no_items
  fields_json dotted (tree.field name id t fs) =
      json.item (field_json name id (default_json t) (json_of dotted t)) (fields_json dotted fs)

  -- the branches, in order
  pub trees_json : Bool → Trees → Items
  trees_json dotted tree.no_trees = json.no_items
  trees_json dotted (tree.branch t ts) = json.item (json_of dotted t) (trees_json dotted ts)

-- the text of a schema
unfoldable pub text_of : Tree → List ℕ
text_of t = compact_text (json_of false t)
