-- A node's shape, level by level. The crates above cite these.
use Rattle.std.specs.Prelude.{◌≡◌, ℕ, ℤ, List, [], ◌∷◌, length, map, Option, refl}
use Rattle.std.proofs.Common.{◌∙◌, ap}
use Rattle.icb_schema.specs.Tree as tree
use Rattle.icb_schema.specs.Nodes.{tree_of, fields_of, trees_of, part_of}
use Rattle.icb_schema.specs.Shape.{shape, form_shape, fields_shapes, trees_shapes, shape_of, shape_of_kind, shapes_of, primitive, fixed, enumeration, fields, array, map_of, union, shape_then}
use Rattle.icb_schema.specs.declared.node.Node.{Node}
use Rattle.icb_schema.specs.declared.node.Field.{Field}
use Rattle.icb_schema.specs.declared.node.Kind.TheVariants as kind
use Rattle.icb_schema.proofs.TreeLemmas as nodes

-- the shape of a node is its kind's
pub shape_of_node : (n : Node) → shape_of n ≡ shape_of_kind n.kind
shape_of_node n = ap shape (nodes.tree_of_node n)

shapes_of_parts : (fs : List Field) → fields_shapes (fields_of (map part_of fs)) ≡ shapes_of (map (λ f. shape_of f.node) fs)
shapes_of_parts [] = refl
shapes_of_parts (f ∷ fs) = ap (shape_then (shape_of f.node)) (shapes_of_parts fs)

shapes_of_trees : (ns : List Node) → trees_shapes (trees_of (map tree_of ns)) ≡ shapes_of (map shape_of ns)
shapes_of_trees [] = refl
shapes_of_trees (n ∷ ns) = ap (shape_then (shape_of n)) (shapes_of_trees ns)

-- the shape of the kind null
pub shape_of_null : shape_of_kind kind.Null ≡ primitive tree.null
shape_of_null = ap form_shape nodes.form_of_null

-- the shape of the kind boolean
pub shape_of_boolean : shape_of_kind kind.Boolean ≡ primitive tree.boolean
shape_of_boolean = ap form_shape nodes.form_of_boolean

-- the shape of the kind int
pub shape_of_int : shape_of_kind kind.Int ≡ primitive tree.int
shape_of_int = ap form_shape nodes.form_of_int

-- the shape of the kind long
pub shape_of_long : shape_of_kind kind.Long ≡ primitive tree.long
shape_of_long = ap form_shape nodes.form_of_long

-- the shape of the kind float
pub shape_of_float : shape_of_kind kind.Float ≡ primitive tree.float
shape_of_float = ap form_shape nodes.form_of_float

-- the shape of the kind double
pub shape_of_double : shape_of_kind kind.Double ≡ primitive tree.double
shape_of_double = ap form_shape nodes.form_of_double

-- the shape of the kind bytes
pub shape_of_bytes : shape_of_kind kind.Bytes ≡ primitive tree.bytes
shape_of_bytes = ap form_shape nodes.form_of_bytes

-- the shape of the kind text
pub shape_of_text : shape_of_kind kind.Text ≡ primitive tree.text
shape_of_text = ap form_shape nodes.form_of_text

-- the shape of the kind fixed
pub shape_of_fixed : (name : List ℕ) (size : ℕ) → shape_of_kind (kind.Fixed name size) ≡ fixed size
shape_of_fixed name size = ap form_shape (nodes.form_of_fixed name size)

-- the shape of the kind enum
pub shape_of_enum : (name : List ℕ) (symbols : List (List ℕ)) → shape_of_kind (kind.Enum name symbols) ≡ enumeration (length symbols)
shape_of_enum name symbols = ap form_shape (nodes.form_of_enum name symbols)

-- the shape of the kind record
pub shape_of_record : (name : List ℕ) (fs : List Field) → shape_of_kind (kind.Record name fs) ≡ fields (shapes_of (map (λ f. shape_of f.node) fs))
shape_of_record name fs = ap form_shape (nodes.form_of_record name fs) ∙ ap fields (shapes_of_parts fs)

-- the shape of the kind array
pub shape_of_array : (items : Node) (element : Option ℤ) → shape_of_kind (kind.Array items element) ≡ array (shape_of items)
shape_of_array items element = ap form_shape (nodes.form_of_array items element)

-- the shape of the kind map
pub shape_of_map : (values : Node) (key value : Option ℤ) → shape_of_kind (kind.Map values key value) ≡ map_of (shape_of values)
shape_of_map values key value = ap form_shape (nodes.form_of_map values key value)

-- the shape of the kind union
pub shape_of_union : (branches : List Node) → shape_of_kind (kind.Union branches) ≡ union (shapes_of (map shape_of branches))
shape_of_union branches = ap form_shape (nodes.form_of_union branches) ∙ ap union (shapes_of_trees branches)
