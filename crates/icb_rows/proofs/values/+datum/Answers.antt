use Rattle.std.proofs.Common.{length, map, arith}
use Rattle.icb_schema.specs.Shape.{shape_of, shapes_of}
use Rattle.icb_schema.proofs.ShapeLemmas.{shape_of_node, shape_of_null, shape_of_boolean, shape_of_int, shape_of_long, shape_of_float, shape_of_double, shape_of_bytes, shape_of_text, shape_of_fixed, shape_of_enum, shape_of_record, shape_of_array, shape_of_map, shape_of_union}
use Rattle.icb_avro.specs.declared.value.Value.TheOpen.{Value-F}
use Rattle.icb_avro.specs.declared.value.Value.TheVariants as value
use Rattle.icb_avro.specs.Reading.{all_blocks_at, boolean_at, bytes_at, entry_at, fields_at, index_at, int_at, long_at, part_at, text_at, value_at}
use Rattle.icb_types.specs.declared.datum.Datum.TheVariants as datum
use Rattle.icb_types.specs.Data.{seen}
use Rattle.icb_rows.specs.Records.{datum_level}
use Rattle.icb_rows.proofs.ValueLemmas.{datum_of_Array, datum_of_Boolean, datum_of_Bytes, datum_of_Double, datum_of_Enum, datum_of_Fixed, datum_of_Float, datum_of_Int, datum_of_Long, datum_of_Map, datum_of_Record, datum_of_Text, leaf_datum, no_datum, null_datum}
use Rattle.icb_rows.proofs.ViewLemmas.{branch_found, no_branch}
use Rattle.icb_rows.proofs.values.+datum.Goals as goal

pub datum_in-returns-in-Null : goal.datum_in-returns-in-Null
datum_in-returns-in-Null t c =
    λ v rest e. null_datum c.args.kind c.args.bytes.now v rest (rw (shape_of_node c.args.node.now, c.in-Null.is, shape_of_null) at e)

pub datum_in-returns-in-Boolean : goal.datum_in-returns-in-Boolean
datum_in-returns-in-Boolean t c =
    λ v rest e. leaf_datum value.Boolean (boolean_at c.args.bytes.now) c.args.kind (seen c.boolean_datum.result) (λ x. datum_level (Value-F.Boolean x) c.args.kind) (λ x. datum_of_Boolean x c.args.kind) c.boolean_datum.ensures v rest
    (rw (shape_of_node c.args.node.now, c.in-Boolean.is, shape_of_boolean) at e)

pub datum_in-returns-in-Int : goal.datum_in-returns-in-Int
datum_in-returns-in-Int t c =
    λ v rest e. leaf_datum value.Int (int_at c.args.bytes.now) c.args.kind (seen c.int_datum.result) (λ x. datum_level (Value-F.Int x) c.args.kind) (λ x. datum_of_Int x c.args.kind) c.int_datum.ensures v rest
    (rw (shape_of_node c.args.node.now, c.in-Int.is, shape_of_int) at e)

pub datum_in-returns-in-Long : goal.datum_in-returns-in-Long
datum_in-returns-in-Long t c =
    λ v rest e. leaf_datum value.Long (long_at c.args.bytes.now) c.args.kind (seen c.long_datum.result) (λ x. datum_level (Value-F.Long x) c.args.kind) (λ x. datum_of_Long x c.args.kind) c.long_datum.ensures v rest
    (rw (shape_of_node c.args.node.now, c.in-Long.is, shape_of_long) at e)

pub datum_in-returns-in-Float : goal.datum_in-returns-in-Float
datum_in-returns-in-Float t c =
    λ v rest e. no_datum value.Float (part_at 4 c.args.bytes.now c.args.bytes.now) c.args.kind (λ x. datum_of_Float x c.args.kind) v rest
    (rw (shape_of_node c.args.node.now, c.in-Float.is, shape_of_float) at e)

pub datum_in-returns-in-Double : goal.datum_in-returns-in-Double
datum_in-returns-in-Double t c =
    λ v rest e. no_datum value.Double (part_at 8 c.args.bytes.now c.args.bytes.now) c.args.kind (λ x. datum_of_Double x c.args.kind) v rest
    (rw (shape_of_node c.args.node.now, c.in-Double.is, shape_of_double) at e)

pub datum_in-returns-in-Bytes : goal.datum_in-returns-in-Bytes
datum_in-returns-in-Bytes t c =
    λ v rest e. leaf_datum value.Bytes (bytes_at c.args.bytes.now) c.args.kind (seen c.bytes_datum.result) (λ x. datum_level (Value-F.Bytes x) c.args.kind) (λ x. datum_of_Bytes x c.args.kind) c.bytes_datum.ensures v rest
    (rw (shape_of_node c.args.node.now, c.in-Bytes.is, shape_of_bytes) at e)

pub datum_in-returns-in-Text : goal.datum_in-returns-in-Text
datum_in-returns-in-Text t c =
    λ v rest e. leaf_datum value.Text (text_at c.args.bytes.now) c.args.kind (seen c.text_datum.result) (λ x. datum_level (Value-F.Text x) c.args.kind) (λ x. datum_of_Text x c.args.kind) c.text_datum.ensures v rest
    (rw (shape_of_node c.args.node.now, c.in-Text.is, shape_of_text) at e)

pub datum_in-returns-in-Fixed : goal.datum_in-returns-in-Fixed
datum_in-returns-in-Fixed t c =
    λ v rest e. leaf_datum value.Fixed (part_at c.in-Fixed.size c.args.bytes.now c.args.bytes.now) c.args.kind (seen c.fixed_datum.result) (λ x. datum_level (Value-F.Fixed x) c.args.kind) (λ x. datum_of_Fixed x c.args.kind) c.fixed_datum.ensures v rest
    (rw (shape_of_node c.args.node.now, c.in-Fixed.is, shape_of_fixed c.in-Fixed.name c.in-Fixed.size) at e)

pub datum_in-returns-in-Enum : goal.datum_in-returns-in-Enum
datum_in-returns-in-Enum t c =
    λ v rest e. no_datum value.Enum (index_at (length c.in-Enum.symbols) c.args.bytes.now) c.args.kind (λ x. datum_of_Enum x c.args.kind) v rest
    (rw (shape_of_node c.args.node.now, c.in-Enum.is, shape_of_enum c.in-Enum.name c.in-Enum.symbols) at e)

pub datum_in-returns-in-Record : goal.datum_in-returns-in-Record
datum_in-returns-in-Record t c =
    λ v rest e. no_datum value.Record (fields_at (shapes_of (map (λ f. shape_of f.node) c.in-Record.fields)) c.args.bytes.now) c.args.kind (λ x. datum_of_Record x c.args.kind) v rest
    (rw (shape_of_node c.args.node.now, c.in-Record.is, shape_of_record c.in-Record.name c.in-Record.fields) at e)

pub datum_in-returns-in-Array : goal.datum_in-returns-in-Array
datum_in-returns-in-Array t c =
    λ v rest e. no_datum value.Array (all_blocks_at (value_at (shape_of c.in-Array.items)) c.args.bytes.now) c.args.kind (λ x. datum_of_Array x c.args.kind) v rest
    (rw (shape_of_node c.args.node.now, c.in-Array.is, shape_of_array c.in-Array.items c.in-Array.element) at e)

pub datum_in-returns-in-Map : goal.datum_in-returns-in-Map
datum_in-returns-in-Map t c =
    λ v rest e. no_datum value.Map (all_blocks_at (entry_at (value_at (shape_of c.in-Map.values))) c.args.bytes.now) c.args.kind (λ x. datum_of_Map x c.args.kind) v rest
    (rw (shape_of_node c.args.node.now, c.in-Map.is, shape_of_map c.in-Map.values c.in-Map.key c.in-Map.value) at e)

pub datum_in-returns-in-Union : goal.datum_in-returns-in-Union
datum_in-returns-in-Union t c =
    λ v rest e. c.branch_datum.ensures v rest (rw (shape_of_node c.args.node.now, c.in-Union.is, shape_of_union c.in-Union.branches, ← c.as_slice.ensures) at e)

pub branch_datum-returns-in-Some : goal.branch_datum-returns-in-Some
branch_datum-returns-in-Some t c =
    branch_found c.args.branches.now c.args.bytes.now c.args.kind (seen c.datum_in.result) c.in-Some.branch c.index-branches-branch.result c.in-Some.rest.now c.in-Some.ensures.reads
    (omega (arith, c.in-Some.ensures.below)) c.index-branches-branch.is c.datum_in.ensures

pub branch_datum-returns-in-None : goal.branch_datum-returns-in-None
branch_datum-returns-in-None t c = no_branch c.args.branches.now c.args.bytes.now c.args.kind datum.Null c.in-None.ensures.reads
