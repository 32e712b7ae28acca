use Rattle.std.proofs.Common.{arith, ◌<◌, ◌≤◌, map}
use Rattle.icb_schema.proofs.TreeLemmas as nodes
use Rattle.icb_schema.specs.Nodes.{tree_of, fields_of, trees_of, part_of}
use Rattle.icb_schema.specs.Tree as tree
use Rattle.icb_schema.proofs.NodeLemmas.{numbered_nodes, numbered_depth, numbered_fits}
use Rattle.icb_schema.proofs.walk.+number.Goals as goal

pub number-returns-then-count-ge-MAX_NODES : goal.number-returns-then-count-ge-MAX_NODES
number-returns-then-count-ge-MAX_NODES t c = numbered_nodes c.args.depth c.args.count.now (tree_of c.args.node.now) (omega arith)

pub number-returns-then-depth-gt-MAX_DEPTH : goal.number-returns-then-depth-gt-MAX_DEPTH
number-returns-then-depth-gt-MAX_DEPTH t c = numbered_depth c.args.depth c.args.count.now (tree_of c.args.node.now) (omega arith) (omega arith)

pub number-returns-in-Null : goal.number-returns-in-Null
number-returns-in-Null t c = numbered_fits c.args.depth c.args.count.now c.args.node.now (tree.primitive tree.null) (omega arith) (omega arith) (rw c.in-Null.is nodes.form_of_null)

pub number-returns-in-Boolean : goal.number-returns-in-Boolean
number-returns-in-Boolean t c = numbered_fits c.args.depth c.args.count.now c.args.node.now (tree.primitive tree.boolean) (omega arith) (omega arith) (rw c.in-Boolean.is nodes.form_of_boolean)

pub number-returns-in-Int : goal.number-returns-in-Int
number-returns-in-Int t c = numbered_fits c.args.depth c.args.count.now c.args.node.now (tree.primitive tree.int) (omega arith) (omega arith) (rw c.in-Int.is nodes.form_of_int)

pub number-returns-in-Long : goal.number-returns-in-Long
number-returns-in-Long t c = numbered_fits c.args.depth c.args.count.now c.args.node.now (tree.primitive tree.long) (omega arith) (omega arith) (rw c.in-Long.is nodes.form_of_long)

pub number-returns-in-Float : goal.number-returns-in-Float
number-returns-in-Float t c = numbered_fits c.args.depth c.args.count.now c.args.node.now (tree.primitive tree.float) (omega arith) (omega arith) (rw c.in-Float.is nodes.form_of_float)

pub number-returns-in-Double : goal.number-returns-in-Double
number-returns-in-Double t c = numbered_fits c.args.depth c.args.count.now c.args.node.now (tree.primitive tree.double) (omega arith) (omega arith) (rw c.in-Double.is nodes.form_of_double)

pub number-returns-in-Bytes : goal.number-returns-in-Bytes
number-returns-in-Bytes t c = numbered_fits c.args.depth c.args.count.now c.args.node.now (tree.primitive tree.bytes) (omega arith) (omega arith) (rw c.in-Bytes.is nodes.form_of_bytes)

pub number-returns-in-Text : goal.number-returns-in-Text
number-returns-in-Text t c = numbered_fits c.args.depth c.args.count.now c.args.node.now (tree.primitive tree.text) (omega arith) (omega arith) (rw c.in-Text.is nodes.form_of_text)

pub number-returns-in-Fixed : goal.number-returns-in-Fixed
number-returns-in-Fixed t c = numbered_fits c.args.depth c.args.count.now c.args.node.now (tree.fixed c.in-Fixed.name c.in-Fixed.size) (omega arith) (omega arith) (rw c.in-Fixed.is (nodes.form_of_fixed c.in-Fixed.name c.in-Fixed.size))

pub number-returns-in-Enum : goal.number-returns-in-Enum
number-returns-in-Enum t c = numbered_fits c.args.depth c.args.count.now c.args.node.now (tree.enumeration c.in-Enum.name c.in-Enum.symbols) (omega arith) (omega arith) (rw c.in-Enum.is (nodes.form_of_enum c.in-Enum.name c.in-Enum.symbols))

pub number-returns-in-Record : goal.number-returns-in-Record
number-returns-in-Record t c = let h : c.args.count.now < 4096 = omega arith in let k : c.args.depth ≤ 32 = omega arith in
    rw (numbered_fits c.args.depth c.args.count.now c.args.node.now (tree.fields c.in-Record.name (fields_of (map part_of c.in-Record.fields))) h k (rw c.in-Record.is (nodes.form_of_record c.in-Record.name c.in-Record.fields)), ← c.as_slice.ensures) c.number_fields.ensures

pub number-returns-in-Array : goal.number-returns-in-Array
number-returns-in-Array t c = let h : c.args.count.now < 4096 = omega arith in let k : c.args.depth ≤ 32 = omega arith in
    rw (numbered_fits c.args.depth c.args.count.now c.args.node.now (tree.array (tree_of c.in-Array.items) c.in-Array.element) h k (rw c.in-Array.is (nodes.form_of_array c.in-Array.items c.in-Array.element)), ← c.get.ensures) c.number.ensures

pub number-returns-in-Map : goal.number-returns-in-Map
number-returns-in-Map t c = let h : c.args.count.now < 4096 = omega arith in let k : c.args.depth ≤ 32 = omega arith in
    rw (numbered_fits c.args.depth c.args.count.now c.args.node.now (tree.map (tree_of c.in-Map.values) c.in-Map.key c.in-Map.value) h k (rw c.in-Map.is (nodes.form_of_map c.in-Map.values c.in-Map.key c.in-Map.value)), ← c.get-in-Map.ensures) c.number-in-Map.ensures

pub number-returns-in-Union : goal.number-returns-in-Union
number-returns-in-Union t c = let h : c.args.count.now < 4096 = omega arith in let k : c.args.depth ≤ 32 = omega arith in
    rw (numbered_fits c.args.depth c.args.count.now c.args.node.now (tree.union (trees_of (map tree_of c.in-Union.branches))) h k (rw c.in-Union.is (nodes.form_of_union c.in-Union.branches)), ← c.as_slice-in-Union.ensures) c.number_nodes.ensures
