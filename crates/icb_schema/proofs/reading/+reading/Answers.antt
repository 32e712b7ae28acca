use Rattle.std.proofs.Common.{◌<◌, arith, sym, ◌∙◌, ap, Ok, map}
use Rattle.serde_json.specs.View.{view, items_view}
use Rattle.icb_schema.specs.Nodes.{tree_of}
use Rattle.icb_schema.proofs.TreeLemmas.{form_of_union}
use Rattle.icb_schema.specs.Reading.{bare, schema_by, node_at}
use Rattle.icb_schema.specs.Seen.{seen_of}
use Rattle.icb_schema.proofs.JsonLemmas.{list_of_items, union_reads}
use Rattle.icb_schema.proofs.JsonCases.{node_zero, node_text, node_array, node_object, node_other}
use Rattle.icb_schema.proofs.reading.+reading.Goals as goal

pub read_node-returns-then-levels-eq0 : goal.read_node-returns-then-levels-eq0
read_node-returns-then-levels-eq0 t c = rw c.if-levels-eq0.true (node_zero c.args.depth c.args.scope.now (view c.args.value.now) (seen_of c.args.seen.now))

pub read_node-returns-in-Some : goal.read_node-returns-in-Some
read_node-returns-in-Some t c = let above : 0 < c.args.levels = omega (arith, c.if-levels-eq0.false) in
    rw (node_text c.args.levels c.args.depth c.args.scope.now (view c.args.value.now) (seen_of c.args.seen.now) c.in-Some.name.now above (sym c.in-Some.ensures)) c.read_text.ensures

pub read_node-returns-in-Some-as_array : goal.read_node-returns-in-Some-as_array
read_node-returns-in-Some-as_array t c = let above : 0 < c.args.levels = omega (arith, c.if-levels-eq0.false) in
    rw (
      node_array c.args.levels c.args.depth c.args.scope.now (view c.args.value.now) (seen_of c.args.seen.now) (items_view c.in-Some-as_array.items.now.items) above (sym c.in-Some-as_array.ensures),
      list_of_items c.in-Some-as_array.items.now.items,
      ← c.as_slice.ensures.value,
    ) c.read_union.ensures

pub read_node-returns-then-is_object : goal.read_node-returns-then-is_object
read_node-returns-then-is_object t c = let above : 0 < c.args.levels = omega (arith, c.if-levels-eq0.false) in
    rw (node_object c.args.levels c.args.depth c.args.scope.now (view c.args.value.now) (seen_of c.args.seen.now) above (sym c.is_object.ensures ∙ c.if-is_object.true)) c.read_object.ensures

pub read_node-returns : goal.read_node-returns
read_node-returns t c = node_other c.args.levels c.args.depth c.args.scope.now (view c.args.value.now) (seen_of c.args.seen.now)
    (sym c.in_default.ensures) (sym c.in_default-as_array.ensures) (sym c.is_object.ensures ∙ c.if-is_object.false)

pub read_union-returns : goal.read_union-returns
read_union-returns t c =
    union_reads (schema_by (node_at c.args.levels)) c.args.levels c.args.depth c.args.scope.now c.args.items.now (seen_of c.args.seen.now) (seen_of c.read_branches.new.seen)
    (map tree_of c.in_ok-branches.branches) (sym c.is_empty.ensures ∙ c.if-is_empty.false) (sym c.has_union.ensures ∙ c.if-has_union.false) c.in_ok-branches.ensures
    ∙ ap (λ t. Ok (t, seen_of c.read_branches.new.seen)) (sym (c.bare.ensures ∙ ap bare (form_of_union c.in_ok-branches.branches)))
