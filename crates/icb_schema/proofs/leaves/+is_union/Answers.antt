use Rattle.std.proofs.Common.{◌<◌, arith, sym, ◌∙◌}
use Rattle.serde_json.specs.View.{view}
use Rattle.icb_schema.proofs.JsonCases.{union_zero, union_array, union_type, union_none}
use Rattle.icb_schema.proofs.leaves.+is_union.Goals as goal

pub returns-then-levels-eq0 : goal.returns-then-levels-eq0
returns-then-levels-eq0 t c = rw c.if-levels-eq0.true (sym (union_zero (view c.args.value.now)))

pub returns-then-is_array : goal.returns-then-is_array
returns-then-is_array t c = let above : 0 < c.args.levels = omega (arith, c.if-levels-eq0.false) in
    sym (union_array c.args.levels (view c.args.value.now) above (sym c.is_array.ensures ∙ c.if-is_array.true))

pub returns-in-Some : goal.returns-in-Some
returns-in-Some t c = let above : 0 < c.args.levels = omega (arith, c.if-levels-eq0.false) in
    c.is_union.ensures ∙ sym (union_type c.args.levels (view c.args.value.now) (view c.in-Some.inner.now) above (sym c.is_array.ensures ∙ c.if-is_array.false) (sym c.in-Some.ensures))

pub returns-in-None : goal.returns-in-None
returns-in-None t c = sym (union_none c.args.levels (view c.args.value.now) (sym c.is_array.ensures ∙ c.if-is_array.false) (sym c.in-None.ensures))
