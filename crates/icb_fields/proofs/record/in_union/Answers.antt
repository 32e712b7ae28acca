use Rattle.std.proofs.Common.{sym}
use Rattle.icb_fields.proofs.UnionLemmas.{of_two, of_others}
use Rattle.icb_fields.proofs.record.in_union.Goals as goal

pub returns-then-branches-eq2 : goal.returns-then-branches-eq2
returns-then-branches-eq2 c = rw c.beside_null.ensures
    (sym (of_two c.args.branches.now c.index-branches-0.result c.index-branches-1.result _ c.if-branches-eq2.true c.index-branches-0.is c.index-branches-1.is))

pub returns-else-branches-eq2 : goal.returns-else-branches-eq2
returns-else-branches-eq2 c = sym (of_others _ _ c.if-branches-eq2.false)
