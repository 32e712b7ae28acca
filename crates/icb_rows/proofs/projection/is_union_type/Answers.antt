use Rattle.std.proofs.Common.{◌∙◌, sym, arith}
use Rattle.icb_rows.proofs.ChosenLemmas.{other_branches, two_branches}
use Rattle.icb_rows.proofs.projection.is_union_type.Goals as goal

pub returns-then-branches-ne2 : goal.returns-then-branches-ne2
returns-then-branches-ne2 c = other_branches c.args.branches.now c.args.kind (λ e. absurd (let never : ⊥ = omega (arith, e, c.if-branches-ne2.true) in never))

pub returns : goal.returns
returns c =
    c.are_null_and_type.ensures
    ∙ sym (two_branches c.args.branches.now c.args.kind c.index-branches-0.result c.index-branches-1.result (omega (arith, c.if-branches-ne2.false)) c.index-branches-0.is c.index-branches-1.is)
