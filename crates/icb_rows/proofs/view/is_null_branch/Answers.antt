use Rattle.std.proofs.Common.{◌∙◌, ap, sym, length, map}
use Rattle.std.proofs.lemmas.Int.{to_z-of_z}
use mir.Val.{SFits}
use mir.Syntax.{w32}
use Rattle.icb_schema.specs.Shape.{shape_of, shapes_of}
use Rattle.icb_rows.specs.Views.{is_null_branch}
use Rattle.icb_rows.proofs.ValueLemmas.{below_is, branch_none, branch_null}
use Rattle.icb_rows.proofs.view.is_null_branch.Goals as goal

pub returns-in-Some : goal.returns-in-Some
returns-in-Some c =
    let fits : SFits w32 c.args.index = c.ranges.index in
    let b = below_is (length c.args.branches.now) c.args.index c.in-Some.branch (sym (simp to_z-of_z at c.in-Some.ensures)) in
    c.is_null.ensures ∙ branch_null c.args.branches.now c.in-Some.branch c.index-branches-branch.result b.1 c.index-branches-branch.is
    ∙ ap (is_null_branch (shapes_of (map shape_of c.args.branches.now))) (sym b.0)

pub returns-in-None : goal.returns-in-None
returns-in-None c =
    let fits : SFits w32 c.args.index = c.ranges.index in
    branch_none c.args.branches.now c.args.index (sym (simp to_z-of_z at c.in-None.ensures))
