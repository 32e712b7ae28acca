use Rattle.std.proofs.Common.{◌∙◌, ◌+◌, ◌++◌, ap, sym, map, drop, get_or, ltb-true, ltb-false, rules, arith}
use Rattle.std.proofs.lemmas.Int.{to_z-of_z}
use mir.Val.{SFits}
use mir.Syntax.{w32}
use Rattle.icb_schema.specs.Nodes.{fields_of, part_of}
use Rattle.icb_schema.specs.Tree.{Fields}
use Rattle.icb_rows.specs.Records.{first_unfit}
use Rattle.icb_rows.specs.Views.{chosen, placed_of}
use Rattle.icb_rows.proofs.ChosenLemmas.{chosen_missing, chosen_there, get_missing, get_there, not_placed, placed_is, placed_more, unfit_behind, unfit_here}
use Rattle.icb_rows.proofs.projection.placed_columns.Goals.{in-Some+in-Some-place+in_ok-push-in-Some-place, in_default}
use Rattle.icb_rows.proofs.projection.placed_columns.Goals as goal

pub returns-in-None : goal.returns-in-None
returns-in-None c =
    let fs : Fields = fields_of (map part_of c.args.fields.now) in
    let column = c.in-Some.column.now in
    let fits : SFits w32 c.in-Some.column.now.id = search rules in
    let there = chosen_there c.args.columns.now c.args.positions.now c.loop-position.position-index 0 column (omega arith)
    (get_there c.args.columns.now (get_or c.args.positions.now c.loop-position.position-index 0) column (ltb-true _ _ (sym c.in-Some.ensures.lookup.0)) c.in-Some.ensures.lookup.1) in
    rw (to_z-of_z w32 c.in-Some.column.now.id fits)
    (sym c.loop-position.invariant.1 ∙ ap (λ columns. first_unfit columns fs) there ∙ unfit_here fs column _ (not_placed fs column c.in-None.ensures))

pub loop-position-preserved : goal.loop-position-preserved
loop-position-preserved c =
    let fs : Fields = fields_of (map part_of c.args.fields.now) in
    let next = chosen c.args.columns.now (drop (c.loop-position.position-index + 1) c.args.positions.now) in
    elim c.match-get.branch [
      | in-Some+in-Some-place+in_ok-push-in-Some-place w ↦
          let column = w.in-Some.column.now in
          let there = chosen_there c.args.columns.now c.args.positions.now c.loop-position.position-index 0 column (omega arith)
          (get_there c.args.columns.now (get_or c.args.positions.now c.loop-position.position-index 0) column (ltb-true _ _ (sym w.in-Some.ensures.lookup.0)) w.in-Some.ensures.lookup.1) in
          let is = placed_is fs column w.in-Some-place.found w.in-Some-place.ensures in (
            placed_more fs column next _ c.loop-position.placed c.match-get.placed _ w.in-Some-place.found there c.loop-position.invariant.0 is.1 (w.placed-is ∙ w.in_ok-push-in-Some-place.ensures.ok),
            sym (unfit_behind fs column next is.0) ∙ sym (ap (λ columns. first_unfit columns fs) there) ∙ c.loop-position.invariant.1,
          )
      | in_default w ↦
          let gone = chosen_missing c.args.columns.now c.args.positions.now c.loop-position.position-index 0 (omega arith)
          (get_missing c.args.columns.now (get_or c.args.positions.now c.loop-position.position-index 0) (ltb-false _ _ (sym w.in_default.ensures.lookup.0))) in (
            ap (λ columns. c.match-get.placed ++ map (placed_of fs) columns) (sym gone) ∙ ap (λ placed. placed ++ map (placed_of fs) (chosen c.args.columns.now (drop c.loop-position.position-index c.args.positions.now))) w.placed-is ∙ c.loop-position.invariant.0,
            sym (ap (λ columns. first_unfit columns fs) gone) ∙ c.loop-position.invariant.1,
          )
    ]
