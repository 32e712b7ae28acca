use Rattle.std.proofs.Common.{rules, ◌≡◌, ◌∙◌, ◌++◌, List, ℕ, true, false, ap, sym, subst, refl, arith}
use Rattle.icb_rows.specs.Records.{row_by_ids}
use Rattle.icb_rows.specs.Views.{chosen}
use Rattle.icb_table.specs.Selection.{is_within, line_of}
use Rattle.icb_datafile.specs.Plans.{ArePositions, asks_none, range_at}
use Rattle.icb_datafile.proofs.ChoosingLemmas.{row_left_out, row_not_asked, row_outside, row_shown}
use Rattle.icb_datafile.proofs.plan.Plan.pass_row.Goals as goal

pub returns-then-not-is_within-clause-passes : goal.returns-then-not-is_within-clause-passes
returns-then-not-is_within-clause-passes c = λ columns fs vs inside is.
    let tested : c.is_within.result ≡ false = search rules in
    row_outside columns c.args.self.now (row_by_ids columns fs vs) (sym (c.is_within.ensures columns fs vs inside is.own_ids is.range_in) ∙ tested)

pub returns-then-is_done-clause-passes : goal.returns-then-is_done-clause-passes
returns-then-is_done-clause-passes c = λ columns fs vs inside is.
    let asked : asks_none c.args.self.now.most ≡ true = sym c.is_done.ensures ∙ c.if-is_done.true in
    row_not_asked columns c.args.self.now (row_by_ids columns fs vs) (omega (arith, c.if-self-gt0.false)) asked

pub returns-then-self-gt0-clause-passes : goal.returns-then-self-gt0-clause-passes
returns-then-self-gt0-clause-passes c = λ columns fs vs inside is.
    let tested : c.is_within.result ≡ true = search rules in
    let within : is_within (range_at columns c.args.self.now.range) (row_by_ids columns fs vs) ≡ true = sym (c.is_within.ensures columns fs vs inside is.own_ids is.range_in) ∙ tested in
    row_left_out columns c.args.self.now _ (row_by_ids columns fs vs) within (omega (arith, c.if-self-gt0.true)) (record { same_columns = refl; same_range = refl }) refl refl refl refl

pub returns-clause-passes : goal.returns-clause-passes
returns-clause-passes c = λ columns fs vs inside is.
    let tested : c.is_within.result ≡ true = search rules in
    let within : is_within (range_at columns c.args.self.now.range) (row_by_ids columns fs vs) ≡ true = sym (c.is_within.ensures columns fs vs inside is.own_ids is.range_in) ∙ tested in
    let asked : asks_none c.args.self.now.most ≡ false = sym c.is_done.ensures ∙ c.if-is_done.false in
    let line = c.in_ok-print_line.ensures columns fs vs inside is.own_ids (subst (ArePositions columns) (sym c.as_slice.ensures) is.shown)
    ∙ ap (λ (ps : List ℕ). line_of (chosen columns ps) (row_by_ids columns fs vs)) c.as_slice.ensures in
    let text = c.in_ok-extend_from_slice.ensures.ok ∙ ap (λ (b : List ℕ). c.args.self.now.text ++ b) c.as_slice-2.ensures in
    row_shown columns c.args.self.now _ (row_by_ids columns fs vs) c.print_line.new.line within (omega (arith, c.if-self-gt0.false)) asked (record { same_columns = refl; same_range = refl })
    refl c.one_less-self.ensures line text c.saturating_add-self.ensures
