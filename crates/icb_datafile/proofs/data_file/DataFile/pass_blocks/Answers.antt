use Rattle.std.proofs.Common.{rules, ◌≡◌, ◌∙◌, Err, None, ap, refl, sym}
use Rattle.icb_container.proofs.Reading.{reads_at_rest, reads_twice}
use Rattle.icb_datafile.specs.declared.plan.Plan.{Plan}
use Rattle.icb_datafile.specs.Left.{left_of}
use Rattle.icb_datafile.specs.Plans.{emptied}
use Rattle.icb_datafile.proofs.ChoosingLemmas.{plan_stays}
use Rattle.icb_datafile.proofs.OverLemmas.{emptied_only, no_range, not_over, only_twice, only_words, over_then, over_twice, still_left_out}
use Rattle.icb_datafile.proofs.data_file.DataFile.pass_blocks.Goals as goal

pub returns-then-is_some-clause-leaves_out : goal.returns-then-is_some-clause-leaves_out
returns-then-is_some-clause-leaves_out g c = λ known is file fills columns f stands plan has.
    not_over columns f c.args.self.now c.args.self.now (emptied c.args.plan.now) _ file refl refl
    (record { same_columns = refl; same_range = refl }) (record { same_skip = refl; same_most = refl; same_shown = refl; same_text = c.truncate.ensures }) stands

pub returns-then-is_some-clause-only : goal.returns-then-is_some-clause-only
returns-then-is_some-clause-only g c = emptied_only c.args.plan.now c.truncate.new.self c.truncate.ensures

pub loop-plan-init : goal.loop-plan-init
loop-plan-init g c = record {
  only = emptied_only c.args.plan.now c.truncate.new.self c.truncate.ensures;
  all = no_range c.args.plan.now.range (sym c.is_some.ensures ∙ c.if-is_some.false);
  reader = reads_at_rest g.R.ReadAt c.args.reader.now (g.met.R.ReadAt.kept_at_rest _) (g.met.R.ReadAt.calm_at_rest _);
  over = λ known is file fills columns f stands plan has.
      not_over columns f c.args.self.now c.args.self.now (emptied c.args.plan.now) _ file refl refl
      (record { same_columns = refl; same_range = refl }) (record { same_skip = refl; same_most = refl; same_shown = refl; same_text = c.truncate.ensures }) stands;
}

pub returns-in_err-pass_over-clause-leaves_out : goal.returns-in_err-pass_over-clause-leaves_out
returns-in_err-pass_over-clause-leaves_out g c = λ known is file fills columns f stands plan has.
    let e : c.from_residual.result ≡ Err c.in_err-pass_over.field-0.0 = search rules in
    let inv = c.loop-plan.invariant in
    let p = emptied c.args.plan.now in
    let words = only_words p c.loop-plan.plan inv.only in
    let one = inv.over known is file fills columns f stands plan has in
    let two = c.in_err-pass_over.ensures.leaves_out known (inv.reader.same known is) file fills columns f one.stands (plan_stays columns p c.loop-plan.plan words plan)
    (still_left_out columns p c.loop-plan.plan (left_of columns f c.args.self.now file) (left_of columns f c.loop-plan.self file) words one.passes one.same_stop has) in
    rw e (over_then columns f c.args.self.now c.loop-plan.self p c.loop-plan.plan c.pass_over.new.plan file c.in_err-pass_over.field-0.0 words one two)

pub returns-in_err-pass_over-clause-only : goal.returns-in_err-pass_over-clause-only
returns-in_err-pass_over-clause-only g c = only_twice (emptied c.args.plan.now) c.loop-plan.plan c.pass_over.new.plan c.loop-plan.invariant.only c.pass_over.ensures.only

pub returns-in_err-pass_over-clause-reader : goal.returns-in_err-pass_over-clause-reader
returns-in_err-pass_over-clause-reader g c =
    let e : c.from_residual.result ≡ Err c.in_err-pass_over.field-0.0 = search rules in
    let law = g.met.R.ReadAt in
    rw e (reads_twice g.R.ReadAt _ c.args.reader.now c.loop-plan.reader c.pass_over.new.reader (law.kept_twice _ _ _) (law.calm_twice _ _ _) (λ f. law.blamed_since _ _ _ f) c.loop-plan.invariant.reader c.in_err-pass_over.ensures.reader)

pub returns-then-not-branch-clause-leaves_out : goal.returns-then-not-branch-clause-leaves_out
returns-then-not-branch-clause-leaves_out g c = λ known is file fills columns f stands plan has.
    let inv = c.loop-plan.invariant in
    let p = emptied c.args.plan.now in
    let words = only_words p c.loop-plan.plan inv.only in
    let one = inv.over known is file fills columns f stands plan has in
    let two = c.in_ok-pass_over.ensures.leaves_out known (inv.reader.same known is) file fills columns f one.stands (plan_stays columns p c.loop-plan.plan words plan)
    (still_left_out columns p c.loop-plan.plan (left_of columns f c.args.self.now file) (left_of columns f c.loop-plan.self file) words one.passes one.same_stop has) in
    over_twice columns f c.args.self.now c.loop-plan.self c.pass_over.new.self p c.loop-plan.plan c.pass_over.new.plan file words one two

pub returns-then-not-branch-clause-only : goal.returns-then-not-branch-clause-only
returns-then-not-branch-clause-only g c = only_twice (emptied c.args.plan.now) c.loop-plan.plan c.pass_over.new.plan c.loop-plan.invariant.only c.pass_over.ensures.only

pub returns-then-not-branch-clause-reader : goal.returns-then-not-branch-clause-reader
returns-then-not-branch-clause-reader g c =
    let law = g.met.R.ReadAt in
    reads_twice g.R.ReadAt None c.args.reader.now c.loop-plan.reader c.pass_over.new.reader (law.kept_twice _ _ _) (law.calm_twice _ _ _) (λ f. law.blamed_since _ _ _ f) c.loop-plan.invariant.reader c.in_ok-pass_over.ensures.reader

pub loop-plan-preserved : goal.loop-plan-preserved
loop-plan-preserved g c =
    let law = g.met.R.ReadAt in
    let inv = c.loop-plan.invariant in
    record {
      only = only_twice (emptied c.args.plan.now) c.loop-plan.plan c.pass_over.new.plan inv.only c.pass_over.ensures.only;
      all = ap (λ (x : Plan). x.range) c.pass_over.ensures.only ∙ inv.all;
      reader = reads_twice g.R.ReadAt None c.args.reader.now c.loop-plan.reader c.pass_over.new.reader (law.kept_twice _ _ _) (law.calm_twice _ _ _) (λ f. law.blamed_since _ _ _ f) inv.reader c.in_ok-pass_over.ensures.reader;
      over = λ known is file fills columns f stands plan has.
          let p = emptied c.args.plan.now in
          let words = only_words p c.loop-plan.plan inv.only in
          let one = inv.over known is file fills columns f stands plan has in
          let two = c.in_ok-pass_over.ensures.leaves_out known (inv.reader.same known is) file fills columns f one.stands (plan_stays columns p c.loop-plan.plan words plan)
          (still_left_out columns p c.loop-plan.plan (left_of columns f c.args.self.now file) (left_of columns f c.loop-plan.self file) words one.passes one.same_stop has) in
          over_twice columns f c.args.self.now c.loop-plan.self c.pass_over.new.self p c.loop-plan.plan c.pass_over.new.plan file words one two;
    }

pub returns-clause-leaves_out : goal.returns-clause-leaves_out
returns-clause-leaves_out g c = λ known is file fills columns f stands plan has. c.loop-plan.invariant.over known is file fills columns f stands plan has
