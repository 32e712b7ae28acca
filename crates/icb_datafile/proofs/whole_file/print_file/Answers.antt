use Rattle.std.proofs.Common.{rules, ◌≡◌, ◌∙◌, None, Err, true, false, sym, ap, subst}
use Rattle.std.proofs.lemmas.Result.{err_from_is_err_and}
use Rattle.icb_container.proofs.Reading.{reads_twice}
use Rattle.icb_table.specs.Rows.{rows_of}
use Rattle.icb_datafile.specs.declared.plan.Plan.{Plan}
use Rattle.icb_datafile.specs.Left.{HasLeftOut, all_of}
use Rattle.icb_datafile.specs.Plans.{selection_by}
use Rattle.icb_datafile.proofs.ChoosingLemmas.{kept_words, plan_stays}
use Rattle.icb_datafile.proofs.OverLemmas.{empty_plan}
use Rattle.icb_datafile.proofs.WholeLemmas.{blames_more, blames_none, not_printed, ok_writes, printed_all, printed_enough, printed_err, printed_more, printed_not, printed_over, printed_to}
use Rattle.icb_datafile.proofs.whole_file.print_file.Goals as goal

pub returns-in_err-file-clause-prints : goal.returns-in_err-file-clause-prints
returns-in_err-file-clause-prints g c = λ known is file fills f plan has.
    let p = err_from_is_err_and c.from_residual.result c.from_residual.ensures.1 in
    rw (p.1, p.2) (not_printed g.O.Sink c.args.schema.now.columns f c.args.plan.now (rows_of (all_of c.args.schema.now.columns) f file) c.args.sink.now c.in_err-file.field-0.0
    (c.in_err-file.ensures.opens known is file fills f) c.requires.asked)

pub returns-in_err-pass_blocks-clause-prints : goal.returns-in_err-pass_blocks-clause-prints
returns-in_err-pass_blocks-clause-prints g c = λ known is file fills f plan has.
    let p = err_from_is_err_and c.from_residual-in_err-pass_blocks.result c.from_residual-in_err-pass_blocks.ensures.1 in
    let o = c.in_ok-file.ensures.opens known is file fills f in
    let there = subst (HasLeftOut (selection_by c.args.schema.now.columns c.args.plan.now)) o.1 has in
    let stops = c.in_err-pass_blocks.ensures.leaves_out known (c.in_ok-file.ensures.reader.same known is) file fills c.args.schema.now.columns f o.0 (empty_plan c.args.schema.now.columns c.args.plan.now plan) there in
    rw (p.1, p.2) (printed_not g.O.Sink c.args.schema.now.columns f c.args.plan.now c.pass_blocks.new.plan c.in_ok-file.file c.pass_blocks.new.self c.args.sink.now file c.in_err-pass_blocks.field-0.0 o.0 o.1 stops
    (ap (λ (x : Plan). x.text) c.pass_blocks.ensures.only))

pub returns-in_err-pass_blocks-clause-reader : goal.returns-in_err-pass_blocks-clause-reader
returns-in_err-pass_blocks-clause-reader g c =
    let p = err_from_is_err_and c.from_residual-in_err-pass_blocks.result c.from_residual-in_err-pass_blocks.ensures.1 in
    let law = g.met.R.ReadAt in
    rw (p.1, p.2) (reads_twice g.R.ReadAt _ c.args.reader.now c.open.new.reader c.pass_blocks.new.reader (law.kept_twice _ _ _) (law.calm_twice _ _ _) (λ f. law.blamed_since _ _ _ f) c.in_ok-file.ensures.reader c.in_err-pass_blocks.ensures.reader)

pub loop-alloc-init : goal.loop-alloc-init
loop-alloc-init g c = record {
  words = record {
    same_columns = ap (λ (x : Plan). x.columns) c.pass_blocks.ensures.only;
    same_range = ap (λ (x : Plan). x.range) c.pass_blocks.ensures.only;
  };
  reader = reads_twice g.R.ReadAt None c.args.reader.now c.open.new.reader c.pass_blocks.new.reader (g.met.R.ReadAt.kept_twice _ _ _) (g.met.R.ReadAt.calm_twice _ _ _) (λ f. g.met.R.ReadAt.blamed_since _ _ _ f)
      c.in_ok-file.ensures.reader c.in_ok-pass_blocks.ensures.reader;
  count = blames_none (g.O.Sink.faults c.args.sink.now);
  prints = λ known is file fills f plan has.
      let o = c.in_ok-file.ensures.opens known is file fills f in
      let there = subst (HasLeftOut (selection_by c.args.schema.now.columns c.args.plan.now)) o.1 has in
      let over = c.in_ok-pass_blocks.ensures.leaves_out known (c.in_ok-file.ensures.reader.same known is) file fills c.args.schema.now.columns f o.0 (empty_plan c.args.schema.now.columns c.args.plan.now plan) there in
      printed_over g.O.Sink c.args.schema.now.columns f c.args.plan.now c.pass_blocks.new.plan c.in_ok-file.file c.pass_blocks.new.self c.args.sink.now file o.1 over (ap (λ (x : Plan). x.text) c.pass_blocks.ensures.only);
}

pub returns-in_err-step-clause-prints : goal.returns-in_err-step-clause-prints
returns-in_err-step-clause-prints g c = λ known is file fills f plan has.
    let e : c.from_residual-in_err-step.result ≡ Err c.in_err-step.field-0.0 = search rules in
    let inv = c.loop-alloc.invariant in
    let columns = c.args.schema.now.columns in
    let tested : c.is_done.result ≡ false = search rules in
    let done = printed_to g.O.Sink columns f c.args.plan.now c.loop-alloc.plan c.loop-alloc.file c.args.sink.now c.loop-alloc.sink file (sym c.is_done.ensures ∙ tested)
    (inv.prints known is file fills f plan has) in
    let here = plan_stays columns c.args.plan.now c.loop-alloc.plan inv.words plan in
    let step = c.in_err-step.ensures.steps known (inv.reader.same known is) file fills columns f done.stands here in
    rw e (printed_err g.O.Sink columns f c.args.plan.now c.loop-alloc.plan c.step.new.plan c.loop-alloc.file c.step.new.self c.args.sink.now c.loop-alloc.sink c.step.new.sink file
    c.in_err-step.field-0.0 inv.words done step c.in_err-step.ensures.writes)

pub returns-in_err-step-clause-reader : goal.returns-in_err-step-clause-reader
returns-in_err-step-clause-reader g c =
    let e : c.from_residual-in_err-step.result ≡ Err c.in_err-step.field-0.0 = search rules in
    let law = g.met.R.ReadAt in
    rw e (reads_twice g.R.ReadAt _ c.args.reader.now c.loop-alloc.reader c.step.new.reader (law.kept_twice _ _ _) (law.calm_twice _ _ _) (λ f. law.blamed_since _ _ _ f) c.loop-alloc.invariant.reader c.in_err-step.ensures.reader)

pub returns-then-not-branch-clause-prints : goal.returns-then-not-branch-clause-prints
returns-then-not-branch-clause-prints g c = λ known is file fills f plan has.
    let e : c.in_ok-step.field-0 ≡ false = search rules in
    let inv = c.loop-alloc.invariant in
    let columns = c.args.schema.now.columns in
    let tested : c.is_done.result ≡ false = search rules in
    let done = printed_to g.O.Sink columns f c.args.plan.now c.loop-alloc.plan c.loop-alloc.file c.args.sink.now c.loop-alloc.sink file (sym c.is_done.ensures ∙ tested)
    (inv.prints known is file fills f plan has) in
    let here = plan_stays columns c.args.plan.now c.loop-alloc.plan inv.words plan in
    let step = rw e at (c.in_ok-step.ensures.steps known (inv.reader.same known is) file fills columns f done.stands here) in
    printed_all g.row.R-Fault.Denot g.O.Sink columns f c.args.plan.now c.loop-alloc.plan c.step.new.plan c.loop-alloc.file c.step.new.self c.args.sink.now c.loop-alloc.sink c.step.new.sink file
    inv.words done step (ok_writes g.O.Sink c.step.new.plan.text c.loop-alloc.sink c.step.new.sink c.in_ok-step.field-0 c.in_ok-step.ensures.writes)

pub returns-then-not-branch-clause-reader : goal.returns-then-not-branch-clause-reader
returns-then-not-branch-clause-reader g c =
    let law = g.met.R.ReadAt in
    reads_twice g.R.ReadAt None c.args.reader.now c.loop-alloc.reader c.step.new.reader (law.kept_twice _ _ _) (law.calm_twice _ _ _) (λ f. law.blamed_since _ _ _ f) c.loop-alloc.invariant.reader c.in_ok-step.ensures.reader

pub loop-alloc-preserved : goal.loop-alloc-preserved
loop-alloc-preserved g c =
    let law = g.met.R.ReadAt in
    let inv = c.loop-alloc.invariant in
    let e : c.in_ok-step.field-0 ≡ true = search rules in
    let writes = ok_writes g.O.Sink c.step.new.plan.text c.loop-alloc.sink c.step.new.sink c.in_ok-step.field-0 c.in_ok-step.ensures.writes in
    record {
      words = kept_words c.args.plan.now c.loop-alloc.plan c.step.new.plan inv.words c.step.ensures.words;
      reader = reads_twice g.R.ReadAt None c.args.reader.now c.loop-alloc.reader c.step.new.reader (law.kept_twice _ _ _) (law.calm_twice _ _ _) (λ f. law.blamed_since _ _ _ f) inv.reader c.in_ok-step.ensures.reader;
      count = blames_more (g.O.Sink.faults c.args.sink.now) (g.O.Sink.faults c.loop-alloc.sink) (g.O.Sink.faults c.step.new.sink) inv.count writes.count;
      prints = λ known is file fills f plan has.
          let columns = c.args.schema.now.columns in
          let tested : c.is_done.result ≡ false = search rules in
          let done = printed_to g.O.Sink columns f c.args.plan.now c.loop-alloc.plan c.loop-alloc.file c.args.sink.now c.loop-alloc.sink file (sym c.is_done.ensures ∙ tested)
          (inv.prints known is file fills f plan has) in
          let here = plan_stays columns c.args.plan.now c.loop-alloc.plan inv.words plan in
          let step = rw e at (c.in_ok-step.ensures.steps known (inv.reader.same known is) file fills columns f done.stands here) in
          printed_more g.row.R-Fault.Denot g.O.Sink columns f c.args.plan.now c.loop-alloc.plan c.step.new.plan c.loop-alloc.file c.step.new.self c.args.sink.now c.loop-alloc.sink c.step.new.sink file inv.words done step writes;
    }

pub returns-clause-prints : goal.returns-clause-prints
returns-clause-prints g c = λ known is file fills f plan has.
    let tested : c.is_done.result ≡ true = search rules in
    printed_enough g.row.R-Fault.Denot g.O.Sink c.args.schema.now.columns f c.args.plan.now c.loop-alloc.plan c.loop-alloc.file c.args.sink.now c.loop-alloc.sink file
    (c.loop-alloc.invariant.prints known is file fills f plan has) (sym c.is_done.ensures ∙ tested)
