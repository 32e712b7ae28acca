use Rattle.std.proofs.Common.{◌∙◌, ap, arith, refl}
use Rattle.std.proofs.lemmas.Result.{err_from_is_err_and}
use Rattle.icb_container.specs.Opened.{Opened}
use Rattle.icb_datafile.proofs.OverLemmas.{count_stopped, not_over, over_done, over_stopped}
use Rattle.icb_datafile.proofs.data_file.DataFile.pass_over.Goals as goal

pub returns-in_err-count-clause-leaves_out : goal.returns-in_err-count-clause-leaves_out
returns-in_err-count-clause-leaves_out g c = λ known is file fills columns f stands plan has.
    let p = err_from_is_err_and c.from_residual.result c.from_residual.ensures.1 in
    let r = c.in_err-count.ensures.counts known is file fills in
    rw (p.1, p.2) (count_stopped columns f c.args.self.now c.args.plan.now c.args.plan.now file c.in_err-count.field-0.0 stands r.gives
    (record { same_columns = refl; same_range = refl }) (record { same_skip = refl; same_most = refl; same_shown = refl; same_text = refl }) c.requires.asked)

pub returns-in_default-clause-leaves_out : goal.returns-in_default-clause-leaves_out
returns-in_default-clause-leaves_out g c = λ known is file fills columns f stands plan has.
    not_over columns f c.args.self.now _ c.args.plan.now c.args.plan.now file c.in_ok-count.ensures.stays refl
    (record { same_columns = refl; same_range = refl }) (record { same_skip = refl; same_most = refl; same_shown = refl; same_text = refl }) stands

pub returns-then-count-eq0-clause-leaves_out : goal.returns-then-count-eq0-clause-leaves_out
returns-then-count-eq0-clause-leaves_out g c = λ known is file fills columns f stands plan has.
    not_over columns f c.args.self.now _ c.args.plan.now c.args.plan.now file c.in_ok-count.ensures.stays refl
    (record { same_columns = refl; same_range = refl }) (record { same_skip = refl; same_most = refl; same_shown = refl; same_text = refl }) stands

pub returns-in_err-skip_block-clause-leaves_out : goal.returns-in_err-skip_block-clause-leaves_out
returns-in_err-skip_block-clause-leaves_out g c = λ known is file fills columns f stands plan has.
    let p = err_from_is_err_and c.from_residual-in_err-skip_block.result c.from_residual-in_err-skip_block.ensures.1 in
    let r = rw c.in-Some.is at (c.in_ok-count.ensures.counts known is file fills) in
    let s = c.in_err-skip_block.ensures.skips known (c.in_ok-count.ensures.reader.same known is) file fills in
    rw (p.1, p.2) (over_stopped columns f c.args.self.now c.next_count.new.self c.args.plan.now c.args.plan.now file c.in-Some.count c.in_err-skip_block.field-0.0 stands has c.requires.all
    (omega (arith, c.if-count-eq0.false)) (omega (arith, c.if-count-plan.false)) c.in_ok-count.ensures.stays r.gives s.gives
    (record { same_columns = refl; same_range = refl }) (record { same_skip = refl; same_most = refl; same_shown = refl; same_text = refl }) c.requires.asked)

pub returns-clause-leaves_out : goal.returns-clause-leaves_out
returns-clause-leaves_out g c = λ known is file fills columns f stands plan has.
    let r = rw c.in-Some.is at (c.in_ok-count.ensures.counts known is file fills) in
    let s = c.in_ok-skip_block.ensures.skips known (c.in_ok-count.ensures.reader.same known is) file fills in
    over_done columns f c.args.self.now _ c.next_count.new.self c.args.plan.now _ file c.in-Some.count c.in_ok-skip_block.field-0 stands has c.requires.all
    (omega (arith, c.if-count-eq0.false)) (omega (arith, c.if-count-plan.false)) c.in_ok-count.ensures.stays r.gives s.gives refl
    (c.in_ok-skip_block.ensures.stays.same_schema ∙ ap (λ (o : Opened). o.schema) c.in_ok-count.ensures.stays)
    (record { same_columns = refl; same_range = refl }) refl refl refl refl
