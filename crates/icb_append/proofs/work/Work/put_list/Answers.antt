-- The parent's rows are spent, and the list has them.
use Rattle.std.proofs.Common.{◌∙◌, Ok, Err}
use Rattle.icb_append.proofs.WorkLemmas.{list_put}
use Rattle.icb_append.proofs.work.Work.put_list.Goals as goal

pub returns-in-Ok : goal.returns-in-Ok
returns-in-Ok g c = list_put g.S.Store g.D.Draws c.args.self.now c.replace-parent.result c.replace-parent.new.dest (Ok c.in-Ok.list) c.args.store.now c.put_rows.new.store
    c.args.draws.now c.put_rows.new.draws c.replace-parent.ensures.value (c.replace-parent.ensures.after ∙ c.new.ensures) c.in-Ok.ensures

pub returns-in-Err : goal.returns-in-Err
returns-in-Err g c = list_put g.S.Store g.D.Draws c.args.self.now c.replace-parent.result c.replace-parent.new.dest (Err c.in-Err.fault) c.args.store.now c.put_rows.new.store
    c.args.draws.now c.put_rows.new.draws c.replace-parent.ensures.value (c.replace-parent.ensures.after ∙ c.new.ensures) c.in-Err.ensures
