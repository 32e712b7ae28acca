-- No memory was left for the rows; and the list of those rows is put.
use Rattle.icb_append.proofs.WorkLemmas.{rows_not_put, rows_put}
use Rattle.icb_append.proofs.work.Work.put_rows.Goals as goal

pub returns-in_default : goal.returns-in_default
returns-in_default g c = rows_not_put g.S.Store g.D.Draws c.args.self.now c.args.parent c.args.store.now c.args.draws.now (g.met.S.Store.kept_at_rest c.args.store.now)

pub returns : goal.returns
returns g c = rows_put g.S.Store g.D.Draws c.args.self.now c.args.parent c.in-Ok.rows c.put_own_list.result c.args.store.now c.put_own_list.new.store
    c.args.draws.now c.put_own_list.new.draws c.in-Ok.ensures c.put_own_list.ensures
