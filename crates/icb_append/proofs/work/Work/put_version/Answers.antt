-- No memory was left for the path of the list; and the version has the list at that path.
use Rattle.icb_append.proofs.WorkLemmas.{version_not_put, version_put}
use Rattle.icb_append.proofs.work.Work.put_version.Goals as goal

pub returns-in_default-path_of_list : goal.returns-in_default-path_of_list
returns-in_default-path_of_list g c = version_not_put g.S.Store g.D.Draws c.args.now_ms c.args.self.now c.in-Some.list c.args.store.now c.args.draws.now
    (g.met.S.Store.kept_at_rest c.args.store.now) c.in-Some.is

pub returns : goal.returns
returns g c = version_put g.S.Store g.D.Draws c.args.now_ms c.args.self.now c.in-Some.list c.in-Ok.path c.put_next_version.result c.args.store.now c.put_next_version.new.store
    c.args.draws.now c.put_next_version.new.draws c.in-Some.is c.in-Ok.ensures c.put_next_version.ensures
