-- No memory was left for the versions that were found held.
use Rattle.icb_append.proofs.WorkLemmas.{commit_not_begun}
use Rattle.icb_append.proofs.work.Work.commit.Goals as goal

pub returns-in_default : goal.returns-in_default
returns-in_default g c = commit_not_begun g.S.Store g.D.Draws c.args.now_ms c.args.self.now c.args.taken.now c.args.store.now c.args.draws.now
    (g.met.S.Store.kept_at_rest c.args.store.now) c.requires.list
