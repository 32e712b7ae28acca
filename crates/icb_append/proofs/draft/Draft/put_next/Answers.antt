-- There are too many files.
use Rattle.icb_append.proofs.DraftLemmas.{next_not_begun}
use Rattle.icb_append.proofs.draft.Draft.put_next.Goals as goal

pub returns-in_default : goal.returns-in_default
returns-in_default g c =
    next_not_begun g.S.Store g.D.Draws c.args.tried.now c.args.self.now c.args.store.now c.args.draws.now (g.met.S.Store.kept_at_rest c.args.store.now)
