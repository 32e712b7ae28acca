-- No memory was left for the path.
use Rattle.std.proofs.Common.{◌≡◌}
use Rattle.icb_list.specs.Written.{written_list}
use Rattle.icb_append.specs.Drafts.{settings_for}
use Rattle.icb_append.specs.NewLists.{path_of_list}
use Rattle.icb_append.specs.Sealed.{IsSealed, may_be_put}
use Rattle.icb_append.proofs.PutLemmas.{not_begun}
use Rattle.icb_append.proofs.new_lists.put_own_list.Goals as goal

pub returns-in_default : goal.returns-in_default
returns-in_default g c =
    not_begun g.S.Store g.D.Draws (settings_for c.args.tried.now).key (path_of_list c.args.unique.now c.args.tried.now c.args.attempt)
    (λ key marker object meta. IsSealed (settings_for c.args.tried.now).block (path_of_list c.args.unique.now c.args.tried.now c.args.attempt)
    (written_list c.args.rows.now marker) key object meta)
    (may_be_put written_list c.args.rows.now) (λ meta size own. own ≡ meta)
    c.args.store.now c.args.draws.now (g.met.S.Store.kept_at_rest c.args.store.now)
