-- The rows that were read decide.
use Rattle.std.proofs.Common.{◌≡◌, rules, to_z, of_z, w64}
use Rattle.icb_append.proofs.DraftLemmas.{parent_read}
use Rattle.icb_append.proofs.new_lists.read_parent.Goals as goal

pub returns : goal.returns
returns g c =
    let same : to_z w64 (of_z w64 c.args.parent) ≡ c.args.parent = search rules in
    parent_read g.S.Store c.args.tried.now c.args.ring.now (to_z w64 (of_z w64 c.args.parent)) c.args.parent c.list_rows.result c.parent_rows.result
    c.args.store.now c.list_rows.new.store same c.list_rows.ensures.finds c.list_rows.ensures.rows c.list_rows.ensures.asks c.list_rows.ensures.reads c.parent_rows.ensures
