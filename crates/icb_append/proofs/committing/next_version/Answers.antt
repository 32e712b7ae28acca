-- The snapshot is the next one.
use Rattle.std.proofs.Common.{rules}
use Rattle.icb_append.proofs.CommitLemmas.{is_next}
use Rattle.icb_append.proofs.committing.next_version.Goals as goal

pub with_snapshot-requires-clause-next : goal.with_snapshot-requires-clause-next
with_snapshot-requires-clause-next c =
    is_next c.args.tried.now.version c.args.tried.now.meta c.args.tried.now.id c.args.tried.now.rows c.args.tried.now.wrapper
    c.args.nonce.now c.args.list.now c.args.path.now c.args.now_ms _ _ c.args.tried.now.ready (search rules) (search rules)
