use Rattle.edit_tests.proofs.snapshots.with_first.Goals as goal

pub with_snapshot-requires-clause-next : goal.with_snapshot-requires-clause-next
with_snapshot-requires-clause-next g c =
    c.begun-meta.ensures c.snapshot-first.result c.list_key-key.result c.snapshot-first.ensures.id c.snapshot-first.ensures.sequence c.snapshot-first.ensures.added
    c.list_key-key.ensures
