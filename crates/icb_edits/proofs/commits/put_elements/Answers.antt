use Rattle.std.proofs.Common.{refl}
use Rattle.icb_edits.proofs.commits.put_elements.Goals as goal

pub returns-clause-sets : goal.returns-clause-sets
returns-clause-sets c =
    rw (
      c.in_ok-put-5.ensures,
      c.in_ok-put-4.ensures,
      c.in_ok-put-3.ensures,
      c.in_ok-put-2.ensures,
      c.in_ok-put.ensures,
      c.in_ok-snapshots.ensures,
      c.in_ok-snapshot_json.ensures.json,
      c.in_ok-changes.ensures,
      c.in_ok-change_json.ensures,
      c.in_ok-keys.ensures,
      c.in_ok-entry_json.ensures.json,
      c.in_ok-log.ensures,
      c.in_ok-refs.ensures,
      c.json-json.ensures,
    ) refl
