use Rattle.std.proofs.Common.{refl}
use Rattle.icb_edits.proofs.tables.put_state.Goals as goal

pub returns-clause-sets : goal.returns-clause-sets
returns-clause-sets c =
    rw (
      c.in_ok-put-6.ensures,
      c.in_ok-put-5.ensures,
      c.in_ok-put-4.ensures,
      c.in_ok-put-3.ensures,
      c.in_ok-put_small.ensures.sets,
      c.in_ok-put-2.ensures,
      c.in_ok-put.ensures,
      c.in_ok-entries.ensures,
      c.in_ok-entry_json.ensures.json,
      c.in_ok-properties.ensures,
      c.empty_array.ensures,
      c.empty_array-2.ensures,
      c.empty_array-3.ensures,
      c.empty_object.ensures,
      c.as_slice.ensures,
    ) refl
