use Rattle.std.proofs.Common.{refl}
use Rattle.icb_edits.proofs.tables.put_heading.Goals as goal

pub returns-clause-sets : goal.returns-clause-sets
returns-clause-sets c =
    rw (
      c.in_ok-put.ensures,
      c.in_ok-put_str.ensures,
      c.in_ok-put_time.ensures,
      c.in_ok-put_small-2.ensures.sets,
      c.in_ok-put_last_id.ensures.sets,
      c.in_ok-put_small.ensures.sets,
      c.in_ok-uuid.ensures.json,
      c.as_str.ensures,
      c.as_slice.ensures,
    ) refl
