use Rattle.std.proofs.Common.{refl}
use Rattle.icb_edits.proofs.tables.put_layout.Goals as goal

pub returns-clause-sets : goal.returns-clause-sets
returns-clause-sets c =
    rw (
      c.in_ok-put-2.ensures,
      c.in_ok-put.ensures,
      c.in_ok-put_small-3.ensures.sets,
      c.in_ok-put_small-2.ensures.sets,
      c.in_ok-put_small.ensures.sets,
      c.in_ok-put_schema.ensures.sets,
      c.in_ok-order.ensures,
      c.in_ok-order_json-2.ensures,
      c.in_ok-spec.ensures,
      c.in_ok-order_json.ensures,
    ) refl
