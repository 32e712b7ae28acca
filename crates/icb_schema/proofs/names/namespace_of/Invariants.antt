use Rattle.std.proofs.Common.{◌≡◌, ◌≤◌, length}
use Rattle.icb_schema.specs.Names.{before_dot}
use Rattle.icb_schema.proofs.names.namespace_of.Given as goal

abbrev pub invariant-loop-at : goal.invariant-loop-at
invariant-loop-at l = record { within : l.at ≤ length l.name; same : before_dot (length l.name) l.name ≡ before_dot l.at l.name }

abbrev pub decreases-loop-at : goal.decreases-loop-at
decreases-loop-at l = l.at
