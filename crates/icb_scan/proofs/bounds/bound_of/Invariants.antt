use Rattle.std.proofs.Common.{◌≡◌, drop}
use Rattle.icb_table.specs.Visited.{bound_of}
use Rattle.icb_scan.proofs.bounds.bound_of.Given as goal

abbrev pub invariant-loop-bound : goal.invariant-loop-bound
invariant-loop-bound l = bound_of l.id (drop l.bound-index l.bounds) ≡ bound_of l.id l.bounds
