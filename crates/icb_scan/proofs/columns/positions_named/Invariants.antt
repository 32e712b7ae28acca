use Rattle.std.proofs.Common.{drop}
use Rattle.icb_scan.proofs.PlanLemmas.{Found}
use Rattle.icb_scan.proofs.columns.positions_named.Given as goal

abbrev pub invariant-loop-name : goal.invariant-loop-name
invariant-loop-name l = Found l.columns l.names (drop l.name-index l.names) l.positions
