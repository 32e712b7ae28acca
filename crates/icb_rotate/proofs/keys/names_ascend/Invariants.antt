-- The names before this one ascend.
use Rattle.std.proofs.Common.{◌≡◌, ◌-◌, [], drop, get_or}
use Rattle.icb_rotate.specs.Keys.{ascend_from, names_ascend}
use Rattle.icb_rotate.proofs.keys.names_ascend.Given as goal

abbrev pub invariant-loop-i : goal.invariant-loop-i
invariant-loop-i l = names_ascend l.texts ≡ ascend_from (get_or l.texts (l.i - 1) ([], [])).0 (drop l.i l.texts)
