use Rattle.std.proofs.Common.{◌≡◌, ◌++◌, take}
use Rattle.icb_container.proofs.Appended.{all_properties}
use Rattle.icb_container.proofs.writing.put_properties.Given as goal

abbrev pub invariant-loop-property : goal.invariant-loop-property
invariant-loop-property l = l.out ≡ l.initial.out ++ all_properties (take l.property-index l.list)
