use Rattle.std.proofs.Common.{◌≡◌, take}
use Rattle.std.specs.FinMap as finite
use Rattle.icb_container.specs.Sorted.{pairs}
use Rattle.icb_container.specs.Written.{put_all}
use Rattle.icb_container.proofs.NumbersAgain.{HaveTexts}
use Rattle.icb_container.proofs.properties.sorted.Given as goal

abbrev pub invariant-loop-property : goal.invariant-loop-property
invariant-loop-property l = record {
  same : pairs l.list.items ≡ finite.entries (put_all (take l.property-index l.extra));
  texts : HaveTexts (take l.property-index l.extra);
}
