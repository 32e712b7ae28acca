use Rattle.std.proofs.Common.{◌≡◌, take}
use Rattle.icb_meta.proofs.entry_list.KeyEntries.copy.Given as goal

abbrev pub invariant-loop-entry : goal.invariant-loop-entry
invariant-loop-entry l = l.copies ≡ take l.entry-index l.entry-items
