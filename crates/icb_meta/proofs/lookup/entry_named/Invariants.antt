use Rattle.std.proofs.Common.{◌≡◌, drop}
use Rattle.icb_meta.specs.Forms.{entry_named}
use Rattle.icb_meta.proofs.lookup.entry_named.Given as goal

abbrev pub invariant-loop-entry : goal.invariant-loop-entry
invariant-loop-entry l = entry_named l.id l.entries ≡ entry_named l.id (drop l.entry-index l.entries)
