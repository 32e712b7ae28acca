use Rattle.std.proofs.Common.{◌≡◌, drop}
use Rattle.std.specs.List.{list_any}
use Rattle.icb_meta.specs.Ids.{names_key}
use Rattle.icb_meta.proofs.ids.names_key.Given as goal

abbrev pub invariant-loop-entry : goal.invariant-loop-entry
invariant-loop-entry l = list_any (names_key l.id) l.entries ≡ list_any (names_key l.id) (drop l.entry-index l.entries)
