-- The name is looked for in the texts that are left.
use Rattle.std.proofs.Common.{◌≡◌, drop}
use Rattle.icb_meta.specs.Forms.{text_named}
use Rattle.icb_chain.proofs.opening.text_named.Given as goal

abbrev pub invariant-loop-other : goal.invariant-loop-other
invariant-loop-other l = text_named l.name l.texts ≡ text_named l.name (drop l.other-index l.texts)
