use Rattle.std.proofs.Common.{refl, sym}
use Rattle.icb_schema.proofs.TreeLemmas.{form_of_union}
use Rattle.icb_fields.proofs.KindLemmas.{no_union}
use Rattle.icb_fields.proofs.record.held_in.Goals as goal

pub returns-in-Union : goal.returns-in-Union
returns-in-Union c = rw (c.in-Union.is, form_of_union c.in-Union.branches, ← c.as_slice.ensures, c.in_union.ensures, c.in_branch.ensures) refl

pub returns-in_default : goal.returns-in_default
returns-in_default c = rw c.plain.ensures (sym (no_union _ _ c.in_default.not-Union))
