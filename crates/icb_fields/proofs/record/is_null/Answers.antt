use Rattle.std.proofs.Common.{refl, sym}
use Rattle.icb_schema.proofs.TreeLemmas.{form_of_null}
use Rattle.icb_fields.proofs.KindLemmas.{only_null}
use Rattle.icb_fields.proofs.record.is_null.Goals as goal

pub returns-in-Null : goal.returns-in-Null
returns-in-Null c = rw (c.in-Null.is, form_of_null) refl

pub returns-in_default : goal.returns-in_default
returns-in_default c = sym (only_null _ c.in_default.not-Null)
