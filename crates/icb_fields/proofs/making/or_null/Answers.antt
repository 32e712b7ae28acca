use Rattle.std.proofs.Common.{refl}
use Rattle.icb_schema.proofs.TreeLemmas.{form_of_null, form_of_union}
use Rattle.icb_fields.proofs.making.or_null.Goals as goal

pub returns : goal.returns
returns c = rw (c.bare-2.ensures, form_of_union, c.in_ok-push-2.ensures.ok, c.in_ok-push.ensures.ok, c.new-branches.ensures, c.bare.ensures, form_of_null) refl
