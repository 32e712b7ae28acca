use Rattle.std.proofs.Common.{refl}
use Rattle.std.proofs.lemmas.Int.{to_z-of_z}
use mir.Val.{SFits}
use mir.Syntax.{w32}
use Rattle.icb_schema.proofs.TreeLemmas.{form_of_fixed}
use Rattle.icb_types.proofs.table.fixed.Goals as goal

pub returns : goal.returns
returns c =
    let fits : SFits w32 c.args.id = c.ranges.id in
    rw (form_of_fixed, c.from_string.ensures, c.in_ok-name.ensures.ok, to_z-of_z) refl
