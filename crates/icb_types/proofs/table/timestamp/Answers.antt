use Rattle.std.proofs.Common.{refl}
use Rattle.icb_schema.proofs.TreeLemmas.{tree_of_made, form_of_long}
use Rattle.icb_types.proofs.table.timestamp.Goals as goal

pub returns : goal.returns
returns c = rw (tree_of_made, form_of_long, c.in_ok-from_str.ensures) refl
