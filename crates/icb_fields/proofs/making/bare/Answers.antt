use Rattle.std.proofs.Common.{None}
use Rattle.icb_schema.proofs.TreeLemmas.{tree_of_made}
use Rattle.icb_fields.proofs.making.bare.Goals as goal

pub returns : goal.returns
returns c = tree_of_made c.args.kind None None
