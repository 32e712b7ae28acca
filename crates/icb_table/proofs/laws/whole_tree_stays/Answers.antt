use Rattle.icb_table.proofs.TreeLemmas.{whole_tree_stays}
use Rattle.icb_table.proofs.laws.whole_tree_stays.Goals as goal

pub returns : goal.returns
returns c = whole_tree_stays
