-- The law holds.
use Rattle.icb_append.proofs.TreeLemmas.{tree_more}
use Rattle.icb_append.proofs.laws.rows_add_files.Goals as goal

pub returns : goal.returns
returns c = λ location contents was now olds news more files added read_was read_now same below own.
    tree_more location contents was now olds news more files added read_was read_now same below own
