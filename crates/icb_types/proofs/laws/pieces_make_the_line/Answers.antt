use Rattle.icb_types.proofs.RowLemmas.{line_of_pieces}
use Rattle.icb_types.proofs.laws.pieces_make_the_line.Goals as goal

pub returns : goal.returns
returns c = line_of_pieces
