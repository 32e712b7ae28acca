use Rattle.icb_rotate.proofs.TableLemmas.{rotated_is_table}
use Rattle.icb_rotate.proofs.laws.rotated_is_table.Goals as goal

pub returns : goal.returns
returns c = rotated_is_table
