use Rattle.icb_table.proofs.TextLemmas.{text_of_front}
use Rattle.icb_table.proofs.laws.text_of_front.Goals as goal

pub returns : goal.returns
returns c = text_of_front
