use Rattle.icb_table.proofs.TableLemmas.{table_when_grown}
use Rattle.icb_table.proofs.laws.table_when_grown.Goals as goal

pub returns : goal.returns
returns c = table_when_grown
