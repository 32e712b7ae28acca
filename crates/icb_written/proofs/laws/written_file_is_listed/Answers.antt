use Rattle.icb_written.proofs.ListedLemmas.{written_file_is_listed}
use Rattle.icb_written.proofs.laws.written_file_is_listed.Goals as goal

pub returns : goal.returns
returns c = written_file_is_listed
