use Rattle.icb_written.proofs.ListedLemmas.{written_manifest_is_listed}
use Rattle.icb_written.proofs.laws.written_manifest_is_listed.Goals as goal

pub returns : goal.returns
returns c = written_manifest_is_listed
