use Rattle.icb_manifest.proofs.ReadBack.{entries_read_back}
use Rattle.icb_manifest.proofs.laws.entries_read_back.Goals as goal

pub returns : goal.returns
returns c = entries_read_back
