use Rattle.icb_records.proofs.GatherLemmas.{blocks_hold_their_records}
use Rattle.icb_records.proofs.laws.blocks_hold_their_records.Goals as goal

pub returns : goal.returns
returns c = blocks_hold_their_records
