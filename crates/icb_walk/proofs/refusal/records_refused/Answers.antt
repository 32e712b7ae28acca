use Rattle.icb_walk.proofs.CauseLemmas.{of_records_told}
use Rattle.icb_walk.proofs.refusal.records_refused.Goals as goal

pub returns : goal.returns
returns c = of_records_told c.args.path.now c.args.fault c.of_records.result c.at.result c.of_records.ensures c.at.ensures
