use Rattle.icb_walk.proofs.CauseLemmas.{of_stream_told}
use Rattle.icb_walk.proofs.refusal.stream_refused.Goals as goal

pub returns : goal.returns
returns c = of_stream_told c.args.path.now c.args.fault c.of_stream.result c.at.result c.of_stream.ensures c.at.ensures
