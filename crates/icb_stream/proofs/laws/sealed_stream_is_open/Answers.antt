-- The lemma on the written form.
use Rattle.icb_stream.proofs.SealingLemmas.{stream_is_open}
use Rattle.icb_stream.proofs.laws.sealed_stream_is_open.Goals as goal

pub returns : goal.returns
returns c = stream_is_open
