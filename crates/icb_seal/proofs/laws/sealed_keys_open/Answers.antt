-- A sealed key opens to its bytes.
use Rattle.icb_seal.proofs.BlockLemmas.{unwrapped_from_sealed}
use Rattle.icb_seal.proofs.laws.sealed_keys_open.Goals as goal

pub returns : goal.returns
returns c = unwrapped_from_sealed
