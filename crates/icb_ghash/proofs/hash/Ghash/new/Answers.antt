-- The hash of nothing is 0.
use Rattle.std.proofs.Common.{refl}
use Rattle.icb_ghash.proofs.HashLemmas.{sum_start}
use Rattle.icb_ghash.proofs.hash.Ghash.new.Goals as goal

pub returns : goal.returns
returns c = record { key = refl; sum = sum_start c.args.key.now }
