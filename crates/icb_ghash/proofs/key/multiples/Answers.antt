-- The multiples are sums of four.
use Rattle.std.proofs.Common.{arith}
use Rattle.icb_ghash.proofs.NibbleLemmas.{multiples_are}
use Rattle.icb_ghash.proofs.key.multiples.Goals as goal

pub returns-clause-multiples : goal.returns-clause-multiples
returns-clause-multiples c =
    multiples_are c.args.h c.times_x-h1.result c.times_x-h2.result c.times_x-h3.result (omega arith)
    c.times_x-h1.ensures c.times_x-h2.ensures c.times_x-h3.ensures
