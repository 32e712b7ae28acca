-- The laws are lemmas of proofs/LessKnown.antt.
use Rattle.icb_reader.proofs.LessKnown.{opens_alike, reads_alike}
use Rattle.icb_reader.proofs.laws.less_is_answered_alike.Goals as goal

pub returns-clause-open : goal.returns-clause-open
returns-clause-open g c = λ x y. opens_alike (g.L.ReadAt.content x) (g.M.ReadAt.content y)

pub returns-clause-next : goal.returns-clause-next
returns-clause-next g c = λ x y. reads_alike g.T.FromRecord.made (g.L.ReadAt.content x) (g.M.ReadAt.content y)
