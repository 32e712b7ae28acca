-- The laws are lemmas of proofs/LessKnown.antt.
use Rattle.icb_container.proofs.LessKnown.{counts_alike, opens_alike, reads_alike, skips_alike}
use Rattle.icb_container.proofs.laws.less_is_answered_alike.Goals as goal

pub returns-clause-open : goal.returns-clause-open
returns-clause-open g c = λ x y. opens_alike (g.L.ReadAt.content x) (g.M.ReadAt.content y)

pub returns-clause-next_block : goal.returns-clause-next_block
returns-clause-next_block g c = λ x y. reads_alike (g.L.ReadAt.content x) (g.M.ReadAt.content y)

pub returns-clause-skip_block : goal.returns-clause-skip_block
returns-clause-skip_block g c = λ x y. skips_alike (g.L.ReadAt.content x) (g.M.ReadAt.content y)

pub returns-clause-next_count : goal.returns-clause-next_count
returns-clause-next_count g c = λ x y. counts_alike (g.L.ReadAt.content x) (g.M.ReadAt.content y)
