-- The laws are lemmas of proofs/LessKnown.antt.
use Rattle.icb_container.specs.Answers.{Counts, Opens, ReadsNext, Skips}
use Rattle.icb_container.proofs.LessKnown.{counts_of_more, opens_of_more, over_more, reads_of_more, skips_of_more}
use Rattle.icb_container.proofs.laws.answers_hold_over_more.Goals as goal

pub returns-clause-open : goal.returns-clause-open
returns-clause-open g c = λ x y less answer. over_more (g.L.ReadAt.content x) (g.M.ReadAt.content y) (Opens answer) less (λ known all file. opens_of_more known all file answer)

pub returns-clause-next_block : goal.returns-clause-next_block
returns-clause-next_block g c = λ x y less answer old new.
    over_more (g.L.ReadAt.content x) (g.M.ReadAt.content y) (ReadsNext answer old new) less (λ known all file. reads_of_more known all file answer old new)

pub returns-clause-skip_block : goal.returns-clause-skip_block
returns-clause-skip_block g c = λ x y less answer old new.
    over_more (g.L.ReadAt.content x) (g.M.ReadAt.content y) (Skips answer old new) less (λ known all file. skips_of_more known all file answer old new)

pub returns-clause-next_count : goal.returns-clause-next_count
returns-clause-next_count g c = λ x y less answer at.
    over_more (g.L.ReadAt.content x) (g.M.ReadAt.content y) (Counts answer at) less (λ known all file. counts_of_more known all file answer at)
