-- The laws are lemmas of proofs/LessKnown.antt.
use Rattle.icb_container.proofs.LessKnown.{over_more}
use Rattle.icb_reader.specs.Answers.{OpensRecords, ReadsRecord}
use Rattle.icb_reader.proofs.LessKnown.{opens_of_more, reads_of_more}
use Rattle.icb_reader.proofs.laws.records_hold_over_more.Goals as goal

pub returns-clause-open : goal.returns-clause-open
returns-clause-open g c = λ x y less answer.
    over_more (g.L.ReadAt.content x) (g.M.ReadAt.content y) (OpensRecords answer) less (λ known all file. opens_of_more known all file answer)

pub returns-clause-next : goal.returns-clause-next
returns-clause-next g c = λ x y less answer old new.
    over_more (g.L.ReadAt.content x) (g.M.ReadAt.content y) (ReadsRecord g.T.FromRecord.made answer old new) less
    (λ known all file. reads_of_more g.T.FromRecord.made known all file answer old new)
