use Rattle.icb_append.proofs.LineLemmas.{first_cut, first_whole}
use Rattle.icb_append.proofs.lines.first_line.Goals as goal

pub returns-in-Some-clause-lines : goal.returns-in-Some-clause-lines
returns-in-Some-clause-lines c = first_cut c.args.input.now c.in-Some.at c.in-Some.ensures.place

pub returns-in-None-clause-lines : goal.returns-in-None-clause-lines
returns-in-None-clause-lines c = first_whole c.args.input.now c.requires c.in-None.ensures.place
