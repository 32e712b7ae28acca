-- What the pieces give is the answer of the file.
use Rattle.std.proofs.Common.{inr}
use Rattle.icb_run.proofs.AnswerLemmas.{wrote_nothing}
use Rattle.icb_run.proofs.ToldLemmas.{unless_told, where_both_told}
use Rattle.icb_run.proofs.CopyLemmas.{opened_file}
use Rattle.icb_run.proofs.cat_file.copy_plaintext.Goals as goal

pub returns-in_default-clause-gives : goal.returns-in_default-clause-gives
returns-in_default-clause-gives g c =
    unless_told (g.S.Store.held c.args.table.now)
    (λ files. inr (tt, wrote_nothing (g.O.Sink.written c.args.out.now) _))

pub returns-clause-gives : goal.returns-clause-gives
returns-clause-gives g c =
    where_both_told (g.S.Store.held c.args.table.now)
    (λ files opened gives. opened_file files c.args.words.now c.in-Ok.stream c.copy_pieces.result _ _ _ _ opened
    (rw c.plain_length.ensures at c.slice_of-start.ensures.begins)
    (rw c.plain_length.ensures at c.slice_of-start.ensures.counts) gives)
    c.in-Ok.ensures.opens (rw c.in-Ok.ensures.reads.same at c.copy_pieces.ensures.gives)
