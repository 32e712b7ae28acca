use Rattle.std.proofs.Common.{◌∙◌, sym, subst}
use Rattle.icb_container.specs.Known.{ReadsOnly}
use Rattle.icb_reader.specs.Answers.{records_fault}
use Rattle.icb_datafile.specs.Plans.{emptied}
use Rattle.icb_datafile.proofs.BlockLemmas.{some_passed}
use Rattle.icb_datafile.proofs.DatumLemmas.{reader_is_calm}
use Rattle.icb_datafile.proofs.data_file.DataFile.step.Goals as goal

pub returns-then-is_err-clause-steps : goal.returns-then-is_err-clause-steps
returns-then-is_err-clause-steps g c = λ known is file fills columns f stands plan.
    some_passed c.print_block-printed.result columns f c.args.self.now c.print_block-printed.new.self (emptied c.args.plan.now) c.print_block-printed.new.plan file
    (c.print_block-printed.ensures.prints known is file fills columns f stands plan)

pub returns-then-is_err-clause-reader : goal.returns-then-is_err-clause-reader
returns-then-is_err-clause-reader g c =
    let calm = reader_is_calm (records_fault c.print_block-printed.result) c.print_block-printed.new.plan.text c.write_text.result c.print_block-printed.ensures.quiet
    (λ e. c.write_text.ensures.empty (c.as_slice.ensures ∙ e)) (sym c.is_err.ensures.value ∙ c.if-is_err.true) in
    subst (λ o. ReadsOnly g.R.ReadAt o c.args.reader.now c.print_block-printed.new.reader) calm c.print_block-printed.ensures.reader

pub returns-in-Ok-clause-steps : goal.returns-in-Ok-clause-steps
returns-in-Ok-clause-steps g c = λ known is file fills columns f stands plan.
    rw c.in-Ok.is at (c.print_block-printed.ensures.prints known is file fills columns f stands plan)

pub returns-in-Err-clause-steps : goal.returns-in-Err-clause-steps
returns-in-Err-clause-steps g c = λ known is file fills columns f stands plan.
    rw c.in-Err.is at (c.print_block-printed.ensures.prints known is file fills columns f stands plan)
