-- The digits, and then the line feed.
use Rattle.std.proofs.Common.{codes, decimal, rules}
use Rattle.std.specs.Prelude.{IsErr}
use Rattle.icb_base.specs.Calls.{WritesText}
use Rattle.icb_base.proofs.CallLemmas.{writes_failed, writes_twice}
use Rattle.icb_run.proofs.printing.print_number.Goals as goal

pub returns-in_err-print_text : goal.returns-in_err-print_text
returns-in_err-print_text g c =
    let wrote : WritesText g.O.Sink (decimal c.args.number) (IsErr c.print_text.result) c.args.out.now c.print_text.new.out =
    rw c.format.ensures.text at c.print_text.ensures in
    writes_failed g.O.Sink (decimal c.args.number) (codes "\n") (IsErr c.print_text.result)
    (IsErr c.from_residual.result) _ _ (search rules) (search rules) wrote

pub returns : goal.returns
returns g c =
    let wrote : WritesText g.O.Sink (decimal c.args.number) (IsErr c.print_text.result) c.args.out.now c.print_text.new.out =
    rw c.format.ensures.text at c.print_text.ensures in
    writes_twice g.O.Sink (decimal c.args.number) (codes "\n") (IsErr c.print_text.result)
    (IsErr c.print_text-2.result) _ _ _ (search rules) wrote c.print_text-2.ensures
