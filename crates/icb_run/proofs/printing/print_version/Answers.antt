-- The word, and then the number.
use Rattle.std.proofs.Common.{◌++◌, codes, decimal, rules}
use Rattle.std.specs.Prelude.{IsErr}
use Rattle.icb_base.proofs.CallLemmas.{writes_failed, writes_twice}
use Rattle.icb_run.proofs.printing.print_version.Goals as goal

pub returns-in_err-print_text : goal.returns-in_err-print_text
returns-in_err-print_text g c =
    writes_failed g.O.Sink (codes "version ") (decimal c.args.version ++ codes "\n") (IsErr c.print_text.result)
    (IsErr c.from_residual.result) _ _ (search rules) (search rules) c.print_text.ensures

pub returns : goal.returns
returns g c =
    writes_twice g.O.Sink (codes "version ") (decimal c.args.version ++ codes "\n") (IsErr c.print_text.result)
    (IsErr c.print_number.result) _ _ _ (search rules) c.print_text.ensures c.print_number.ensures
