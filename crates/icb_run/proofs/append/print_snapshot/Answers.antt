-- The word, and then the id.
use Rattle.std.proofs.Common.{◌≡◌, ◌++◌, codes, rules, to_z, of_z, w64}
use Rattle.std.specs.Fmt.{signed_decimal}
use Rattle.std.specs.Prelude.{IsErr}
use Rattle.icb_base.proofs.CallLemmas.{writes_failed, writes_twice}
use Rattle.icb_run.proofs.append.print_snapshot.Goals as goal

pub returns-in_err-print_text : goal.returns-in_err-print_text
returns-in_err-print_text g c =
    writes_failed g.O.Sink (codes "snapshot ") (signed_decimal c.args.id ++ codes " ") (IsErr c.print_text.result)
    (IsErr c.from_residual.result) _ _ (search rules) (search rules) c.print_text.ensures

pub returns : goal.returns
returns g c =
    let same : to_z w64 (of_z w64 c.args.id) ≡ c.args.id = search rules in
    writes_twice g.O.Sink (codes "snapshot ") (signed_decimal c.args.id ++ codes " ") (IsErr c.print_text.result)
    (IsErr c.print_id.result) _ _ _ (search rules) c.print_text.ensures (rw same at c.print_id.ensures)
