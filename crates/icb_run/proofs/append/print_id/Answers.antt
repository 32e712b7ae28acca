-- The digits, and then the blank.
use Rattle.std.proofs.Common.{◌≡◌, codes, rules, to_z, of_z, w64}
use Rattle.std.specs.Fmt.{signed_decimal}
use Rattle.std.specs.Prelude.{IsErr}
use Rattle.icb_base.specs.Calls.{WritesText}
use Rattle.icb_base.proofs.CallLemmas.{writes_failed, writes_twice}
use Rattle.icb_run.proofs.append.print_id.Goals as goal

pub returns-in_err-print_text : goal.returns-in_err-print_text
returns-in_err-print_text g c =
    let same : to_z w64 (of_z w64 c.args.id) ≡ c.args.id = search rules in
    let wrote : WritesText g.O.Sink (signed_decimal c.args.id) (IsErr c.print_text.result) c.args.out.now c.print_text.new.out =
    rw (c.format.ensures.text, same) at c.print_text.ensures in
    writes_failed g.O.Sink (signed_decimal c.args.id) (codes " ") (IsErr c.print_text.result)
    (IsErr c.from_residual.result) _ _ (search rules) (search rules) wrote

pub returns : goal.returns
returns g c =
    let same : to_z w64 (of_z w64 c.args.id) ≡ c.args.id = search rules in
    let wrote : WritesText g.O.Sink (signed_decimal c.args.id) (IsErr c.print_text.result) c.args.out.now c.print_text.new.out =
    rw (c.format.ensures.text, same) at c.print_text.ensures in
    writes_twice g.O.Sink (signed_decimal c.args.id) (codes " ") (IsErr c.print_text.result)
    (IsErr c.print_text-2.result) _ _ _ (search rules) wrote c.print_text-2.ensures
