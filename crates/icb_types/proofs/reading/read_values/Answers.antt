use Rattle.std.proofs.Common.{◌≡◌, ap, sym, ◌∙◌, Err, length, arith}
use Rattle.icb_types.specs.Lines.{as_u32}
use Rattle.icb_types.specs.declared.fault.RowFault.TheVariants as fault
use Rattle.icb_types.proofs.ReadLemmas.{row_in_all, row_in_none, row_in_others}
use Rattle.icb_types.proofs.reading.read_values.Goals as goal

pub returns-in_default : goal.returns-in_default
returns-in_default c = row_in_none c.args.columns.now _ c.in_default.ensures

pub returns-then-len-columns : goal.returns-then-len-columns
returns-then-len-columns c =
    let values = c.in-Some.values.now in
    let counted : c.len.result ≡ length values.items = omega (arith, values.ok.0) in
    let found : c.len-then-len-columns.result ≡ length values.items = omega (arith, values.ok.0) in
    row_in_others c.args.columns.now _ values.items c.in-Some.ensures (λ same. c.if-len-columns.true (counted ∙ same))
    ∙ ap (λ n. Err (fault.RowLength n)) (sym (c.as_u32.ensures ∙ ap as_u32 found))

pub returns : goal.returns
returns c =
    let values = c.in-Some.values.now in
    let same : length values.items ≡ length c.args.columns.now = omega (arith, values.ok.0) in
    let all = row_in_all c.args.columns.now _ values.items c.in-Some.ensures same in
    rw (all, sym c.deref.ensures.value) c.read_data.ensures
