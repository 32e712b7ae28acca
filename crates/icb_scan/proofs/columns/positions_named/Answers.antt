use Rattle.std.proofs.Common.{◌∙◌, ◌+◌, drop, sym, arith}
use Rattle.std.proofs.lemmas.List.{drop_all}
use Rattle.icb_datafile.proofs.DatumLemmas.{when_ok}
use Rattle.icb_scan.proofs.PlanLemmas.{found_all, found_more, found_not, next_name}
use Rattle.icb_scan.proofs.columns.positions_named.Goals as goal

pub returns-in_default : goal.returns-in_default
returns-in_default c =
    let split = next_name c.args.names.now c.loop-name.name-index c.name-item.result (omega arith) c.name-item.is in
    found_not c.args.columns.now c.args.names.now (drop c.loop-name.name-index c.args.names.now) (drop (c.loop-name.name-index + 1) c.args.names.now) c.name-item.result c.loop-name.positions c.no_column.result
    c.loop-name.invariant split c.in_default.ensures c.no_column.ensures

pub loop-name-preserved : goal.loop-name-preserved
loop-name-preserved c =
    let split = next_name c.args.names.now c.loop-name.name-index c.name-item.result (omega arith) c.name-item.is in
    let pushed = when_ok c.push.result _ (sym c.is_err.ensures.value ∙ c.if-is_err.false) c.push.ensures.ok in
    found_more c.args.columns.now c.args.names.now (drop c.loop-name.name-index c.args.names.now) (drop (c.loop-name.name-index + 1) c.args.names.now) c.name-item.result c.loop-name.positions c.push.new.self c.in-Some.at
    c.loop-name.invariant split c.in-Some.ensures.0 c.in-Some.ensures.1 pushed

pub returns : goal.returns
returns c =
    found_all c.args.columns.now c.args.names.now (drop c.loop-name.name-index c.args.names.now) c.loop-name.positions c.loop-name.invariant (drop_all c.loop-name.name-index c.args.names.now (omega arith))
