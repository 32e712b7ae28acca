use Rattle.std.proofs.Common.{sym, ap, ◌∙◌, arith, drop, ◌+◌}
use Rattle.std.proofs.lemmas.List.{drop_all}
use Rattle.serde_json.specs.Data as json
use Rattle.icb_schema.proofs.PrintLemmas.{all_made, one_more}
use Rattle.icb_columns.specs.Printed.{columns_json}
use Rattle.icb_columns.proofs.ColumnLemmas.{columns_step}
use Rattle.icb_columns.proofs.printing.columns_json.Goals as goal

pub loop-column-preserved : goal.loop-column-preserved
loop-column-preserved c =
    one_more (columns_json c.args.columns.now) c.loop-column.values.items c.push.new.self.items c.in_ok-column_json.field-0
    (columns_json (drop c.loop-column.column-index c.args.columns.now)) (columns_json (drop (c.loop-column.column-index + 1) c.args.columns.now))
    c.loop-column.invariant
    (columns_step c.args.columns.now c.loop-column.column-index c.column-item.result (omega arith) c.column-item.is
    ∙ ap (λ d. json.item d (columns_json (drop (c.loop-column.column-index + 1) c.args.columns.now))) (sym c.in_ok-column_json.ensures))
    c.in_ok-push.ensures.items

pub returns : goal.returns
returns c = all_made (columns_json c.args.columns.now) c.loop-column.values.items (columns_json (drop c.loop-column.column-index c.args.columns.now)) c.loop-column.invariant
    (ap columns_json (drop_all c.loop-column.column-index c.args.columns.now (omega arith)))
