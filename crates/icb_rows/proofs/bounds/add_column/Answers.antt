use Rattle.std.proofs.Common.{◌∙◌, sym, map, option_map, List, arith}
use Rattle.std.proofs.lemmas.Int.{to_z-of_z}
use mir.Val.{SFits}
use mir.Syntax.{w32}
use Rattle.icb_types.specs.declared.datum.Datum.{Datum}
use Rattle.icb_rows.specs.Bounds.{column_data}
use Rattle.icb_rows.proofs.ColumnLemmas.{added_long, added_short, as_many, pushed}
use Rattle.icb_rows.proofs.bounds.add_column.Goals as goal

pub returns-in_ok-push_bound-2 : goal.returns-in_ok-push_bound-2
returns-in_ok-push_bound-2 c =
    let ds : List Datum = column_data c.args.at (map (λ row. row.items) c.args.rows.now) in
    let fits : SFits w32 c.args.id = c.ranges.id in
    added_short c.args.bounds.now c.push.new.self c.push-2.new.self c.push_bound.new.list c.push_bound-then-are_short.new.list c.args.id ds
    (option_map (λ d. d.now) c.least.result) (option_map (λ d. d.now) c.greatest.result) (sym c.are_short.ensures ∙ c.if-are_short.true) c.least.ensures c.greatest.ensures
    (pushed c.args.bounds.now.values c.push.new.self c.args.id _ _ c.ranges.id (omega arith) (sym (as_many (λ row. row.items) c.args.at c.args.rows.now)) c.in_ok-push.ensures.ok)
    (pushed c.args.bounds.now.nulls c.push-2.new.self c.args.id _ _ c.ranges.id (omega (arith, c.count_nulls.ensures.few)) c.count_nulls.ensures.count c.in_ok-push-2.ensures.ok)
    (simp to_z-of_z at c.in_ok-push_bound.ensures) (simp to_z-of_z at c.in_ok-push_bound-2.ensures)

pub returns-else-are_short : goal.returns-else-are_short
returns-else-are_short c =
    let ds : List Datum = column_data c.args.at (map (λ row. row.items) c.args.rows.now) in
    added_long c.args.bounds.now c.push.new.self c.push-2.new.self c.args.id ds (sym c.are_short.ensures ∙ c.if-are_short.false)
    (pushed c.args.bounds.now.values c.push.new.self c.args.id _ _ c.ranges.id (omega arith) (sym (as_many (λ row. row.items) c.args.at c.args.rows.now)) c.in_ok-push.ensures.ok)
    (pushed c.args.bounds.now.nulls c.push-2.new.self c.args.id _ _ c.ranges.id (omega (arith, c.count_nulls.ensures.few)) c.count_nulls.ensures.count c.in_ok-push-2.ensures.ok)
