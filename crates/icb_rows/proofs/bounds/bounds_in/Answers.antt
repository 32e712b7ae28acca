use Rattle.std.proofs.Common.{◌≡◌, ap, subst, length, get_or, map, arith, rules}
use Rattle.std.proofs.lemmas.Int.{to_z-of_z}
use mir.Val.{SFits}
use mir.Syntax.{w32}
use Rattle.icb_rows.specs.Bounds.{bounds_of}
use Rattle.icb_rows.proofs.ColumnLemmas.{bounds_more}
use Rattle.icb_rows.proofs.bounds.bounds_in.Goals as goal

pub loop-at-preserved : goal.loop-at-preserved
loop-at-preserved c =
    let fits : SFits w32 c.column-item.result.id = search rules in
    bounds_more c.args.schema.now.columns c.loop-at.at c.column-item.result (map (λ row. row.items) c.args.rows.now) c.loop-at.bounds c.add_column.new.bounds (bounds_of c.args.schema.now.columns (map (λ row. row.items) c.args.rows.now))
    (omega (arith, ap length c.as_slice-column-items.ensures)) (subst (λ columns. c.column-item.result ≡ get_or columns c.loop-at.at c.column-item.result) c.as_slice-column-items.ensures c.column-item.is) c.loop-at.invariant (simp to_z-of_z at c.in_ok-add_column.ensures)
