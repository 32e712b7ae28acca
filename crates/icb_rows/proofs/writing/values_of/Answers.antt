use Rattle.std.proofs.Common.{rules}
use Rattle.icb_rows.proofs.BlockLemmas.{data_more, values_more}
use Rattle.icb_rows.proofs.writing.values_of.Goals as goal

pub loop-at-preserved : goal.loop-at-preserved
loop-at-preserved c = (
  values_more c.args.columns.now c.loop-at.at c.index-columns-at.result c.args.row.now c.loop-at.values c.push.new.self _ _ c.in_ok-column_value.field-0 (search rules) c.index-columns-at.is (search rules)
      c.in_ok-column_value.ensures.value c.in_ok-push.ensures.ok c.loop-at.invariant.0,
  data_more c.args.row.now c.loop-at.at c.loop-at.invariant.1 (rw (← c.datum_at-datum.ensures) c.in_ok-column_value.ensures.data),
)
