use Rattle.std.proofs.Common.{rules, ◌+◌, map, ap, sym, drop, take_all}
use Rattle.std.proofs.lemmas.List.Elements.{All-more, All-same}
use Rattle.icb_rows.specs.Rows.{HasData}
use Rattle.icb_rows.proofs.BlockLemmas.{block_more, left_from}
use Rattle.icb_rows.proofs.writing.blocks_of.Goals as goal

pub loop-row-preserved : goal.loop-row-preserved
loop-row-preserved c =
    let rest = left_from c.args.rows.now c.loop-row.row-index c.row-item.result (search rules) c.row-item.is in
    let both = block_more c.args.size c.args.columns.now c.loop-row.blocks c.next_block.new.blocks _ c.loop-row.last c.put_row.new.block c.in_ok-last.last c.row-item.result.items
    (map (λ row. row.items) (drop (c.loop-row.row-index + 1) c.args.rows.now)) _ c.loop-row.row-index c.loop-row.invariant.0 (rw (← c.as_slice.ensures.value) c.in_ok-put_row.ensures.block)
    c.in_ok-last.ensures.block c.in_ok-last.ensures.blocks (ap (map (λ row. row.items)) rest) c.loop-row.invariant.1 in (
      both.0,
      both.1,
      All-more (λ row. HasData c.args.columns.now row.items) c.args.rows.now c.loop-row.row-index c.row-item.result (search rules) c.loop-row.invariant.2
          (rw (← c.row-item.is, ← c.as_slice.ensures.value) c.in_ok-put_row.ensures.data),
    )

pub returns-clause-data : goal.returns-clause-data
returns-clause-data c =
    let all = take_all c.loop-row.row-index c.args.rows.now (search rules) in
    All-same (λ row. HasData c.args.columns.now row.items) c.args.rows.now _ (sym all) c.loop-row.invariant.2
