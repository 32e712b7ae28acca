use Rattle.std.proofs.Common.{rules, map, Ok}
use Rattle.std.proofs.lemmas.List.Elements.{All-map}
use Rattle.icb_rows.specs.Rows.{HasData}
use Rattle.icb_rows.proofs.BlockLemmas.{rows_data, written_holds}
use Rattle.icb_rows.proofs.writing.write_limited.Goals as goal

pub returns-clause-rows : goal.returns-clause-rows
returns-clause-rows c = λ is.
    let columns = c.args.schema.now.columns in
    let rows = map (λ row. row.items) c.args.rows.now in
    let own = rows_data columns rows (All-map (HasData columns) (λ row. row.items) c.args.rows.now (rw (← c.as_slice-columns.ensures) c.in_ok-blocks.ensures.data)) in
    let holds = written_holds {E = Unit {0}} (Ok c.in_ok-write_container.field-0) _ c.args.sync.now _ columns rows c.args.block c.in_ok-write_container.ensures.content (search rules) (search rules) (search rules) c.requires own in
    holds (record { headed = is; blocks = search rules })

pub returns-clause-data : goal.returns-clause-data
returns-clause-data c =
    let columns = c.args.schema.now.columns in
    rows_data columns (map (λ row. row.items) c.args.rows.now) (All-map (HasData columns) (λ row. row.items) c.args.rows.now (rw (← c.as_slice-columns.ensures) c.in_ok-blocks.ensures.data))
