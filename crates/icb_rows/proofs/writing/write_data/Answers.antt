use Rattle.std.proofs.Common.{rules}
use Rattle.std.proofs.lemmas.List.Elements.{All-map}
use Rattle.icb_rows.specs.Rows.{HasData}
use Rattle.icb_rows.proofs.BlockLemmas.{if_ok, rows_data, written_holds}
use Rattle.icb_rows.proofs.writing.write_data.Goals as goal

pub returns-clause-rows : goal.returns-clause-rows
returns-clause-rows c =
    let own = All-map (HasData c.args.schema.now.columns) (λ row. row.items) c.as_slice.result.now (search rules) in
    written_holds c.write_container.result _ _ _ c.args.schema.now.columns c.args.rows.now c.args.block c.write_container.ensures.content (search rules) (search rules) (search rules) c.requires
    (rows_data c.args.schema.now.columns c.args.rows.now (rw (← c.as_slice.ensures) own))

pub returns-clause-data : goal.returns-clause-data
returns-clause-data c =
    let own = All-map (HasData c.args.schema.now.columns) (λ row. row.items) c.as_slice.result.now (search rules) in
    if_ok _ c.write_container.result (rows_data c.args.schema.now.columns c.args.rows.now (rw (← c.as_slice.ensures) own))
