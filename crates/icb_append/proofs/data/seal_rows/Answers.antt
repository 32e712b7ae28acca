use Rattle.std.proofs.Common.{map, ◌∙◌}
use Rattle.icb_append.proofs.DataLemmas.{is_one_file, sealed_objects}
use Rattle.icb_append.proofs.data.seal_rows.Goals as goal

pub returns-in-Ok-clause-object : goal.returns-in-Ok-clause-object
returns-in-Ok-clause-object c =
    sealed_objects c.seal.result c.args.settings c.args.schema.now.columns (map (λ row. row.items) c.args.rows.now) c.args.path.now c.args.marker.now c.as_slice.result.now c.args.key
    (c.as_slice.ensures ∙ c.in-Ok.ensures.bytes) (rw c.as_slice.ensures c.in-Ok.ensures.rows) c.in-Ok.ensures.data c.seal.ensures.bytes c.seal.ensures.own c.seal.ensures.stream c.seal.ensures.is_path

pub returns-in-Ok-clause-passed : goal.returns-in-Ok-clause-passed
returns-in-Ok-clause-passed c =
    is_one_file c.seal.result c.args.settings c.args.schema.now.columns (map (λ row. row.items) c.args.rows.now) c.args.marker.now c.as_slice.result.now
    (c.as_slice.ensures ∙ c.in-Ok.ensures.bytes) c.in-Ok.ensures.within c.seal.ensures.passed
