use Rattle.icb_types.proofs.TableLemmas.{table_schema}
use Rattle.icb_types.proofs.TypeNames.{table_names}
use Rattle.icb_types.proofs.columns.TableSchema.avro_schema.Goals as goal

pub new-requires : goal.new-requires
new-requires c = rw (c.in_ok-table_node.ensures, c.as_slice.ensures) (table_schema c.args.self.now.columns c.requires)

pub returns-clause-names : goal.returns-clause-names
returns-clause-names c =
    rw (c.new.ensures, c.in_ok-table_node.ensures, c.as_slice.ensures) (table_names c.args.self.now.columns c.requires)
