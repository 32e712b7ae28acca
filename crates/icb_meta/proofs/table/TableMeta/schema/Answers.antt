use Rattle.icb_meta.proofs.SchemaLemmas.{current_columns}
use Rattle.icb_meta.proofs.table.TableMeta.schema.Goals as goal

pub returns-clause-columns : goal.returns-clause-columns
returns-clause-columns c = current_columns _ _ c.args.self.now.shown
