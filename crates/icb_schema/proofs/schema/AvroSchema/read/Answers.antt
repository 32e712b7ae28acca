use Rattle.serde_json.specs.View.{view}
use Rattle.icb_schema.specs.Nodes.{tree_of}
use Rattle.icb_schema.proofs.Kept.{schema_kept}
use Rattle.icb_schema.proofs.NamedTypes.{types_agree}
use Rattle.icb_schema.proofs.schema.AvroSchema.read.Goals as goal

pub invariant_of-result : goal.invariant_of-result
invariant_of-result c = schema_kept (view c.in_ok-value.value) (tree_of c.in_ok-root.root) c.in_ok-root.ensures

pub returns-clause-references : goal.returns-clause-references
returns-clause-references c = types_agree (view c.in_ok-value.value) (tree_of c.in_ok-root.root) c.in_ok-root.ensures
