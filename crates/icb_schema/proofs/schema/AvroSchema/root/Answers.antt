use Rattle.std.proofs.Common.{◌≡◌, true, subst}
use Rattle.icb_schema.specs.Nodes.{tree_of}
use Rattle.icb_schema.specs.Rules.{is_schema}
use Rattle.icb_schema.proofs.ArrayLemmas.{schema_has_sized_items}
use Rattle.icb_schema.proofs.schema.AvroSchema.root.Goals as goal

pub returns-clause-arrays : goal.returns-clause-arrays
returns-clause-arrays c = schema_has_sized_items (tree_of c.args.self.now) (subst (λ n. is_schema (tree_of n) ≡ true) c.self.view_is c.self.invariant)
