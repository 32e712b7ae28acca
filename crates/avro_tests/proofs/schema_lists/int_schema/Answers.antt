use Rattle.std.proofs.Common.{refl}
use Rattle.icb_schema.proofs.TreeLemmas.{tree_of_made, form_of_int}
use Rattle.icb_schema.specs.Rules.{is_schema}
use Rattle.avro_tests.proofs.schema_lists.int_schema.Goals as goal

pub new-requires : goal.new-requires
unfolding is_schema
new-requires c = rw (tree_of_made _ _ _, form_of_int) refl
