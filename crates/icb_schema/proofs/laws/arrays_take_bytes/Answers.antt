use Rattle.icb_schema.proofs.ArrayLemmas.{schema_has_sized_items}
use Rattle.icb_schema.proofs.laws.arrays_take_bytes.Goals as goal

pub returns : goal.returns
returns c = schema_has_sized_items
