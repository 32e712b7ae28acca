use Rattle.std.proofs.Common.{ap, ◌∙◌}
use Rattle.serde_json.specs.Written.{compact_text, has_float}
use Rattle.icb_columns.proofs.ColumnLemmas.{schema_float}
use Rattle.icb_columns.proofs.printing.schema_text.Goals as goal

pub returns : goal.returns
returns c = c.from_string.ensures ∙ c.in_ok-to_string.ensures.text (ap has_float c.in_ok-value.ensures ∙ schema_float c.args.schema.now) ∙ ap compact_text c.in_ok-value.ensures
