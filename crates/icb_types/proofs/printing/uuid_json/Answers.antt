use Rattle.std.proofs.Common.{ap, ◌∙◌}
use Rattle.serde_json.specs.Data as json
use Rattle.uuid.specs.Text.{hyphenated_text, lower}
use Rattle.icb_types.proofs.printing.uuid_json.Goals as goal

pub returns : goal.returns
returns c =
    c.in_ok-try_from_str.ensures ∙ ap json.string (c.encode_lower-text.ensures.text
    ∙ ap (hyphenated_text lower) (c.hyphenated.ensures ∙ c.from_u128.ensures))
