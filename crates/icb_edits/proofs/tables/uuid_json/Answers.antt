use Rattle.std.proofs.Common.{option_map, Some, sym, ap, ◌∙◌}
use Rattle.std.specs.Int.{w128, from_be_bytes}
use Rattle.serde_json.specs.Data as json
use Rattle.uuid.specs.Text.{hyphenated_text, lower}
use Rattle.uuid.proofs.OrderLemmas.{from_be_bytes-to_be_bytes_16}
use Rattle.icb_types.specs.Lines.{uuid_in}
use Rattle.icb_edits.proofs.tables.uuid_json.Goals as goal

pub returns-clause-json : goal.returns-clause-json
returns-clause-json c =
    c.in_ok-try_from_str.ensures ∙ ap json.string (c.encode_lower-text.ensures.text
    ∙ ap (hyphenated_text lower) (c.hyphenated.ensures ∙ c.from_u128.ensures))

pub returns-clause-reads : goal.returns-clause-reads
returns-clause-reads c =
    ap uuid_in c.in_ok-try_from_str.ensures
    ∙ ap (option_map (from_be_bytes w128)) (sym (ap Some (sym (c.hyphenated.ensures ∙ c.from_u128.ensures)) ∙ c.encode_lower-text.ensures.parsed))
    ∙ ap Some (from_be_bytes-to_be_bytes_16 c.args.uuid c.ranges.uuid.fits)
