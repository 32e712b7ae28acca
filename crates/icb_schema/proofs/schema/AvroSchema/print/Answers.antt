use Rattle.std.proofs.Common.{◌≡◌, ap, ◌∙◌, true, false, subst, IsUtf8}
use Rattle.serde_json.specs.Written.{compact_text, has_float}
use Rattle.serde_json.specs.View.{view}
use Rattle.icb_schema.specs.Nodes.{tree_of}
use Rattle.icb_schema.specs.Printing.{text_of, json_of}
use Rattle.icb_schema.specs.Reading.{schema_of}
use Rattle.icb_schema.specs.Rules.{is_schema}
use Rattle.icb_schema.proofs.RoundTrip.{printed_again}
use Rattle.icb_schema.proofs.TextLemmas.{small_json}
use Rattle.icb_schema.proofs.schema.AvroSchema.print.Goals as goal

pub returns-clause-text : goal.returns-clause-text
unfolding text_of
returns-clause-text c =
    let whole = c.in_ok-value.ensures ∙ ap (λ n. json_of false (tree_of n)) c.self.view_is in
    c.from_string.ensures ∙ c.in_ok-text.ensures.text (ap has_float whole ∙ (small_json false (tree_of c.args.self.now)).0) ∙ ap compact_text whole

pub returns-clause-reads_back : goal.returns-clause-reads_back
returns-clause-reads_back c =
    let whole = c.in_ok-value.ensures ∙ ap (λ n. json_of false (tree_of n)) c.self.view_is in
    let kept : is_schema (tree_of c.args.self.now) ≡ true = subst (λ n. is_schema (tree_of n) ≡ true) c.self.view_is c.self.invariant in
    λ distinct. ap schema_of c.from_string.ensures ∙ printed_again (tree_of c.args.self.now) _ (view c.in_ok-value.value) kept distinct whole (subst IsUtf8 c.as_str-bytes.ensures.value c.as_str-bytes.utf8) c.in_ok-text.ensures.reads_back
