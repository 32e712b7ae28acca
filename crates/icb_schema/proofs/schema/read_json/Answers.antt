use Rattle.std.proofs.Common.{sym, ◌∙◌, true≢false}
use Rattle.icb_schema.proofs.JsonLemmas.{json_of_utf8, json_of_none}
use Rattle.icb_schema.proofs.schema.read_json.Goals as goal

pub returns-in-Ok : goal.returns-in-Ok
returns-in-Ok c = json_of_utf8 c.args.text.now _ c.in-Ok.ensures.ok.0 c.in-Ok.ensures.ok.1

pub returns-else-is_memory : goal.returns-else-is_memory
returns-else-is_memory c = json_of_none c.args.text.now (c.in-Err.ensures.err (λ m. true≢false (sym (c.is_memory.ensures.1 m) ∙ c.if-is_memory.false)))
