use Rattle.std.proofs.Common.{sym, ◌∙◌, true≢false}
use Rattle.icb_meta.proofs.JsonLemmas.{json_found, no_json}
use Rattle.icb_meta.proofs.reading.json_in.Goals as goal

pub returns-in-Ok-clause-value : goal.returns-in-Ok-clause-value
returns-in-Ok-clause-value c = json_found c.args.text.now _ c.in-Ok.ensures.ok.0 c.in-Ok.ensures.ok.1

pub returns-else-is_memory-clause-value : goal.returns-else-is_memory-clause-value
returns-else-is_memory-clause-value c = no_json c.args.text.now (c.in-Err.ensures.err (λ m. true≢false (sym (c.is_memory.ensures.1 m) ∙ c.if-is_memory.false)))
