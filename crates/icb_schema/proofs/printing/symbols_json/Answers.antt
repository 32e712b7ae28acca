use Rattle.std.proofs.Common.{sym, ap, ◌∙◌, arith, drop, ◌+◌}
use Rattle.std.proofs.lemmas.List.{drop_all}
use Rattle.serde_json.specs.Data as json
use Rattle.icb_schema.specs.Printing.{texts_json}
use Rattle.icb_schema.proofs.PrintLemmas.{one_more, all_made, texts_step}
use Rattle.icb_schema.proofs.printing.symbols_json.Goals as goal

pub loop-symbol-preserved : goal.loop-symbol-preserved
loop-symbol-preserved c =
    one_more (texts_json c.args.symbols.now) c.loop-symbol.values.items c.push.new.self.items c.in_ok-try_from_str.field-0
    (texts_json (drop c.loop-symbol.symbol-index c.args.symbols.now)) (texts_json (drop (c.loop-symbol.symbol-index + 1) c.args.symbols.now))
    c.loop-symbol.invariant
    (texts_step c.args.symbols.now c.loop-symbol.symbol-index c.symbol-item.result (omega arith) c.symbol-item.is
    ∙ ap (λ d. json.item d (texts_json (drop (c.loop-symbol.symbol-index + 1) c.args.symbols.now))) (ap json.string (sym c.as_str.ensures) ∙ sym c.in_ok-try_from_str.ensures))
    c.in_ok-push.ensures.items

pub returns : goal.returns
returns c = all_made (texts_json c.args.symbols.now) c.loop-symbol.values.items (texts_json (drop c.loop-symbol.symbol-index c.args.symbols.now)) c.loop-symbol.invariant
    (ap texts_json (drop_all c.loop-symbol.symbol-index c.args.symbols.now (omega arith)))
