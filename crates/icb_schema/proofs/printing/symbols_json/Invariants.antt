use Rattle.std.proofs.Common.{◌≡◌, drop}
use Rattle.serde_json.specs.View.{items_view}
use Rattle.icb_schema.specs.Printing.{texts_json}
use Rattle.icb_schema.proofs.PrintLemmas.{joined}
use Rattle.icb_schema.proofs.printing.symbols_json.Given as goal

abbrev pub invariant-loop-symbol : goal.invariant-loop-symbol
invariant-loop-symbol l = texts_json l.symbols ≡ joined (items_view l.values.items) (texts_json (drop l.symbol-index l.symbols))
