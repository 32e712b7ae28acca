use Rattle.std.proofs.Common.{Some, is_some, ap, sym, ◌∙◌}
use Rattle.std.specs.FinMap as finite
use Rattle.icb_schema.specs.Nodes.{tree_of}
use Rattle.icb_schema.specs.Reading.{name_of}
use Rattle.icb_schema.proofs.TypeLemmas.{types_of, still_some, inserted_type}
use Rattle.icb_schema.proofs.seen.Seen.remember.Goals as goal

pub returns : goal.returns
returns c = ap (λ types. record { count = c.args.self.now.count; types = types })
    (inserted_type c.args.self.now.types c.insert.new.self c.in_ok-name.name c.in_ok-node.node (tree_of c.args.node.now) (name_of (tree_of c.args.node.now))
    (sym c.in-Some.ensures ∙ ap (λ name. Some name) (sym (c.in_ok-name.ensures.ok ∙ c.as_str-2.ensures))) c.in_ok-node.ensures
    (ap (λ name. is_some (finite.get (types_of c.args.self.now.types.entries) name)) (c.in_ok-name.ensures.ok ∙ c.as_str-2.ensures ∙ sym c.as_str.ensures)
    ∙ ap is_some (sym c.find.ensures) ∙ still_some (λ n. tree_of n.now) c.find.result ∙ sym c.is_some.ensures ∙ c.if-is_some.false)
    c.in_ok-insert.ensures.updates)
