use Rattle.std.proofs.Common.{option_map, ap, sym, ◌∙◌}
use Rattle.icb_schema.specs.Nodes.{tree_of}
use Rattle.icb_schema.proofs.TypeLemmas.{copied_tree, get_types}
use Rattle.icb_schema.proofs.seen.Seen.find.Goals as goal

pub returns : goal.returns
returns c = copied_tree c.get.result ∙ ap (option_map tree_of) c.get.ensures.value ∙ sym (get_types c.args.name.now c.args.self.now.types.entries)
