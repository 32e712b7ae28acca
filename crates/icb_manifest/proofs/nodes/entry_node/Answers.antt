use Rattle.std.proofs.Common.{codes, pos, ap, ◌∙◌}
use Rattle.icb_manifest.specs.Written.{entry_tree, part}
use Rattle.icb_manifest.proofs.WrittenLemmas.{entry_fields}
use Rattle.icb_manifest.proofs.nodes.entry_node.Goals as goal

pub returns : goal.returns
unfolding entry_tree
returns c = rw (entry_fields _ _ _ c.in_ok-push.ensures.ok c.in_ok-fields.ensures (c.in_ok-field.ensures ∙ ap (part (codes "data_file") (pos 2)) c.in_ok-file.ensures)) at c.record_node.ensures
