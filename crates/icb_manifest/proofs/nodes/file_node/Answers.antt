use Rattle.std.proofs.Common.{map, codes, pos, ap, ◌∙◌}
use Rattle.icb_schema.specs.Nodes.{part_of}
use Rattle.icb_fields.specs.Making.{record_tree}
use Rattle.icb_manifest.specs.Written.{file_tree, part}
use Rattle.icb_manifest.proofs.WrittenLemmas.{file_fields}
use Rattle.icb_manifest.proofs.nodes.file_node.Goals as goal

pub returns : goal.returns
unfolding file_tree
returns c =
    let partition = c.in_ok-partition.ensures ∙ ap (λ fs. record_tree (codes "r102") (map part_of fs)) c.new.ensures in
    let one = c.in_ok-field.ensures ∙ ap (part (codes "partition") (pos 102)) partition in
    rw (file_fields _ _ _ _ _ c.in_ok-push.ensures.ok c.in_ok-append.ensures c.in_ok-fields.ensures one c.in_ok-count_fields.ensures) at c.record_node-2.ensures
