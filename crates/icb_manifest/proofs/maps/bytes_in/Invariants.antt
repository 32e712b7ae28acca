use Rattle.std.proofs.Common.{◌≡◌, drop}
use Rattle.icb_schema.specs.Nodes.{form_of}
use Rattle.icb_manifest.specs.Maps.{all_pairs, bytes_pair}
use Rattle.icb_manifest.proofs.PairLemmas.{behind}
use Rattle.icb_manifest.proofs.maps.bytes_in.Given as goal

abbrev pub invariant-loop-item : goal.invariant-loop-item
invariant-loop-item l = all_pairs (bytes_pair l.ids) (form_of l.node.kind) l.items ≡ behind l.pairs (all_pairs (bytes_pair l.ids) (form_of l.node.kind) (drop l.item-index l.items))
