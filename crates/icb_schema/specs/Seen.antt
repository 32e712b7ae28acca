-- What the code has read, as the definitions see it.
use Rattle.std.specs.Prelude.{map, string_bytes}
use Rattle.std.specs.FinMap as finite
use Rattle.icb_schema.specs.Nodes.{tree_of}
use Rattle.icb_schema.specs.Reading as spec
use Rattle.icb_schema.specs.declared.seen.Seen.{Seen}

-- how many nodes were read, and the types that ended
abbrev pub seen_of : Seen → spec.Seen
seen_of s = record {
  count = s.count;
  types = finite.from_entries (map (λ e. (string_bytes e.0, tree_of e.1)) s.types.entries);
}
