use Rattle.std.proofs.Common.{◌≡◌, List, ℕ, take, map}
use Rattle.std.specs.List.{list_any}
use Rattle.std.specs.Ordering.{nat_cmp, is_eq}
use Rattle.std.specs.Cmp.Lexicographic.{slice_cmp}
use Rattle.icb_schema.specs.Names.{is_among}
use Rattle.icb_schema.proofs.NameLemmas.{Distinct}
use Rattle.icb_schema.proofs.names.are_distinct.Given as goal

abbrev pub invariant-loop-name : goal.invariant-loop-name
invariant-loop-name l = record {
  differ : Distinct (map (λ n. n.now) (take l.name-index l.names));
  held : (q : List ℕ) → list_any (λ k. is_eq (slice_cmp nat_cmp q k.now)) l.before.keys ≡ is_among q (map (λ n. n.now) (take l.name-index l.names));
}
