use Rattle.std.proofs.Common.{◌≡◌, List, ℕ, take, map}
use Rattle.std.specs.List.{list_any}
use Rattle.std.specs.Ordering.{nat_cmp, is_eq}
use Rattle.std.specs.Cmp.Lexicographic.{slice_cmp}
use Rattle.std.specs.Str.{bytes_eq}
use Rattle.std.proofs.lemmas.Slice.Eq.{bytes_eq-Decides}
use Rattle.icb_meta.proofs.DistinctLemmas.{Distinct, among}
use Rattle.icb_meta.proofs.distinct.have_distinct_names.Given as goal

abbrev pub invariant-loop-item : goal.invariant-loop-item
invariant-loop-item g l = record {
  differ : Distinct (map g.T.Named.name (take l.item-index l.items));
  held : (q : (List ℕ)) → list_any (λ k. is_eq (slice_cmp nat_cmp q k.now)) l.before.keys ≡ among bytes_eq bytes_eq-Decides q (map g.T.Named.name (take l.item-index l.items));
}
