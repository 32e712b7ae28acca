use Rattle.std.proofs.Common.{◌≡◌, ℤ, take, map}
use Rattle.std.specs.List.{list_any}
use Rattle.std.specs.Ordering.{int_cmp, is_eq, int_eq}
use Rattle.icb_meta.proofs.DistinctLemmas.{Distinct, among, int_decides}
use Rattle.icb_meta.proofs.distinct.have_distinct_ids.Given as goal

abbrev pub invariant-loop-item : goal.invariant-loop-item
invariant-loop-item g l = record {
  differ : Distinct (map g.T.Numbered.number (take l.item-index l.items));
  held : (q : ℤ) → list_any (λ k. is_eq (int_cmp q k)) l.before.keys ≡ among int_eq int_decides q (map g.T.Numbered.number (take l.item-index l.items));
}
