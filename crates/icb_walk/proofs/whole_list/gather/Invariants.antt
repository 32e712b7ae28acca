use Rattle.std.proofs.Common.{IfSome}
use Rattle.icb_walk.proofs.WholeLemmas.{IsSoFar}
use Rattle.icb_walk.specs.Judged.{listing}
use Rattle.icb_walk.specs.Steps.{ReadsFile}
use Rattle.icb_walk.proofs.whole_list.gather.Given as goal

abbrev pub invariant-rows : goal.invariant-rows
invariant-rows g l = record {
  on : IfSome (g.S.Store.held l.fn.store) (λ files. IsSoFar files (listing l.file) l.open_file l.rows.items);
  reads : ReadsFile g.S.Store l.file.path ⊥ l.fn.store l.store;
}
