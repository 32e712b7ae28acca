-- Each version before this one is held, and the store was only read.
use Rattle.std.proofs.Common.{◌≡◌, ◌-◌}
use Rattle.std.specs.Prelude.{IfSome}
use Rattle.icb_tree.specs.Reading.{ReadsOnly}
use Rattle.icb_tree.specs.Versions.{first_free}
use Rattle.icb_tree.proofs.versions.last_version.Given as goal

abbrev pub invariant-loop-version : goal.invariant-loop-version
invariant-loop-version g l = record {
  free : IfSome (g.S.Store.held l.initial.store) (λ files.
      first_free files (1000002 - l.version) l.version ≡ first_free files 1000001 1);
  reads : ReadsOnly g.S.Store ⊥ l.initial.store l.store;
}
