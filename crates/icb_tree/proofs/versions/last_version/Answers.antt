-- The search goes on from version to version.
use Rattle.std.proofs.Common.{◌≡◌, arith}
use Rattle.icb_tree.proofs.VersionLemmas.{goes_on, is_full, reads_on, stops}
use Rattle.icb_tree.proofs.versions.last_version.Goals as goal

pub loop-version-preserved : goal.loop-version-preserved
loop-version-preserved g c = record {
  free = goes_on (g.S.Store.held c.args.store.now) c.loop-version.version c.in-Ok-true.field-0
      c.loop-version-test.true c.in-Ok-true.field-0-test
      c.loop-version.invariant.free (rw c.loop-version.invariant.reads.same at c.in-Ok-true.ensures.held);
  reads = reads_on g.S.Store _ c.args.store.now c.loop-version.store c.holds_version.new.store
      (g.met.S.Store.kept_twice _ _ _) (λ e. let f : ⊥ = cc in f)
      c.loop-version.invariant.reads c.in-Ok-true.ensures.reads;
}

pub returns-in-Ok-false-clause-last : goal.returns-in-Ok-false-clause-last
returns-in-Ok-false-clause-last g c =
    stops (g.S.Store.held c.args.store.now) c.loop-version.version c.in-Ok-false.field-0 c.version_before.result
    c.loop-version-test.true c.in-Ok-false.field-0-test
    c.loop-version.invariant.free (rw c.loop-version.invariant.reads.same at c.in-Ok-false.ensures.held)
    c.version_before.ensures

pub returns-clause-last : goal.returns-clause-last
returns-clause-last g c =
    is_full (g.S.Store.held c.args.store.now) c.loop-version.version (omega (arith, c.loop-version-test.false))
    c.loop-version.invariant.free
