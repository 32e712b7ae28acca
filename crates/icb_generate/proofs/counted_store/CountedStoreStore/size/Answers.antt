-- A call that failed is counted, and the objects aren't counted further.
use Rattle.std.proofs.Common.{refl}
use Rattle.icb_generate.proofs.CountingLemmas.{counts_failed, failed_blames}
use Rattle.icb_generate.proofs.counted_store.CountedStoreStore.size.Goals as goal

pub returns-in-Err-clause-cause : goal.returns-in-Err-clause-cause
returns-in-Err-clause-cause g c = failed_blames _ _ c.fail.ensures.fits c.fail.ensures.failures

pub returns-in-Err-clause-kept : goal.returns-in-Err-clause-kept
returns-in-Err-clause-kept g c = (
  c.fail.ensures.same_store,
  rw c.fail.ensures.inner c.in-Err.ensures.kept,
  counts_failed _ _ c.fail.ensures.fits c.fail.ensures.failures
      (rw c.fail.ensures.inner c.in-Err.ensures.cause.later)
      (rw c.fail.ensures.inner (c.in-Err.ensures.cause.rose refl)),
)
