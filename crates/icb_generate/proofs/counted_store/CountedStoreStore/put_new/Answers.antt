-- A call that failed is counted, and the objects aren't counted further; a put is counted.
use Rattle.std.proofs.Common.{refl, rules}
use Rattle.icb_generate.proofs.CountingLemmas.{counts_failed, counts_put, failed_blames}
use Rattle.icb_generate.proofs.counted_store.CountedStoreStore.put_new.Goals as goal

pub returns-in-Err-clause-cause : goal.returns-in-Err-clause-cause
returns-in-Err-clause-cause g c = failed_blames _ _ c.fail.ensures.fits c.fail.ensures.failures

pub returns-in-Err-clause-kept : goal.returns-in-Err-clause-kept
returns-in-Err-clause-kept g c = (
  c.fail.ensures.same_store,
  rw c.fail.ensures.inner c.in-Err.ensures.kept,
  counts_failed _ _ c.fail.ensures.fits c.fail.ensures.failures
      (rw c.fail.ensures.inner c.in-Err.ensures.cause.later)
      (rw c.fail.ensures.inner (c.in-Err.ensures.cause.rose refl)),
)

pub returns-in-Ok-Done-clause-kept : goal.returns-in-Ok-Done-clause-kept
returns-in-Ok-Done-clause-kept g c = (
  c.count.ensures.same_store,
  rw c.count.ensures.inner c.in-Ok-Done.ensures.kept,
  rw (c.count.ensures.inner, c.count.ensures.failures) (counts_put _ _ c.args.path.now c.args.bytes.now c.in-Ok-Done.field-0 _ _ _ _ _ (search rules) c.count.ensures.fits c.count.ensures.puts
      (c.in-Ok-Done.ensures.cause.stays (search rules)) c.in-Ok-Done.ensures.puts),
)
