use Rattle.icb_walk.proofs.EntryLemmas.{reads_nothing}
use Rattle.icb_walk.proofs.NextLemmas.{if_told, told_once}
use Rattle.icb_walk.proofs.open_manifest.OpenManifest.step.Goals as goal

pub returns-then-is_some-clause-steps : goal.returns-then-is_some-clause-steps
returns-then-is_some-clause-steps g c = if_told (g.S.Store.held c.args.store.now) _ (λ files told fits. c.pass_entry.ensures.steps files fits)

pub returns-then-is_some-clause-reads : goal.returns-then-is_some-clause-reads
returns-then-is_some-clause-reads g c = reads_nothing g.S.Store c.args.self.now.reader.stream.path _ c.args.store.now c.pass_entry.ensures.no_store (g.met.S.Store.kept_at_rest c.args.store.now)

pub returns-else-is_some-clause-steps : goal.returns-else-is_some-clause-steps
returns-else-is_some-clause-steps g c = told_once (g.S.Store.held c.args.store.now) _ _ (λ files told steps fits. steps fits c.args.location.now) c.read_entry.ensures.steps
