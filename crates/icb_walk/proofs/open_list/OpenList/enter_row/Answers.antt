use Rattle.std.proofs.Common.{refl, Some, None, rules, inl, inr}
use Rattle.icb_walk.proofs.EntryLemmas.{at_from, err_from, err_to, fault_at, lists_no_store}
use Rattle.icb_walk.proofs.NextLemmas.{if_told, reads_none, reads_store, told_once}
use Rattle.icb_walk.proofs.RowLemmas.{asks_told, none_then, row_comes, row_entered, row_fails, row_passed, row_stops, same_row}
use Rattle.icb_walk.specs.Judged.{listing}
use Rattle.icb_walk.specs.declared.fault.TreeFault.TheVariants as fault
use Rattle.icb_walk.proofs.open_list.OpenList.enter_row.Goals as goal

pub returns-in_default-clause-enters : goal.returns-in_default-clause-enters
returns-in_default-clause-enters g c = if_told (g.S.Store.held c.args.store.now) _ (λ files told fits.
    none_then g.S.Store files c.args.location.now c.args.file.now c.args.self.now c.take.new.self c.args.store.now c.args.store.now _ (search rules)
    (record { fits = fits; asks = inl refl; answers = same_row c.args.location.now c.args.file.now c.args.self.now None (search rules) }))

pub returns-then-is_passed-clause-enters : goal.returns-then-is_passed-clause-enters
returns-then-is_passed-clause-enters g c = if_told (g.S.Store.held c.args.store.now) _ (λ files told fits.
    none_then g.S.Store files c.args.location.now c.args.file.now c.args.self.now c.take.new.self c.args.store.now c.args.store.now _ (search rules)
    (record { fits = fits; asks = inl refl; answers = row_passed c.args.location.now c.args.file.now c.args.self.now c.in-Some.placed (search rules) (search rules) }))

pub returns-in-Err-clause-enters : goal.returns-in-Err-clause-enters
returns-in-Err-clause-enters g c = if_told (g.S.Store.held c.args.store.now) _ (λ files told fits.
    record {
      fits = fits;
      asks = inl refl;
      answers = (
        same_row c.args.location.now c.args.file.now c.args.self.now (Some c.in-Some.placed) (search rules),
        row_stops files c.args.location.now c.args.file.now c.args.self.now c.in-Some.placed c.in-Err.trouble c.at.result (search rules) (search rules) c.in-Err.ensures c.at.ensures,
      );
    })

pub returns-in-Err-clause-fault : goal.returns-in-Err-clause-fault
returns-in-Err-clause-fault g c = fault_at c.args.file.now.path c.in-Err.trouble c.at.result c.at.ensures

pub returns-in-Err-clause-reads : goal.returns-in-Err-clause-reads
returns-in-Err-clause-reads g c = reads_none g.S.Store _ c.args.store.now
    (λ is. lists_no_store listing c.in-Err.trouble _ c.in-Err.ensures (at_from c.args.file.now.path c.in-Err.trouble c.at.result c.at.ensures (err_from c.at.result fault.Store is)))
    (g.met.S.Store.kept_at_rest c.args.store.now)

pub returns-in-Ok-open_manifest-clause-enters : goal.returns-in-Ok-open_manifest-clause-enters
returns-in-Ok-open_manifest-clause-enters g c = told_once (g.S.Store.held c.args.store.now) _ _ (λ files told opens fits.
    none_then g.S.Store files c.args.location.now c.args.file.now c.args.self.now c.take.new.self c.args.store.now c.open_manifest.new.store _ (search rules) (record {
      fits = fits;
      asks = inr (
        listing c.in-Ok.found,
        row_comes c.args.location.now c.args.file.now c.args.self.now c.in-Some.placed c.in-Ok.found (search rules) (search rules) c.in-Ok.ensures,
        asks_told g.S.Store files _ _ c.args.store.now c.open_manifest.new.store told c.open_manifest.ensures.reads,
      );
      answers = row_entered files c.args.location.now c.args.file.now c.args.self.now c.in-Some.placed c.in-Ok.found c.in-Ok-open_manifest.manifest (search rules) (search rules) c.in-Ok.ensures opens;
    })) c.in-Ok-open_manifest.ensures.opens

pub returns-in-Ok-open_manifest-clause-reads : goal.returns-in-Ok-open_manifest-clause-reads
returns-in-Ok-open_manifest-clause-reads g c = reads_store g.S.Store _ _ _ c.args.store.now c.open_manifest.new.store (λ h. let x : ⊥ = cc in absurd x) (λ h. let x : ⊥ = cc in absurd x) c.in-Ok-open_manifest.ensures.reads

pub returns-in-Err-open_manifest-clause-enters : goal.returns-in-Err-open_manifest-clause-enters
returns-in-Err-open_manifest-clause-enters g c = told_once (g.S.Store.held c.args.store.now) _ _ (λ files told opens fits.
    record {
      fits = fits;
      asks = inr (
        listing c.in-Ok.found,
        row_comes c.args.location.now c.args.file.now c.args.self.now c.in-Some.placed c.in-Ok.found (search rules) (search rules) c.in-Ok.ensures,
        asks_told g.S.Store files _ _ c.args.store.now c.open_manifest.new.store told c.open_manifest.ensures.reads,
      );
      answers = (
        same_row c.args.location.now c.args.file.now c.args.self.now (Some c.in-Some.placed) (search rules),
        row_fails files c.args.location.now c.args.file.now c.args.self.now c.in-Some.placed c.in-Ok.found c.in-Err-open_manifest.fault (search rules) (search rules) c.in-Ok.ensures opens c.in-Err-open_manifest.ensures.fault,
      );
    }) c.in-Err-open_manifest.ensures.opens

pub returns-in-Err-open_manifest-clause-reads : goal.returns-in-Err-open_manifest-clause-reads
returns-in-Err-open_manifest-clause-reads g c = reads_store g.S.Store _ _ _ c.args.store.now c.open_manifest.new.store
    (λ h. err_to c.in-Err-open_manifest.fault fault.Store (err_from c.in-Err-open_manifest.fault fault.Store h)) (λ h. err_to c.in-Err-open_manifest.fault fault.Store (err_from c.in-Err-open_manifest.fault fault.Store h)) c.in-Err-open_manifest.ensures.reads
