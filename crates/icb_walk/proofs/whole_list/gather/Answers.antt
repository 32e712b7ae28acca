use Rattle.std.proofs.Common.{Some, None, rules}
use Rattle.icb_list.specs.Rows.{list_row}
use Rattle.icb_walk.proofs.EntryLemmas.{err_from, err_to, reads_as}
use Rattle.icb_walk.proofs.NextLemmas.{if_told, told_once, told_twice}
use Rattle.icb_walk.proofs.OpenLemmas.{found_is}
use Rattle.icb_walk.proofs.WholeLemmas.{gather_end, gather_given_up, gather_more, gather_refused, gather_start, gather_unopened, path_told, reads_on}
use Rattle.icb_walk.specs.Judged.{listing}
use Rattle.icb_walk.specs.declared.trouble.Trouble.TheVariants as trouble
use Rattle.icb_walk.proofs.whole_list.gather.Goals as goal

pub returns-in-Err-clause-rows : goal.returns-in-Err-clause-rows
returns-in-Err-clause-rows g c = told_once (g.S.Store.held c.args.store.now) _ _ (λ files told opens.
    gather_unopened files (listing c.args.file.now) c.in-Err.trouble opens) c.in-Err.ensures.opens

pub rows-init : goal.rows-init
rows-init g c = record {
  on = told_once (g.S.Store.held c.args.store.now) _ _ (λ files told opens.
      gather_start files (listing c.args.file.now) c.in-Ok.open_file _ (search rules) opens) c.in-Ok.ensures.opens;
  reads = reads_as g.S.Store _ _ _ c.args.store.now c.open.new.store (λ h. let x : ⊥ = cc in x) (λ h. absurd h) c.in-Ok.ensures.reads;
}

pub rows-preserved : goal.rows-preserved
rows-preserved g c = record {
  on = told_twice (g.S.Store.held c.args.store.now) (g.S.Store.held c.rows.store) _ _ _ c.rows.invariant.reads.same
      (λ files on next. gather_more files (listing c.args.file.now) c.rows.open_file c.next.new.self c.rows.rows.items _ c.in-Some.row (search rules) on
      (found_is list_row files (listing c.args.file.now) c.rows.open_file c.next.new.self c.in-Ok-next.found (Some c.in-Some.row) (search rules) (next (listing c.args.file.now) on.fits)))
      c.rows.invariant.on c.in-Ok-next.ensures.next;
  reads = reads_on g.S.Store c.args.file.now.path c.rows.open_file.stream.path ⊥ c.args.store.now c.rows.store c.next.new.store (g.met.S.Store.kept_twice _ _ _)
      (path_told (g.S.Store.held c.args.store.now) (listing c.args.file.now) c.rows.open_file c.rows.rows.items c.rows.invariant.on)
      c.rows.invariant.reads (reads_as g.S.Store _ _ _ c.rows.store c.next.new.store (λ h. let x : ⊥ = cc in x) (λ h. absurd h) c.in-Ok-next.ensures.reads);
}

pub returns-in-Err-next-clause-rows : goal.returns-in-Err-next-clause-rows
returns-in-Err-next-clause-rows g c = told_twice (g.S.Store.held c.args.store.now) (g.S.Store.held c.rows.store) _ _ _ c.rows.invariant.reads.same
    (λ files on next. gather_refused files (listing c.args.file.now) c.rows.open_file c.next.new.self c.rows.rows.items c.in-Err-next.trouble on (next (listing c.args.file.now) on.fits))
    c.rows.invariant.on c.in-Err-next.ensures.next

pub returns-in-Err-next-clause-reads : goal.returns-in-Err-next-clause-reads
returns-in-Err-next-clause-reads g c = reads_on g.S.Store c.args.file.now.path c.rows.open_file.stream.path _ c.args.store.now c.rows.store c.next.new.store (g.met.S.Store.kept_twice _ _ _)
    (path_told (g.S.Store.held c.args.store.now) (listing c.args.file.now) c.rows.open_file c.rows.rows.items c.rows.invariant.on)
    c.rows.invariant.reads (reads_as g.S.Store _ _ _ c.rows.store c.next.new.store
    (λ h. err_to c.in-Err-next.trouble trouble.Store (err_from c.in-Err-next.trouble trouble.Store h)) (λ h. err_to c.in-Err-next.trouble trouble.Store (err_from c.in-Err-next.trouble trouble.Store h)) c.in-Err-next.ensures.reads)

pub returns-in_default-clause-rows : goal.returns-in_default-clause-rows
returns-in_default-clause-rows g c = told_twice (g.S.Store.held c.args.store.now) (g.S.Store.held c.rows.store) _ _ _ c.rows.invariant.reads.same
    (λ files on next. gather_end files (listing c.args.file.now) c.rows.open_file c.next.new.self c.rows.rows on
    (found_is list_row files (listing c.args.file.now) c.rows.open_file c.next.new.self c.in-Ok-next.found None (search rules) (next (listing c.args.file.now) on.fits)))
    c.rows.invariant.on c.in-Ok-next.ensures.next

pub returns-in_default-clause-reads : goal.returns-in_default-clause-reads
returns-in_default-clause-reads g c = reads_on g.S.Store c.args.file.now.path c.rows.open_file.stream.path _ c.args.store.now c.rows.store c.next.new.store (g.met.S.Store.kept_twice _ _ _)
    (path_told (g.S.Store.held c.args.store.now) (listing c.args.file.now) c.rows.open_file c.rows.rows.items c.rows.invariant.on)
    c.rows.invariant.reads (reads_as g.S.Store _ _ _ c.rows.store c.next.new.store (λ h. let x : ⊥ = cc in absurd x) (λ h. let x : ⊥ = cc in absurd x) c.in-Ok-next.ensures.reads)

pub returns-then-is_err-clause-rows : goal.returns-then-is_err-clause-rows
returns-then-is_err-clause-rows g c = if_told (g.S.Store.held c.args.store.now) _ (λ files told. gather_given_up files (listing c.args.file.now))

pub returns-then-is_err-clause-reads : goal.returns-then-is_err-clause-reads
returns-then-is_err-clause-reads g c = reads_on g.S.Store c.args.file.now.path c.rows.open_file.stream.path _ c.args.store.now c.rows.store c.next.new.store (g.met.S.Store.kept_twice _ _ _)
    (path_told (g.S.Store.held c.args.store.now) (listing c.args.file.now) c.rows.open_file c.rows.rows.items c.rows.invariant.on)
    c.rows.invariant.reads (reads_as g.S.Store _ _ _ c.rows.store c.next.new.store (λ h. let x : ⊥ = cc in absurd x) (λ h. let x : ⊥ = cc in absurd x) c.in-Ok-next.ensures.reads)

pub returns-clause-rows : goal.returns-clause-rows
returns-clause-rows g c = if_told (g.S.Store.held c.args.store.now) _ (λ files told. gather_given_up files (listing c.args.file.now))
