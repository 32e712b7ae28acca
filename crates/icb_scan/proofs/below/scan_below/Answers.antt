use Rattle.std.proofs.Common.{◌∙◌, sym, refl}
use Rattle.icb_datafile.proofs.ChoosingLemmas.{kept_words}
use Rattle.icb_datafile.proofs.WholeLemmas.{blames_as, blames_more, blames_none}
use Rattle.icb_walk.proofs.EntryLemmas.{err_from, err_to}
use Rattle.icb_walk.proofs.NextLemmas.{if_told, reads_as, reads_none, reads_store, reads_then}
use Rattle.icb_walk.specs.Judged.{listing}
use Rattle.icb_walk.specs.declared.fault.TreeFault.TheVariants as tree
use Rattle.icb_scan.proofs.ScanLemmas.{scanned_none}
use Rattle.icb_scan.proofs.TurnLemmas.{fits_before, turn_closed, turn_done, turn_end, turn_leaf_refused, turn_memory, turn_read, turn_refused}
use Rattle.icb_scan.specs.declared.fault.ScanFault.TheVariants as fault
use Rattle.icb_scan.proofs.below.scan_below.Goals as goal

pub files-init : goal.files-init
files-init g c = record {
  shows = if_told (g.S.Store.held c.args.store.now) _ (λ files told. (
    fits_before files c.args.walk.now c.requires.before.0 c.requires.before.1,
    λ plain allows has. scanned_none g.S.Store g.O.Sink c.args.schema.now.columns plain c.args.plan.now c.args.walk.now c.args.store.now c.args.sink.now
        c.requires.before.0 c.requires.before.1 c.requires.none,
  ));
  words = record { same_columns = refl; same_range = refl };
  same_list = refl;
  reads = reads_none g.S.Store ⊥ c.args.store.now (λ h. h) (g.met.S.Store.kept_at_rest c.args.store.now);
  count = blames_none (g.O.Sink.faults c.args.sink.now);
}

pub returns-then-is_done-clause-shows : goal.returns-then-is_done-clause-shows
returns-then-is_done-clause-shows g c = turn_done g.S.Store g.O.Sink c.args.schema.now.columns c.args.walk.now.location (listing c.args.walk.now.list) c.args.plan.now
    c.files.plan c.files.walk c.args.store.now c.files.store c.args.sink.now c.files.sink (sym c.is_done.ensures ∙ c.if-is_done.true) c.files.invariant.shows

pub returns-in-Ok-None-clause-shows : goal.returns-in-Ok-None-clause-shows
returns-in-Ok-None-clause-shows g c = turn_end g.S.Store g.O.Sink c.args.schema.now.columns c.args.walk.now.location (listing c.args.walk.now.list) c.args.plan.now
    c.files.plan c.files.walk c.next.new.self c.args.store.now c.files.store c.next.new.store c.args.sink.now c.files.sink c.files.invariant.reads.same
    (sym c.is_done.ensures ∙ c.if-is_done.false) c.files.invariant.shows (rw c.in-Ok-None.field-0-is at c.in-Ok-None.ensures.answers)

pub returns-in-Err-clause-shows : goal.returns-in-Err-clause-shows
returns-in-Err-clause-shows g c = turn_refused g.S.Store g.O.Sink c.args.schema.now.columns c.args.walk.now.location (listing c.args.walk.now.list) c.args.plan.now
    c.files.plan c.files.walk c.next.new.self c.args.store.now c.files.store c.next.new.store c.args.sink.now c.files.sink c.in-Err.fault c.tree_refused.result c.tree_refused.ensures
    c.files.invariant.reads.same (sym c.is_done.ensures ∙ c.if-is_done.false) c.files.invariant.shows c.in-Err.ensures.answers

pub files-preserved-then-not-may_match : goal.files-preserved-then-not-may_match
files-preserved-then-not-may_match g c = record {
  shows = turn_closed g.S.Store g.O.Sink c.args.schema.now.columns c.args.walk.now.location (listing c.args.walk.now.list) c.args.plan.now
      c.files.plan c.files.walk c.next.new.self c.in-Ok-Some.leaf c.args.store.now c.files.store c.next.new.store c.args.sink.now c.files.sink c.files.invariant.reads.same
      (sym c.is_done.ensures ∙ c.if-is_done.false) c.in-Ok-Some.ensures.same_list.1 (sym c.may_match.ensures ∙ c.if-not-may_match.true) c.files.invariant.shows c.in-Ok-Some.ensures.fits
      (rw c.in-Ok-Some.field-0-is at c.in-Ok-Some.ensures.answers);
  words = c.files.invariant.words;
  same_list = c.in-Ok-Some.ensures.same_list.1 ∙ c.files.invariant.same_list;
  reads = reads_then g.S.Store ⊥ c.args.store.now c.files.store c.next.new.store (g.met.S.Store.kept_twice _ _ _) c.files.invariant.reads
      (reads_as g.S.Store _ ⊥ c.files.store c.next.new.store (λ h. let x : ⊥ = cc in x) (λ h. absurd h) (rw c.in-Ok-Some.field-0-is at c.in-Ok-Some.ensures.reads));
  count = c.files.invariant.count;
}

pub files-preserved : goal.files-preserved
files-preserved g c =
    let walked = reads_then g.S.Store ⊥ c.args.store.now c.files.store c.next.new.store (g.met.S.Store.kept_twice _ _ _) c.files.invariant.reads
    (reads_as g.S.Store _ ⊥ c.files.store c.next.new.store (λ h. let x : ⊥ = cc in x) (λ h. absurd h) (rw c.in-Ok-Some.field-0-is at c.in-Ok-Some.ensures.reads)) in
    record {
      shows = turn_read g.S.Store g.O.Sink c.args.schema.now.columns c.args.walk.now.location (listing c.args.walk.now.list) c.args.plan.now
          c.files.plan c.print_leaf.new.plan c.files.walk c.next.new.self c.in-Ok-Some.leaf c.args.store.now c.files.store c.next.new.store c.print_leaf.new.store c.args.sink.now c.files.sink c.print_leaf.new.sink
          c.files.invariant.reads.same walked.same (sym c.is_done.ensures ∙ c.if-is_done.false) c.in-Ok-Some.ensures.same_list.1 (sym c.may_match.ensures ∙ c.if-not-may_match.false)
          c.requires.is_plan c.files.invariant.words c.in-Ok.ensures.words c.files.invariant.shows c.in-Ok-Some.ensures.fits
          (rw c.in-Ok-Some.field-0-is at c.in-Ok-Some.ensures.answers) c.in-Ok.ensures.prints c.in-Ok.ensures.reads.asks c.in-Ok.ensures.reads.moves;
      words = kept_words c.args.plan.now c.files.plan c.print_leaf.new.plan c.files.invariant.words c.in-Ok.ensures.words;
      same_list = c.in-Ok-Some.ensures.same_list.1 ∙ c.files.invariant.same_list;
      reads = reads_then g.S.Store ⊥ c.args.store.now c.next.new.store c.print_leaf.new.store (g.met.S.Store.kept_twice _ _ _) walked
          (reads_store g.S.Store _ _ ⊥ c.next.new.store c.print_leaf.new.store (λ h. let x : ⊥ = cc in x) (λ h. absurd h) c.in-Ok.ensures.reads);
      count = blames_more (g.O.Sink.faults c.args.sink.now) (g.O.Sink.faults c.files.sink) (g.O.Sink.faults c.print_leaf.new.sink) c.files.invariant.count
          (blames_as (g.O.Sink.faults c.files.sink) (g.O.Sink.faults c.print_leaf.new.sink) (λ h. let x : ⊥ = cc in x) (λ h. absurd h) c.in-Ok.ensures.sink);
    }

pub returns-in-Err-print_leaf-clause-shows : goal.returns-in-Err-print_leaf-clause-shows
returns-in-Err-print_leaf-clause-shows g c = turn_leaf_refused g.S.Store g.O.Sink c.args.schema.now.columns c.args.walk.now.location (listing c.args.walk.now.list) c.args.plan.now
    c.files.plan c.print_leaf.new.plan c.files.walk c.next.new.self c.in-Ok-Some.leaf c.args.store.now c.files.store c.next.new.store c.print_leaf.new.store c.args.sink.now c.files.sink c.print_leaf.new.sink c.in-Err-print_leaf.fault
    c.files.invariant.reads.same (c.in-Ok-Some.ensures.reads.same ∙ c.files.invariant.reads.same) (sym c.is_done.ensures ∙ c.if-is_done.false) c.in-Ok-Some.ensures.same_list.1
    (sym c.may_match.ensures ∙ c.if-not-may_match.false) c.requires.is_plan c.files.invariant.words c.in-Err-print_leaf.ensures.words c.files.invariant.shows
    (rw c.in-Ok-Some.field-0-is at c.in-Ok-Some.ensures.answers) c.in-Err-print_leaf.ensures.prints c.in-Err-print_leaf.ensures.reads.asks c.in-Err-print_leaf.ensures.reads.moves

pub returns-in-Err-print_leaf-clause-reads : goal.returns-in-Err-print_leaf-clause-reads
returns-in-Err-print_leaf-clause-reads g c =
    let walked = reads_then g.S.Store ⊥ c.args.store.now c.files.store c.next.new.store (g.met.S.Store.kept_twice _ _ _) c.files.invariant.reads
    (reads_as g.S.Store _ ⊥ c.files.store c.next.new.store (λ h. let x : ⊥ = cc in x) (λ h. absurd h) (rw c.in-Ok-Some.field-0-is at c.in-Ok-Some.ensures.reads)) in
    reads_then g.S.Store _ c.args.store.now c.next.new.store c.print_leaf.new.store (g.met.S.Store.kept_twice _ _ _) walked
    (reads_store g.S.Store _ _ _ c.next.new.store c.print_leaf.new.store
    (λ h. err_to c.in-Err-print_leaf.fault (fault.Tree tree.Store) (err_from c.in-Err-print_leaf.fault (fault.Tree tree.Store) h))
    (λ h. err_to c.in-Err-print_leaf.fault (fault.Tree tree.Store) (err_from c.in-Err-print_leaf.fault (fault.Tree tree.Store) h)) c.in-Err-print_leaf.ensures.reads)

pub returns-clause-shows : goal.returns-clause-shows
returns-clause-shows g c = turn_memory g.S.Store g.O.Sink c.args.schema.now.columns c.args.walk.now.location (listing c.args.walk.now.list) c.args.plan.now
    c.files.plan c.files.walk c.args.store.now c.files.store c.args.sink.now c.files.sink c.files.invariant.shows
