use Rattle.std.proofs.Common.{rules, ◌∙◌, sym, subst}
use Rattle.icb_reader.specs.Answers.{reader_fault_of}
use Rattle.icb_stream.specs.Attached.{IsContent}
use Rattle.icb_walk.proofs.CauseLemmas.{blames_none}
use Rattle.icb_walk.proofs.NextLemmas.{told_once}
use Rattle.icb_walk.proofs.OpenLemmas.{blamed_on, counted_by, opened_as_listed, opens_then, reason_told}
use Rattle.icb_walk.specs.Entries.{live_of}
use Rattle.icb_scan.proofs.LeafLemmas.{leaf_printed, leaf_stopped, leaf_unopened, leaf_unwritten, stopped_store}
use Rattle.icb_scan.proofs.leaf.print_leaf.Goals as goal

pub returns-in-Err-clause-prints : goal.returns-in-Err-clause-prints
returns-in-Err-clause-prints g c = told_once (g.S.Store.held c.args.store.now) _ _ (λ files told opens.
    leaf_unopened g.O.Sink files c.args.leaf.now.path c.args.leaf.now.key c.args.leaf.now.length c.args.schema.now.columns c.args.plan.now c.args.sink.now c.in-Err.fault c.stream_refused.result c.tree_refused.result
    c.requires.asked c.tree_refused.ensures opens c.stream_refused.ensures) c.in-Err.ensures.opens

pub returns-in-Ok-print_file-clause-prints : goal.returns-in-Ok-print_file-clause-prints
returns-in-Ok-print_file-clause-prints g c = told_once (g.S.Store.held c.args.store.now) _ _ (λ files told opens.
    leaf_printed g.O.Sink files (live_of c.args.leaf.now).listed c.in-Ok.stream
    (opened_as_listed files c.args.leaf.now.path c.args.leaf.now.key c.args.leaf.now.length c.in-Ok.stream opens) c.args.schema.now.columns c.args.plan.now c.print_file.new.plan c.args.sink.now c.print_file.new.sink
    (λ known is file fills. c.in-Ok-print_file.ensures.prints known (subst (λ o. IsContent c.in-Ok.stream o known) (sym (c.in-Ok.ensures.reads.same ∙ told)) is) file fills)) c.in-Ok.ensures.opens

pub returns-in-Ok-print_file-clause-reads : goal.returns-in-Ok-print_file-clause-reads
returns-in-Ok-print_file-clause-reads g c = opens_then g.S.Store c.args.leaf.now.path _ _ _ _ c.in-Ok.stream c.print_file.new.reader.stream.now c.args.store.now c.open.new.store c.print_file.new.reader.store.now _
    (search rules) (g.met.S.Store.kept_twice _ _ _) (λ h. let x : ⊥ = cc in x) c.in-Ok.ensures.layout.0 c.in-Ok.ensures.reads c.in-Ok-print_file.ensures.reader.kept.2
    (blames_none _ _ _ (λ h. let x : ⊥ = cc in x) c.in-Ok-print_file.ensures.reader.blamed)

pub returns-in-Err-File-clause-prints : goal.returns-in-Err-File-clause-prints
returns-in-Err-File-clause-prints g c = told_once (g.S.Store.held c.args.store.now) _ _ (λ files told opens.
    leaf_stopped g.O.Sink files (live_of c.args.leaf.now).listed c.in-Ok.stream
    (opened_as_listed files c.args.leaf.now.path c.args.leaf.now.key c.args.leaf.now.length c.in-Ok.stream opens) c.args.schema.now.columns c.args.plan.now c.print_file.new.plan c.args.sink.now c.print_file.new.sink
    c.in-Err-File.fault c.records_refused.result c.tree_refused-in-Err-File.result c.tree_refused-in-Err-File.ensures
    (λ known is file fills. (rw c.in-Err-File.field-0-is at c.in-Err-File.ensures.prints) known (subst (λ o. IsContent c.in-Ok.stream o known) (sym (c.in-Ok.ensures.reads.same ∙ told)) is) file fills)
    (λ gf e. reason_told (g.S.Store.held c.open.new.store) files c.in-Ok.stream
    (opened_as_listed files c.args.leaf.now.path c.args.leaf.now.key c.args.leaf.now.length c.in-Ok.stream opens).belongs gf (c.in-Ok.ensures.reads.same ∙ told)
    (blamed_on _ _ _ _ (reader_fault_of c.in-Err-File.fault) gf (rw c.in-Err-File.field-0-is at c.in-Err-File.ensures.reader.blamed) e).reason)
    c.records_refused.ensures) c.in-Ok.ensures.opens

pub returns-in-Err-File-clause-reads : goal.returns-in-Err-File-clause-reads
returns-in-Err-File-clause-reads g c = opens_then g.S.Store c.args.leaf.now.path _ _ _ _ c.in-Ok.stream c.print_file.new.reader.stream.now c.args.store.now c.open.new.store c.print_file.new.reader.store.now _
    (search rules) (g.met.S.Store.kept_twice _ _ _) (λ h. let x : ⊥ = cc in x) c.in-Ok.ensures.layout.0 c.in-Ok.ensures.reads c.in-Err-File.ensures.reader.kept.2
    (stopped_store c.args.leaf.now.path c.in-Err-File.fault c.records_refused.result c.tree_refused-in-Err-File.result _ _ c.tree_refused-in-Err-File.ensures c.records_refused.ensures
    (counted_by _ _ _ _ (reader_fault_of c.in-Err-File.fault) _ _ (rw c.in-Err-File.field-0-is at c.in-Err-File.ensures.reader.blamed) (λ h. h) (λ gf h. h.count)))

pub returns-clause-prints : goal.returns-clause-prints
returns-clause-prints g c = told_once (g.S.Store.held c.args.store.now) _ _ (λ files told opens.
    leaf_unwritten g.O.Sink files (live_of c.args.leaf.now).listed c.in-Ok.stream
    (opened_as_listed files c.args.leaf.now.path c.args.leaf.now.key c.args.leaf.now.length c.in-Ok.stream opens) c.args.schema.now.columns c.args.plan.now c.print_file.new.plan c.args.sink.now c.print_file.new.sink
    (λ known is file fills. (rw c.in-Err-Sink.field-0-is at c.in-Err-Sink.ensures.prints) known (subst (λ o. IsContent c.in-Ok.stream o known) (sym (c.in-Ok.ensures.reads.same ∙ told)) is) file fills)) c.in-Ok.ensures.opens

pub returns-clause-reads : goal.returns-clause-reads
returns-clause-reads g c = opens_then g.S.Store c.args.leaf.now.path _ _ _ _ c.in-Ok.stream c.print_file.new.reader.stream.now c.args.store.now c.open.new.store c.print_file.new.reader.store.now _
    (search rules) (g.met.S.Store.kept_twice _ _ _) (λ h. let x : ⊥ = cc in x) c.in-Ok.ensures.layout.0 c.in-Ok.ensures.reads c.in-Err-Sink.ensures.reader.kept.2
    (blames_none _ _ _ (λ h. let x : ⊥ = cc in x) (rw c.in-Err-Sink.field-0-is at c.in-Err-Sink.ensures.reader.blamed))
