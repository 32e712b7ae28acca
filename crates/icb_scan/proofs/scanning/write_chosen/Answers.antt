use Rattle.std.proofs.Common.{ap, subst}
use Rattle.std.specs.Prelude.{List, IfSome}
use Rattle.icb_meta.specs.Answers.{shown_of}
use Rattle.icb_types.specs.declared.columns.Column.{Column}
use Rattle.icb_types.specs.declared.columns.TableSchema.{TableSchema}
use Rattle.icb_datafile.specs.Left.{all_of}
use Rattle.icb_datafile.specs.Plans.{selection_by}
use Rattle.icb_walk.specs.Judged.{listing}
use Rattle.icb_scan.specs.Answers.{ShowsBelow}
use Rattle.icb_table.specs.Table.{columns_asked}
use Rattle.icb_scan.specs.Start.{start_of}
use Rattle.icb_scan.specs.Words.{meant}
use Rattle.icb_scan.proofs.EndLemmas.{scans_below, scans_unbegun}
use Rattle.icb_scan.proofs.scanning.write_chosen.Goals as goal

pub returns-in-Err-clause-scans : goal.returns-in-Err-clause-scans
returns-in-Err-clause-scans g c = scans_unbegun g.S.Store g.O.Sink (columns_asked (shown_of c.args.meta.now)) (shown_of c.args.meta.now).heading.location
    (start_of (shown_of c.args.meta.now) c.args.ring.now (meant c.args.query.now)) c.in-Err.fault c.args.store.now c.args.sink.now c.in-Err.ensures

pub returns-clause-scans : goal.returns-clause-scans
returns-clause-scans g c =
    let shows = subst (λ (cs : List Column). IfSome (g.S.Store.held c.args.store.now) (λ files. ShowsBelow g.S.Store g.O.Sink files (all_of cs) c.in-Some.walk.location (selection_by cs c.in-Ok.begun.plan)
    (listing c.in-Some.walk.list) c.args.store.now c.scan_below.new.store c.args.sink.now c.scan_below.new.sink c.scan_below.result)) (ap (λ (s : TableSchema). s.columns) c.schema.ensures.shown) c.scan_below.ensures.shows in
    scans_below g.S.Store g.O.Sink (columns_asked (shown_of c.args.meta.now)) (shown_of c.args.meta.now).heading.location
    (start_of (shown_of c.args.meta.now) c.args.ring.now (meant c.args.query.now)) c.in-Ok.begun c.in-Some.walk c.args.store.now c.scan_below.new.store c.args.sink.now c.scan_below.new.sink c.scan_below.result c.in-Ok.ensures c.in-Some.is shows
