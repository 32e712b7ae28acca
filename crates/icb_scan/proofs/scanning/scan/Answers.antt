use Rattle.icb_meta.specs.Answers.{shown_of}
use Rattle.icb_scan.specs.Words.{meant}
use Rattle.icb_scan.proofs.CommittedLemmas.{scans_committed}
use Rattle.icb_scan.proofs.CompleteLemmas.{scans_complete}
use Rattle.icb_scan.proofs.TableLemmas.{scans_table}
use Rattle.icb_scan.proofs.scanning.scan.Goals as goal

pub returns-clause-table : goal.returns-clause-table
returns-clause-table g c = scans_table g.S.Store g.O.Sink (shown_of c.args.meta.now) c.args.ring.now (meant c.args.query.now) c.args.store.now c.write_chosen.new.store c.args.sink.now c.write_chosen.new.sink c.write_chosen.result c.write_chosen.ensures.scans

pub returns-clause-committed : goal.returns-clause-committed
returns-clause-committed g c = scans_committed g.S.Store g.O.Sink (shown_of c.args.meta.now) c.args.ring.now (meant c.args.query.now) c.args.store.now c.write_chosen.new.store c.args.sink.now c.write_chosen.new.sink c.write_chosen.result
    (scans_table g.S.Store g.O.Sink (shown_of c.args.meta.now) c.args.ring.now (meant c.args.query.now) c.args.store.now c.write_chosen.new.store c.args.sink.now c.write_chosen.new.sink c.write_chosen.result c.write_chosen.ensures.scans)

pub returns-clause-complete : goal.returns-clause-complete
returns-clause-complete g c = scans_complete g.S.Store g.O.Sink (shown_of c.args.meta.now) c.args.ring.now (meant c.args.query.now) c.args.store.now c.write_chosen.new.store c.args.sink.now c.write_chosen.new.sink c.write_chosen.result c.write_chosen.ensures.scans
    (scans_table g.S.Store g.O.Sink (shown_of c.args.meta.now) c.args.ring.now (meant c.args.query.now) c.args.store.now c.write_chosen.new.store c.args.sink.now c.write_chosen.new.sink c.write_chosen.result c.write_chosen.ensures.scans)
    c.write_chosen.ensures.reads.count c.write_chosen.ensures.sink
