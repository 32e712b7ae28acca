-- What the scan says of the store and the sink is said of what they tell.
use Rattle.std.proofs.Common.{◌∙◌, Ok, Err, ap, sym}
use Rattle.icb_meta.specs.Answers.{shown_of}
use Rattle.icb_run.specs.ScanStatus.{status_of_scan}
use Rattle.icb_run.proofs.PrintLemmas.{prints_committed, prints_complete, prints_start, prints_table}
use Rattle.icb_scan.specs.Start.{start_of}
use Rattle.icb_scan.specs.Words.{meant}
use Rattle.icb_table.specs.Table.{columns_asked}
use Rattle.icb_run.proofs.scan.print_chosen.Goals as goal

pub returns-in-Ok-clause-prints : goal.returns-in-Ok-clause-prints
returns-in-Ok-clause-prints g c = record {
  result = c.scan.result;
  is_status = sym (ap status_of_scan c.in-Ok.is);
  start = prints_start g.S.Store g.O.Sink (columns_asked (shown_of c.args.meta.now))
      (shown_of c.args.meta.now).heading.location
      (start_of (shown_of c.args.meta.now) c.args.ring.now (meant c.args.query.now))
      c.args.table.now c.scan.new.store c.args.out.now c.scan.new.sink c.scan.result c.scan.ensures.scans;
  table_rows = prints_table g.S.Store g.O.Sink (shown_of c.args.meta.now) c.args.ring.now (meant c.args.query.now)
      c.args.table.now c.scan.new.store c.args.out.now c.scan.new.sink c.scan.result c.scan.ensures.table;
  committed = prints_committed g.S.Store g.O.Sink (shown_of c.args.meta.now) c.args.ring.now (meant c.args.query.now)
      c.args.table.now c.scan.new.store c.args.out.now c.scan.new.sink c.scan.result c.scan.ensures.committed;
  complete = prints_complete g.S.Store g.O.Sink (shown_of c.args.meta.now) c.args.ring.now (meant c.args.query.now)
      c.args.table.now c.scan.new.store c.args.out.now c.scan.new.sink c.scan.result c.scan.ensures.complete;
}

pub returns-in-Err-clause-prints : goal.returns-in-Err-clause-prints
returns-in-Err-clause-prints g c = record {
  result = c.scan.result;
  is_status = c.scan_status.ensures ∙ sym (ap status_of_scan c.in-Err.is);
  start = prints_start g.S.Store g.O.Sink (columns_asked (shown_of c.args.meta.now))
      (shown_of c.args.meta.now).heading.location
      (start_of (shown_of c.args.meta.now) c.args.ring.now (meant c.args.query.now))
      c.args.table.now c.scan.new.store c.args.out.now c.scan.new.sink c.scan.result c.scan.ensures.scans;
  table_rows = prints_table g.S.Store g.O.Sink (shown_of c.args.meta.now) c.args.ring.now (meant c.args.query.now)
      c.args.table.now c.scan.new.store c.args.out.now c.scan.new.sink c.scan.result c.scan.ensures.table;
  committed = prints_committed g.S.Store g.O.Sink (shown_of c.args.meta.now) c.args.ring.now (meant c.args.query.now)
      c.args.table.now c.scan.new.store c.args.out.now c.scan.new.sink c.scan.result c.scan.ensures.committed;
  complete = prints_complete g.S.Store g.O.Sink (shown_of c.args.meta.now) c.args.ring.now (meant c.args.query.now)
      c.args.table.now c.scan.new.store c.args.out.now c.scan.new.sink c.scan.result c.scan.ensures.complete;
}
