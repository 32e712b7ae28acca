-- A keyring that isn't read ends the command, or metadata that isn't, and else the rows are printed.
use Rattle.std.proofs.Common.{refl, rules}
use Rattle.icb_run.specs.Outside.{seen}
use Rattle.icb_run.proofs.EndLemmas.{blames_as}
use Rattle.icb_run.proofs.ScanLemmas.{keys_end, meta_end, scan_done}
use Rattle.icb_scan.specs.Words.{meant}
use Rattle.icb_run.proofs.scan.scan_table.Goals as goal

pub returns-in-Err : goal.returns-in-Err
returns-in-Err g c =
    let o = seen g.S.Store g.G.Store g.I.Source g.K.Source g.M.Source g.D.Draws g.O.Sink c.args.outside.now in
    let ends = keys_end c.args.words o (g.K.Source.left c.read_keyring.new.keys)
    (g.K.Source.faults c.read_keyring.new.keys) c.in-Err.fault c.in-Err.ensures.read
    (blames_as o.faults.keys (g.K.Source.faults c.read_keyring.new.keys) (search rules) (search rules) c.in-Err.ensures.count) in
    rw c.keys_status.ensures (record {
      meets = ends.meets;
      read = ends.read;
      ends = ends.ends;
      same_time = refl;
      same_table = refl;
      same_genuine = refl;
      same_input = refl;
      same_keys = refl;
      same_trusted = refl;
      same_draws = refl;
      same_out = refl;
    })

pub returns-in-Err-read_metadata : goal.returns-in-Err-read_metadata
returns-in-Err-read_metadata g c =
    let o = seen g.S.Store g.G.Store g.I.Source g.K.Source g.M.Source g.D.Draws g.O.Sink c.args.outside.now in
    let ends = meta_end c.args.words o c.in-Ok.ring (g.S.Store.held c.read_metadata.new.table)
    (g.K.Source.left c.read_keyring.new.keys) (g.M.Source.left c.read_metadata.new.trusted)
    (g.S.Store.faults c.read_metadata.new.table) (g.K.Source.faults c.read_keyring.new.keys)
    (g.M.Source.faults c.read_metadata.new.trusted) c.in-Err-read_metadata.status
    c.in-Ok.ensures.read (c.in-Ok.ensures.count.stays (search rules)) c.in-Err-read_metadata.ensures.finds
    c.in-Err-read_metadata.ensures.left c.in-Err-read_metadata.ensures.table.same
    c.in-Err-read_metadata.ensures.table.count c.in-Err-read_metadata.ensures.trusted
    c.in-Err-read_metadata.ensures.status in
    record {
      meets = ends.meets;
      read = ends.read;
      ends = ends.ends;
      same_time = refl;
      same_table = refl;
      same_genuine = refl;
      same_input = refl;
      same_keys = refl;
      same_trusted = refl;
      same_draws = refl;
      same_out = refl;
    }

pub returns-in-Ok-read_metadata : goal.returns-in-Ok-read_metadata
returns-in-Ok-read_metadata g c =
    let o = seen g.S.Store g.G.Store g.I.Source g.K.Source g.M.Source g.D.Draws g.O.Sink c.args.outside.now in
    let ends = scan_done c.args.words o c.in-Ok.ring c.in-Ok-read_metadata.meta (meant c.query_of.result)
    (g.S.Store.held c.read_metadata.new.table) (g.S.Store.held c.print_chosen.new.table)
    (g.K.Source.left c.read_keyring.new.keys) (g.M.Source.left c.read_metadata.new.trusted)
    (g.O.Sink.written c.print_chosen.new.out) (g.S.Store.faults c.read_metadata.new.table)
    (g.S.Store.faults c.print_chosen.new.table) (g.K.Source.faults c.read_keyring.new.keys)
    (g.M.Source.faults c.read_metadata.new.trusted) (g.O.Sink.faults c.print_chosen.new.out) c.print_chosen.result
    c.in-Ok.ensures.read (c.in-Ok.ensures.count.stays (search rules)) c.in-Ok-read_metadata.ensures.finds
    c.in-Ok-read_metadata.ensures.left c.in-Ok-read_metadata.ensures.table.same
    (c.in-Ok-read_metadata.ensures.table.count.stays (λ is. cc)) c.print_chosen.ensures.table.same
    (c.in-Ok-read_metadata.ensures.trusted.stays (λ is. cc)) c.query_of.ensures c.print_chosen.ensures.prints
    c.print_chosen.ensures.table.count c.print_chosen.ensures.out in
    record {
      meets = ends.meets;
      read = ends.read;
      ends = ends.ends;
      same_time = refl;
      same_table = refl;
      same_genuine = refl;
      same_input = refl;
      same_keys = refl;
      same_trusted = refl;
      same_draws = refl;
      same_out = refl;
    }
