-- A keyring that isn't read ends the command, or an input that isn't, and else an append.
use Rattle.std.proofs.Common.{refl, rules}
use Rattle.icb_run.specs.Outside.{seen}
use Rattle.icb_run.proofs.AppendLemmas.{append_end, keys_end, read_end}
use Rattle.icb_run.proofs.EndLemmas.{blames_as}
use Rattle.icb_run.proofs.append.append_table.Goals as goal

pub returns-in-Err : goal.returns-in-Err
returns-in-Err g c =
    let o = seen g.S.Store g.G.Store g.I.Source g.K.Source g.M.Source g.D.Draws g.O.Sink c.args.outside.now in
    let ends = keys_end o (g.K.Source.left c.read_keyring.new.keys)
    (g.K.Source.faults c.read_keyring.new.keys) c.in-Err.fault c.in-Err.ensures.read
    (blames_as o.faults.keys (g.K.Source.faults c.read_keyring.new.keys) (search rules) (search rules) c.in-Err.ensures.count) in
    rw c.keys_status.ensures (record {
      meets = ends.meets;
      read = ends.read;
      ends = ends.ends;
      same_time = refl;
      same_table = refl;
      same_genuine = refl;
      same_input = refl;
      same_keys = refl;
      same_trusted = refl;
      same_draws = refl;
      same_out = refl;
    })

pub returns : goal.returns
returns g c =
    let o = seen g.S.Store g.G.Store g.I.Source g.K.Source g.M.Source g.D.Draws g.O.Sink c.args.outside.now in
    let ends = read_end o c.in-Ok.ring (g.K.Source.left c.read_keyring.new.keys) (g.I.Source.left c.read_to_end.new.input)
    (g.K.Source.faults c.read_keyring.new.keys) (g.I.Source.faults c.read_to_end.new.input)
    c.in-Err-read_to_end.fault c.in-Ok.ensures.read (c.in-Ok.ensures.count.stays (search rules))
    c.in-Err-read_to_end.ensures.read
    (blames_as o.faults.input (g.I.Source.faults c.read_to_end.new.input) (search rules) (search rules) c.in-Err-read_to_end.ensures.count) in
    rw c.read_status.ensures (record {
      meets = ends.meets;
      read = ends.read;
      ends = ends.ends;
      same_time = refl;
      same_table = refl;
      same_genuine = refl;
      same_input = refl;
      same_keys = refl;
      same_trusted = refl;
      same_draws = refl;
      same_out = refl;
    })

pub returns-in-Ok-read_to_end : goal.returns-in-Ok-read_to_end
returns-in-Ok-read_to_end g c =
    let o = seen g.S.Store g.G.Store g.I.Source g.K.Source g.M.Source g.D.Draws g.O.Sink c.args.outside.now in
    let ends = append_end o c.in-Ok.ring c.in-Ok-read_to_end.lines (g.K.Source.left c.read_keyring.new.keys)
    (g.I.Source.left c.read_to_end.new.input) (g.D.Draws.drawn c.append_and_tell.new.draws)
    (g.S.Store.held c.append_and_tell.new.table) (g.O.Sink.written c.append_and_tell.new.out)
    (g.K.Source.faults c.read_keyring.new.keys) (g.I.Source.faults c.read_to_end.new.input)
    (g.D.Draws.faults c.append_and_tell.new.draws) (g.S.Store.faults c.append_and_tell.new.table)
    (g.O.Sink.faults c.append_and_tell.new.out) c.append_and_tell.result
    c.in-Ok.ensures.read (c.in-Ok.ensures.count.stays (search rules))
    c.in-Ok-read_to_end.ensures.read (c.in-Ok-read_to_end.ensures.count.stays (search rules))
    c.append_and_tell.ensures.appends c.append_and_tell.ensures.table c.append_and_tell.ensures.draws
    c.append_and_tell.ensures.out c.append_and_tell.ensures.no_input in
    record {
      meets = ends.meets;
      read = ends.read;
      ends = ends.ends;
      same_time = refl;
      same_table = refl;
      same_genuine = refl;
      same_input = refl;
      same_keys = refl;
      same_trusted = refl;
      same_draws = refl;
      same_out = refl;
    }
