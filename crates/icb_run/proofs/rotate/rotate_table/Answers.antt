-- A keyring that isn't read ends the command, and else a rotation.
use Rattle.std.proofs.Common.{refl, rules}
use Rattle.icb_run.specs.Outside.{seen}
use Rattle.icb_run.proofs.EndLemmas.{blames_as}
use Rattle.icb_run.proofs.RotateLemmas.{rotate_end, unread_end}
use Rattle.icb_run.proofs.rotate.rotate_table.Goals as goal

pub returns-in-Err : goal.returns-in-Err
returns-in-Err g c =
    let o = seen g.S.Store g.G.Store g.I.Source g.K.Source g.M.Source g.D.Draws g.O.Sink c.args.outside.now in
    let ends = unread_end c.args.words o (g.K.Source.left c.read_keyring.new.keys)
    (g.K.Source.faults c.read_keyring.new.keys) c.in-Err.fault c.in-Err.ensures.read
    (blames_as o.faults.keys (g.K.Source.faults c.read_keyring.new.keys) (search rules) (search rules) c.in-Err.ensures.count) in
    rw c.keys_status.ensures (record {
      meets = ends.meets;
      read = ends.read;
      ends = ends.ends;
      same_time = refl;
      same_table = refl;
      same_genuine = refl;
      same_input = refl;
      same_keys = refl;
      same_trusted = refl;
      same_draws = refl;
      same_out = refl;
    })

pub returns : goal.returns
returns g c =
    let o = seen g.S.Store g.G.Store g.I.Source g.K.Source g.M.Source g.D.Draws g.O.Sink c.args.outside.now in
    let ends = rotate_end c.args.words o c.in-Ok.ring (g.K.Source.left c.read_keyring.new.keys)
    (g.D.Draws.drawn c.rotate_and_tell.new.draws) (g.S.Store.held c.rotate_and_tell.new.table)
    (g.O.Sink.written c.rotate_and_tell.new.out)
    (g.K.Source.faults c.read_keyring.new.keys) (g.D.Draws.faults c.rotate_and_tell.new.draws)
    (g.S.Store.faults c.rotate_and_tell.new.table) (g.O.Sink.faults c.rotate_and_tell.new.out) c.rotate_and_tell.result
    c.in-Ok.ensures.read (c.in-Ok.ensures.count.stays (search rules)) c.rotate_and_tell.ensures.rotates
    c.rotate_and_tell.ensures.table c.rotate_and_tell.ensures.draws c.rotate_and_tell.ensures.out
    c.rotate_and_tell.ensures.no_input in
    record {
      meets = ends.meets;
      read = ends.read;
      ends = ends.ends;
      same_time = refl;
      same_table = refl;
      same_genuine = refl;
      same_input = refl;
      same_keys = refl;
      same_trusted = refl;
      same_draws = refl;
      same_out = refl;
    }
