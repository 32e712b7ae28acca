-- A keyring that isn't read ends the command, or a master that isn't in it, a draw, want of memory, and else the put.
use Rattle.std.proofs.Common.{◌≡◌, Ok, refl, rules, Some, None}
use Rattle.icb_chain.specs.Ring.{key_named}
use Rattle.icb_create.specs.Drawn.{drawn_bytes}
use Rattle.icb_run.specs.Outside.{seen}
use Rattle.icb_run.proofs.EndLemmas.{blames_as}
use Rattle.icb_run.proofs.CreateLemmas.{created_of, draw_end, keys_end, memory_end, no_key_end, put_end}
use Rattle.icb_run.proofs.create.create_table.Goals as goal

pub returns-in-Err : goal.returns-in-Err
returns-in-Err g c =
    let o = seen g.S.Store g.G.Store g.I.Source g.K.Source g.M.Source g.D.Draws g.O.Sink c.args.outside.now in
    let ends = keys_end c.args.words o (g.K.Source.left c.read_keyring.new.keys)
    (g.K.Source.faults c.read_keyring.new.keys) c.in-Err.fault c.in-Err.ensures.read
    (blames_as o.faults.keys (g.K.Source.faults c.read_keyring.new.keys) (search rules) (search rules) c.in-Err.ensures.count) in
    rw c.keys_status.ensures (record {
      meets = ends.meets;
      read = ends.read;
      ends = ends.ends;
      same_time = refl;
      same_table = refl;
      same_genuine = refl;
      same_input = refl;
      same_keys = refl;
      same_trusted = refl;
      same_draws = refl;
      same_out = refl;
    })

pub returns-in_default : goal.returns-in_default
returns-in_default g c =
    let o = seen g.S.Store g.G.Store g.I.Source g.K.Source g.M.Source g.D.Draws g.O.Sink c.args.outside.now in
    let none : key_named c.args.words.master c.in-Ok.ring ≡ None = search rules in
    let ends = no_key_end c.args.words o c.in-Ok.ring (g.K.Source.left c.read_keyring.new.keys)
    (g.K.Source.faults c.read_keyring.new.keys) c.in-Ok.ensures.read (c.in-Ok.ensures.count.stays (search rules)) none in
    record {
      meets = ends.meets;
      read = ends.read;
      ends = ends.ends;
      same_time = refl;
      same_table = refl;
      same_genuine = refl;
      same_input = refl;
      same_keys = refl;
      same_trusted = refl;
      same_draws = refl;
      same_out = refl;
    }

pub returns-in_default-draw : goal.returns-in_default-draw
returns-in_default-draw g c =
    let o = seen g.S.Store g.G.Store g.I.Source g.K.Source g.M.Source g.D.Draws g.O.Sink c.args.outside.now in
    let named : key_named c.args.words.master c.in-Ok.ring ≡ Some c.in-Some.master.now = search rules in
    let ends = draw_end c.args.words o c.in-Ok.ring c.in-Some.master.now (g.K.Source.left c.read_keyring.new.keys)
    (g.D.Draws.drawn c.draw.new.draws) (g.K.Source.faults c.read_keyring.new.keys) (g.D.Draws.faults c.draw.new.draws)
    c.in-Ok.ensures.read (c.in-Ok.ensures.count.stays (search rules)) named
    c.in_default-draw.ensures.failed c.in_default-draw.ensures.draws.count.later
    (c.in_default-draw.ensures.draws.count.rose (search rules)) in
    record {
      meets = ends.meets;
      read = ends.read;
      ends = ends.ends;
      same_time = refl;
      same_table = refl;
      same_genuine = refl;
      same_input = refl;
      same_keys = refl;
      same_trusted = refl;
      same_draws = refl;
      same_out = refl;
    }

pub returns-in-Ok-first_version : goal.returns-in-Ok-first_version
returns-in-Ok-first_version g c =
    let o = seen g.S.Store g.G.Store g.I.Source g.K.Source g.M.Source g.D.Draws g.O.Sink c.args.outside.now in
    let named : key_named c.args.words.master c.in-Ok.ring ≡ Some c.in-Some.master.now = search rules in
    let ends = put_end c.args.words o c.in-Ok.ring c.in-Some.master.now (drawn_bytes (Ok c.in-Ok-draw.drawn))
    c.in-Ok-first_version.text (g.K.Source.left c.read_keyring.new.keys) (g.D.Draws.drawn c.draw.new.draws)
    (g.S.Store.held c.put_first.new.table) (g.O.Sink.written c.put_first.new.out)
    (g.K.Source.faults c.read_keyring.new.keys) (g.D.Draws.faults c.draw.new.draws)
    (g.S.Store.faults c.put_first.new.table) (g.O.Sink.faults c.put_first.new.out) c.put_first.result
    c.in-Ok.ensures.read (c.in-Ok.ensures.count.stays (search rules)) named
    (c.in-Ok-draw.ensures.draws.whole (search rules))
    (c.in-Ok-draw.ensures.draws.count.stays (search rules))
    (created_of c.args.words o.now_ms c.in-Some.master.now c.in-Ok-draw.drawn c.in-Ok-first_version.text
    c.in-Ok-draw.ensures.whole c.in-Ok-first_version.ensures)
    (rw c.as_slice.ensures at c.put_first.ensures.puts) (rw c.as_slice.ensures at c.put_first.ensures.prints)
    c.put_first.ensures.table c.put_first.ensures.out c.put_first.ensures.late in
    record {
      meets = ends.meets;
      read = ends.read;
      ends = ends.ends;
      same_time = refl;
      same_table = refl;
      same_genuine = refl;
      same_input = refl;
      same_keys = refl;
      same_trusted = refl;
      same_draws = refl;
      same_out = refl;
    }

pub returns : goal.returns
returns g c =
    let o = seen g.S.Store g.G.Store g.I.Source g.K.Source g.M.Source g.D.Draws g.O.Sink c.args.outside.now in
    let named : key_named c.args.words.master c.in-Ok.ring ≡ Some c.in-Some.master.now = search rules in
    let ends = memory_end c.args.words o c.in-Ok.ring (drawn_bytes (Ok c.in-Ok-draw.drawn))
    (g.K.Source.left c.read_keyring.new.keys) (g.D.Draws.drawn c.draw.new.draws)
    (g.K.Source.faults c.read_keyring.new.keys) (g.D.Draws.faults c.draw.new.draws)
    c.in-Ok.ensures.read (c.in-Ok.ensures.count.stays (search rules))
    (c.in-Ok-draw.ensures.draws.whole (search rules)) c.in-Ok-draw.ensures.whole.whole
    (c.in-Ok-draw.ensures.draws.count.stays (search rules)) in
    record {
      meets = ends.meets;
      read = ends.read;
      ends = ends.ends;
      same_time = refl;
      same_table = refl;
      same_genuine = refl;
      same_input = refl;
      same_keys = refl;
      same_trusted = refl;
      same_draws = refl;
      same_out = refl;
    }
