-- An input that isn't read to its end ends the command, or a draw, or want of memory, and else the put.
use Rattle.std.proofs.Common.{◌++◌, refl, rules, string_bytes, length-append}
use Rattle.icb_run.specs.Outside.{seen}
use Rattle.icb_run.proofs.EndLemmas.{blames_as}
use Rattle.icb_run.proofs.SealLemmas.{draw_ends, put_ends, read_ends, seal_ends}
use Rattle.icb_run.proofs.seal_file.seal_file.Goals as goal

pub returns-in-Err : goal.returns-in-Err
returns-in-Err g c =
    let o = seen g.S.Store g.G.Store g.I.Source g.K.Source g.M.Source g.D.Draws g.O.Sink c.args.outside.now in
    let ends = read_ends c.args.words o (g.I.Source.left c.read_to_end.new.input)
    (g.I.Source.faults c.read_to_end.new.input) c.in-Err.fault c.in-Err.ensures.read
    (blames_as o.faults.input (g.I.Source.faults c.read_to_end.new.input) (search rules) (search rules) c.in-Err.ensures.count) in
    rw c.read_status.ensures (record {
      meets = ends.meets;
      read = ends.read;
      ends = ends.ends;
      same_time = refl;
      same_table = refl;
      same_genuine = refl;
      same_input = refl;
      same_keys = refl;
      same_trusted = refl;
      same_draws = refl;
      same_out = refl;
    })

pub returns-in_default : goal.returns-in_default
returns-in_default g c =
    let o = seen g.S.Store g.G.Store g.I.Source g.K.Source g.M.Source g.D.Draws g.O.Sink c.args.outside.now in
    let ends = draw_ends c.args.words o c.in-Ok.text (g.I.Source.left c.read_to_end.new.input)
    (g.D.Draws.drawn c.draw.new.draws) (g.I.Source.faults c.read_to_end.new.input)
    (g.D.Draws.faults c.draw.new.draws) c.in-Ok.ensures.read (c.in-Ok.ensures.count.stays (search rules))
    c.in_default.ensures.failed c.in_default.ensures.draws.count.later
    (c.in_default.ensures.draws.count.rose (search rules)) in
    record {
      meets = ends.meets;
      read = ends.read;
      ends = ends.ends;
      same_time = refl;
      same_table = refl;
      same_genuine = refl;
      same_input = refl;
      same_keys = refl;
      same_trusted = refl;
      same_draws = refl;
      same_out = refl;
    }

pub returns-in-Ok-seal : goal.returns-in-Ok-seal
returns-in-Ok-seal g c =
    let o = seen g.S.Store g.G.Store g.I.Source g.K.Source g.M.Source g.D.Draws g.O.Sink c.args.outside.now in
    let drawn = c.in-Ok-draw.key.key ++ c.in-Ok-draw.key.seed in
    let ends = put_ends c.args.words o c.in-Ok.text drawn c.in-Ok-seal.sealed.object
    (string_bytes c.in-Ok-seal.sealed.line) (g.I.Source.left c.read_to_end.new.input)
    (g.D.Draws.drawn c.draw.new.draws) (g.S.Store.held c.put.new.table) (g.O.Sink.written c.put.new.out)
    (g.I.Source.faults c.read_to_end.new.input) (g.D.Draws.faults c.draw.new.draws)
    (g.S.Store.faults c.put.new.table) (g.O.Sink.faults c.put.new.out) c.put.result
    c.in-Ok.ensures.read (c.in-Ok.ensures.count.stays (search rules))
    (c.in-Ok-draw.ensures.draws.whole (search rules))
    (c.in-Ok-draw.ensures.draws.count.stays (search rules))
    (rw c.as_slice.ensures at c.in-Ok-seal.ensures.sealed) c.in-Ok-seal.ensures.line
    (rw c.as_slice-in-Ok-seal.ensures at c.put.ensures.puts) (rw c.as_str.ensures.value at c.put.ensures.prints)
    c.put.ensures.table c.put.ensures.out c.put.ensures.late in
    record {
      meets = ends.meets;
      read = ends.read;
      ends = ends.ends;
      same_time = refl;
      same_table = refl;
      same_genuine = refl;
      same_input = refl;
      same_keys = refl;
      same_trusted = refl;
      same_draws = refl;
      same_out = refl;
    }

pub returns-in-Err-seal : goal.returns-in-Err-seal
returns-in-Err-seal g c =
    let o = seen g.S.Store g.G.Store g.I.Source g.K.Source g.M.Source g.D.Draws g.O.Sink c.args.outside.now in
    let drawn = c.in-Ok-draw.key.key ++ c.in-Ok-draw.key.seed in
    let ends = seal_ends c.args.words o c.in-Ok.text drawn (g.I.Source.left c.read_to_end.new.input)
    (g.D.Draws.drawn c.draw.new.draws) (g.I.Source.faults c.read_to_end.new.input)
    (g.D.Draws.faults c.draw.new.draws) c.in-Ok.ensures.read (c.in-Ok.ensures.count.stays (search rules))
    (c.in-Ok-draw.ensures.draws.whole (search rules))
    (simp length-append (rw (c.in-Ok-draw.ensures.key_length, c.in-Ok-draw.ensures.seed_length) refl))
    (c.in-Ok-draw.ensures.draws.count.stays (search rules)) in
    record {
      meets = ends.meets;
      read = ends.read;
      ends = ends.ends;
      same_time = refl;
      same_table = refl;
      same_genuine = refl;
      same_input = refl;
      same_keys = refl;
      same_trusted = refl;
      same_draws = refl;
      same_out = refl;
    }
