-- What is done to the table and the output is what the command does.
use Rattle.std.proofs.Common.{refl}
use Rattle.icb_run.specs.Outside.{seen}
use Rattle.icb_run.proofs.ListingLemmas.{copy_ends}
use Rattle.icb_run.proofs.cat_file.cat_file.Goals as goal

pub returns : goal.returns
returns g c =
    let o = seen g.S.Store g.G.Store g.I.Source g.K.Source g.M.Source g.D.Draws g.O.Sink c.args.outside.now in
    let ends = copy_ends c.args.words o (g.S.Store.held c.write_slice.new.table) (g.O.Sink.written c.write_slice.new.out)
    (g.S.Store.faults c.write_slice.new.table) (g.O.Sink.faults c.write_slice.new.out) c.write_slice.result
    c.write_slice.ensures.reads.same c.write_slice.ensures.gives c.write_slice.ensures.reads.count
    c.write_slice.ensures.writes c.write_slice.ensures.no_input c.write_slice.ensures.no_random in
    record {
      meets = ends.meets;
      read = ends.read;
      ends = ends.ends;
      same_time = refl;
      same_table = refl;
      same_genuine = refl;
      same_input = refl;
      same_keys = refl;
      same_trusted = refl;
      same_draws = refl;
      same_out = refl;
    }
