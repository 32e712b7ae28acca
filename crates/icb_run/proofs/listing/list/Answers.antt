-- What is done to the table and the output is what the command does.
use Rattle.std.proofs.Common.{refl}
use Rattle.icb_run.specs.Outside.{seen}
use Rattle.icb_run.proofs.ListingLemmas.{list_ends}
use Rattle.icb_run.proofs.listing.list.Goals as goal

pub returns : goal.returns
returns g c =
    let o = seen g.S.Store g.G.Store g.I.Source g.K.Source g.M.Source g.D.Draws g.O.Sink c.args.outside.now in
    let ends = list_ends c.args.which o (g.S.Store.held c.list_table.new.table) (g.O.Sink.written c.list_table.new.out)
    (g.S.Store.faults c.list_table.new.table) (g.O.Sink.faults c.list_table.new.out) c.list_table.result
    c.list_table.ensures.reads.same c.list_table.ensures.prints c.list_table.ensures.reads.count
    c.list_table.ensures.writes c.list_table.ensures.no_input c.list_table.ensures.no_random in
    record {
      meets = ends.meets;
      read = ends.read;
      ends = ends.ends;
      same_time = refl;
      same_table = refl;
      same_genuine = refl;
      same_input = refl;
      same_keys = refl;
      same_trusted = refl;
      same_draws = refl;
      same_out = refl;
    }
