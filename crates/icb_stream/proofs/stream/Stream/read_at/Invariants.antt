-- The range is read up to the block, and so many blocks were asked for.
use Rattle.std.proofs.Common.{◌≡◌, length}
use Rattle.icb_base.specs.Calls.{ReadsPath}
use Rattle.icb_stream.specs.Asking.{number_held}
use Rattle.icb_stream.proofs.AskingLemmas.{bytes_below, calls_below, held_below}
use Rattle.icb_stream.proofs.ReadLemmas.{Reading}
use Rattle.icb_stream.proofs.stream.Stream.read_at.Given as goal

abbrev pub invariant-loop-number : goal.invariant-loop-number
invariant-loop-number g l = record {
  same_path : l.self.path ≡ l.fn.self.path;
  same_layout : l.self.layout ≡ l.fn.self.layout;
  holds : number_held l.self.block ≡ held_below l.fn.self l.at (length l.out) l.number;
  read : Reading (g.S.Store.held l.fn.store) l.fn.self l.self l.at l.out l.number;
  reads : ReadsPath g.S.Store l.fn.self.path (calls_below l.fn.self l.at (length l.out) l.number)
      (bytes_below l.fn.self l.at (length l.out) l.number) ⊥ l.fn.store l.store;
}
