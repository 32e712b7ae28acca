-- A failing write appends the first half of the piece, or nothing where no memory is left.
use Rattle.icb_base.proofs.TransferLemmas.{wrote_some}
use Rattle.icb_base.proofs.memory_bytes.MemSinkSink.write.Goals as goal

pub returns-then-begin-clause-appended : goal.returns-then-begin-clause-appended
returns-then-begin-clause-appended c =
    wrote_some _ _ c.args.self.now.bytes.items c.args.bytes.now c.extend_from_slice.new.self.items c.extend_from_slice.ensures.items
