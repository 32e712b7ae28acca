-- A read of the stream is one of the reader.
use Rattle.std.proofs.Common.{arith}
use Rattle.icb_stream.proofs.AttachedLemmas.{attached_bytes, attached_fault, attached_same}
use Rattle.icb_stream.proofs.attached.AttachedReadAt.read_at.Goals as goal

pub returns-clause-bytes : goal.returns-clause-bytes
returns-clause-bytes g c = attached_bytes (g.S.Store.held c.args.self.now.store.now) c.args.self.now.stream.now
    c.args.at c.read_at.new.out c.read_at.result
    (omega (arith, c.requires, c.read_at.auto.out)) c.read_at.ensures.slice

pub returns-clause-same : goal.returns-clause-same
returns-clause-same g c = attached_same (g.S.Store.held c.args.self.now.store.now) (g.S.Store.held c.read_at.new.store)
    c.args.self.now.stream.now c.read_at.new.self c.read_at.ensures.reads.same c.read_at.ensures.after.same_path
    c.read_at.ensures.after.same_layout c.read_at.ensures.belongs

pub returns-clause-fault : goal.returns-clause-fault
returns-clause-fault g c = attached_fault g.S.Store c.args.self.now.stream.now _ _ c.args.at c.read_at.new.out
    c.args.self.now.store.now c.read_at.new.store c.read_at.result c.read_at.ensures.reads c.read_at.ensures.slice
