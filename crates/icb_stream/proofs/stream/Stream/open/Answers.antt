-- What is made of what the store holds.
use Rattle.std.proofs.Common.{◌≡◌, ap, refl, ◌∙◌}
use Rattle.std.specs.Prelude.{IfSome}
use Rattle.std.proofs.lemmas.Result.{err_from_is_err_and}
use Rattle.icb_base.proofs.CallLemmas.{reads_twice}
use Rattle.icb_stream.proofs.AskingLemmas.{same_refusal}
use Rattle.icb_stream.proofs.CutLemmas.{cut_facts}
use Rattle.icb_stream.proofs.OpeningLemmas.{IsHeaded, is_headed, opened, opened_too_short, opening_asks, refused_by_block, refused_by_header, refused_opening, unread}
use Rattle.icb_stream.proofs.stream.Stream.open.Goals as goal

pub returns-then-length-lt36-clause-opens : goal.returns-then-length-lt36-clause-opens
returns-then-length-lt36-clause-opens g c = opened_too_short (g.S.Store.held c.args.store.now) c.args.path.now
    c.args.meta.now c.args.length c.if-length-lt36.true

pub returns-in_err-check_size-clause-opens : goal.returns-in_err-check_size-clause-opens
returns-in_err-check_size-clause-opens g c =
    let p = err_from_is_err_and c.from_residual.result c.from_residual.ensures.1 in
    rw (p.1, p.2) (refused_opening (g.S.Store.held c.args.store.now) c.args.path.now c.args.meta.now c.args.length
    c.in_err-check_size.field-0.0 c.if-length-lt36.false c.in_err-check_size.ensures.size)

pub returns-in_err-cut-clause-opens : goal.returns-in_err-cut-clause-opens
returns-in_err-cut-clause-opens g c =
    let p = err_from_is_err_and c.from_residual-in_err-cut.result c.from_residual-in_err-cut.ensures.1 in
    rw (p.1, p.2) (refused_by_header (g.S.Store.held c.args.store.now) (g.S.Store.held c.check_size.new.store)
    c.args.path.now c.args.meta.now c.args.length c.in_err-cut.field-0.0 c.if-length-lt36.false
    c.in_ok-check_size.ensures.reads.same c.in_ok-check_size.ensures.size c.in_err-cut.ensures.header)

pub load-requires : goal.load-requires
load-requires g c =
    let cut = cut_facts _ _ c.in_ok-cut.cut.is_cut in
    rw c.in_ok-stream.ensures.stream cut.some_blocks

pub returns-in_err-load-clause-opens : goal.returns-in_err-load-clause-opens
returns-in_err-load-clause-opens g c =
    let p = err_from_is_err_and c.from_residual-in_err-load.result c.from_residual-in_err-load.ensures.1 in
    let headed : IfSome (g.S.Store.held c.args.store.now)
    (λ files. IsHeaded files c.args.path.now c.args.length c.in_ok-cut.cut.block_length) =
    is_headed _ _ c.args.path.now c.args.length c.in_ok-cut.cut.block_length c.in_ok-check_size.ensures.reads.same
    c.in_ok-check_size.ensures.size c.in_ok-cut.ensures.header in
    let fresh : c.in_ok-stream.stream ≡ unread c.args.path.now c.args.meta.now c.args.length c.in_ok-cut.cut.block_length =
    c.in_ok-stream.ensures.stream
    ∙ ap (λ n. unread c.args.path.now c.args.meta.now n c.in_ok-cut.cut.block_length) c.in_ok-cut.ensures.recorded in
    rw (p.1, p.2) (refused_by_block (g.S.Store.held c.args.store.now) (g.S.Store.held c.read_cut.new.store)
    c.args.path.now c.args.meta.now c.args.length c.in_ok-cut.cut.block_length c.in_ok-stream.stream
    c.load.new.self.block c.in_err-load.field-0.0 c.if-length-lt36.false
    (c.in_ok-cut.ensures.reads.same ∙ c.in_ok-check_size.ensures.reads.same) headed fresh c.in_err-load.ensures.loads)

pub returns-in_err-load-clause-reads : goal.returns-in_err-load-clause-reads
returns-in_err-load-clause-reads g c =
    let p = err_from_is_err_and c.from_residual-in_err-load.result c.from_residual-in_err-load.ensures.1 in
    let headed : IfSome (g.S.Store.held c.args.store.now)
    (λ files. IsHeaded files c.args.path.now c.args.length c.in_ok-cut.cut.block_length) =
    is_headed _ _ c.args.path.now c.args.length c.in_ok-cut.cut.block_length c.in_ok-check_size.ensures.reads.same
    c.in_ok-check_size.ensures.size c.in_ok-cut.ensures.header in
    let fresh : c.in_ok-stream.stream ≡ unread c.args.path.now c.args.meta.now c.args.length c.in_ok-cut.cut.block_length =
    c.in_ok-stream.ensures.stream
    ∙ ap (λ n. unread c.args.path.now c.args.meta.now n c.in_ok-cut.cut.block_length) c.in_ok-cut.ensures.recorded in
    let header = reads_twice g.S.Store c.args.path.now 1 1 0 8 _ _ c.args.store.now c.check_size.new.store
    c.read_cut.new.store (g.met.S.Store.kept_twice _ _ _) (λ e. let f : ⊥ = cc in f)
    c.in_ok-check_size.ensures.reads c.in_ok-cut.ensures.reads in
    rw (p.1, p.2) (opening_asks g.S.Store c.args.path.now c.args.length c.in_ok-cut.cut.block_length _ _ _ _
    c.args.store.now c.load.new.store headed refl refl (same_refusal _ _) (same_refusal _ _)
    (reads_twice g.S.Store c.args.path.now 2 1 8 _ _ _ c.args.store.now c.read_cut.new.store c.load.new.store
    (g.met.S.Store.kept_twice _ _ _) (λ e. let f : ⊥ = cc in f) header (rw fresh at c.in_err-load.ensures.reads)))

pub returns-clause-opens : goal.returns-clause-opens
returns-clause-opens g c =
    let headed : IfSome (g.S.Store.held c.args.store.now)
    (λ files. IsHeaded files c.args.path.now c.args.length c.in_ok-cut.cut.block_length) =
    is_headed _ _ c.args.path.now c.args.length c.in_ok-cut.cut.block_length c.in_ok-check_size.ensures.reads.same
    c.in_ok-check_size.ensures.size c.in_ok-cut.ensures.header in
    let fresh : c.in_ok-stream.stream ≡ unread c.args.path.now c.args.meta.now c.args.length c.in_ok-cut.cut.block_length =
    c.in_ok-stream.ensures.stream
    ∙ ap (λ n. unread c.args.path.now c.args.meta.now n c.in_ok-cut.cut.block_length) c.in_ok-cut.ensures.recorded in
    opened (g.S.Store.held c.args.store.now) (g.S.Store.held c.read_cut.new.store)
    c.args.path.now c.args.meta.now c.args.length c.in_ok-cut.cut.block_length c.in_ok-stream.stream
    c.load.new.self c.if-length-lt36.false
    (c.in_ok-cut.ensures.reads.same ∙ c.in_ok-check_size.ensures.reads.same) headed fresh
    c.in_ok-load.ensures.after.same_path c.in_ok-load.ensures.after.same_layout c.in_ok-load.ensures.loads

pub returns-clause-reads : goal.returns-clause-reads
returns-clause-reads g c =
    let headed : IfSome (g.S.Store.held c.args.store.now)
    (λ files. IsHeaded files c.args.path.now c.args.length c.in_ok-cut.cut.block_length) =
    is_headed _ _ c.args.path.now c.args.length c.in_ok-cut.cut.block_length c.in_ok-check_size.ensures.reads.same
    c.in_ok-check_size.ensures.size c.in_ok-cut.ensures.header in
    let fresh : c.in_ok-stream.stream ≡ unread c.args.path.now c.args.meta.now c.args.length c.in_ok-cut.cut.block_length =
    c.in_ok-stream.ensures.stream
    ∙ ap (λ n. unread c.args.path.now c.args.meta.now n c.in_ok-cut.cut.block_length) c.in_ok-cut.ensures.recorded in
    let header = reads_twice g.S.Store c.args.path.now 1 1 0 8 _ _ c.args.store.now c.check_size.new.store
    c.read_cut.new.store (g.met.S.Store.kept_twice _ _ _) (λ e. let f : ⊥ = cc in f)
    c.in_ok-check_size.ensures.reads c.in_ok-cut.ensures.reads in
    opening_asks g.S.Store c.args.path.now c.args.length c.in_ok-cut.cut.block_length _ _ _ _
    c.args.store.now c.load.new.store headed refl refl (λ e. absurd (let f : ⊥ = cc in f))
    (λ e. absurd (let f : ⊥ = cc in f))
    (reads_twice g.S.Store c.args.path.now 2 1 8 _ _ _ c.args.store.now c.read_cut.new.store c.load.new.store
    (g.met.S.Store.kept_twice _ _ _) (λ e. let f : ⊥ = cc in f) header (rw fresh at c.in_ok-load.ensures.reads))
