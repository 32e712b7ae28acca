-- The header is in the object's first 8 bytes.
use Rattle.std.proofs.Common.{◌≡◌, refl}
use Rattle.icb_stream.proofs.OpeningLemmas.{header_known}
use Rattle.icb_stream.proofs.opening.read_cut.Goals as goal

pub returns-clause-header : goal.returns-clause-header
returns-clause-header g c =
    header_known (g.S.Store.held c.args.store.now) c.args.path.now c.fill_from.new.out c.args.recorded 8
    (λ cut. cut.block_length) (λ cut. cut.recorded ≡ c.args.recorded) c.cut_of.result c.requires
    c.fill_from.auto.out refl c.in_ok-fill_from.ensures.filled c.cut_of.ensures.header
