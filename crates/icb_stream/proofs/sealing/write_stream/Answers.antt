-- The header and all blocks are the stream.
use Rattle.std.proofs.Common.{refl}
use Rattle.icb_stream.proofs.WritingLemmas.{behind_header, whole_stream}
use Rattle.icb_stream.proofs.sealing.write_stream.Goals as goal

pub returns-clause-bytes : goal.returns-clause-bytes
returns-clause-bytes c =
    whole_stream c.args.sealer.now.key c.args.sealer.now.seed c.args.sealer.now.prefix c.args.plain.now
    c.seal_blocks.new.out _ c.args.block c.seal_blocks.ensures.blocks
    (behind_header c.write_header.new.out _ c.seal_blocks.new.out _ c.write_header.ensures refl)
