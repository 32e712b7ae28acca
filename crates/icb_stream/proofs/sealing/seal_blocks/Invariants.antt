-- So many blocks are written as were counted.
use Rattle.std.proofs.Common.{◌≡◌}
use Rattle.icb_stream.specs.Sealing.{IsSealedUpTo}
use Rattle.icb_stream.proofs.sealing.seal_blocks.Given as goal

abbrev pub invariant-pieces : goal.invariant-pieces
invariant-pieces l = record {
  same_file : l.sealer ≡ record l.fn.sealer { next = l.counter };
  before : IsSealedUpTo l.sealer l.block l.plain l.out;
}
