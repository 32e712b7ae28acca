-- What was read is a part of the object's bytes, and the store holds what it held.
use Rattle.std.proofs.Common.{◌∙◌}
use Rattle.file_tests.proofs.ReaderLemmas.{read_part}
use Rattle.file_tests.proofs.readers.ObjectReaderReadAt.read_at.Goals as goal

pub returns-in-Ok-Some-clause-bytes : goal.returns-in-Ok-Some-clause-bytes
returns-in-Ok-Some-clause-bytes g c known is =
    read_part _ is.0 c.args.self.now.path.now is.1 c.args.out.now c.read_at.new.out c.args.at c.in-Ok-Some.count known
    is.2 is.3 is.5 (rw c.in-Ok-Some.field-0-is at c.in-Ok-Some.ensures.read)
    (c.if-count-out.true ∙ c.read_at.auto.out) c.read_at.auto.out

pub returns-in-Ok-Some-clause-same : goal.returns-in-Ok-Some-clause-same
returns-in-Ok-Some-clause-same g c known is = (is.0, is.1, c.read_at.ensures.same ∙ is.2, is.3, is.4, is.5)

pub returns-in-Err-clause-same : goal.returns-in-Err-clause-same
returns-in-Err-clause-same g c known is = (is.0, is.1, c.read_at.ensures.same ∙ is.2, is.3, is.4, is.5)
