-- What was read to its end shows no metadata, or it is longer than the limit.
use Rattle.std.proofs.Common.{refl}
use Rattle.icb_run.proofs.MetadataLemmas.{handed_long, handed_refused}
use Rattle.icb_run.proofs.metadata_input.read_handed_in.Goals as goal

pub returns-in-Err-Limit-clause-finds : goal.returns-in-Err-Limit-clause-finds
returns-in-Err-Limit-clause-finds g c =
    handed_long _ (g.M.Source.left c.args.trusted.now) (g.M.Source.left c.read_to_end.new.input)
    (rw c.in-Err-Limit.field-0-is at c.in-Err-Limit.ensures.read) refl

pub returns-in-Err-BadMeta-clause-finds : goal.returns-in-Err-BadMeta-clause-finds
returns-in-Err-BadMeta-clause-finds g c =
    handed_refused _ (g.M.Source.left c.args.trusted.now) (g.M.Source.left c.read_to_end.new.input) c.in-Ok.text
    c.in-Err-BadMeta.field refl c.in-Ok.ensures.read
    (rw (c.as_slice.ensures, c.in-Err-BadMeta.field-0-is) at c.in-Err-BadMeta.ensures)
