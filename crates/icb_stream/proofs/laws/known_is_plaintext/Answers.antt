-- Each block opens, since no place is a gap.
use Rattle.icb_stream.proofs.AttachedLemmas.{plaintext_known}
use Rattle.icb_stream.proofs.laws.known_is_plaintext.Goals as goal

pub returns : goal.returns
returns c = plaintext_known
