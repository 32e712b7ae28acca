-- The pieces of all blocks have the length of the plaintext.
use Rattle.icb_stream.proofs.AttachedLemmas.{length-read_content}
use Rattle.icb_stream.proofs.ContentLemmas.{length-content}
use Rattle.icb_stream.proofs.laws.content_has_length.Goals as goal

pub returns : goal.returns
returns c = record { content = length-content; read = length-read_content }
