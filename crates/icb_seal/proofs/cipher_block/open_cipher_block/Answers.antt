-- A cipher block that is opened in place is what the definition says.
use Rattle.std.proofs.Common.{rules}
use Rattle.icb_seal.proofs.OpenerLemmas.{block_opened, ends_stay}
use Rattle.icb_seal.proofs.cipher_block.open_cipher_block.Goals as goal

pub returns-clause-ends : goal.returns-clause-ends
returns-clause-ends c =
    ends_stay c.args.block.now c.open.new.text _ c.requires.room (search rules) (search rules)

pub returns-clause-opened : goal.returns-clause-opened
returns-clause-opened c = block_opened c.args.key.now c.nonce_and_tag.result.0 c.args.aad.now c.args.block.now
    c.nonce_and_tag.result.1 c.open.new.text c.open.result c.requires.room
    c.nonce_and_tag.ensures.nonce c.nonce_and_tag.ensures.tag c.open.auto.text
    c.open.ensures.ok c.open.ensures.not_authentic c.open.ensures.zeros
