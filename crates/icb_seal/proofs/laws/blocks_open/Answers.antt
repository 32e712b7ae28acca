-- Opening a cipher block is the inverse of sealing it.
use Rattle.icb_seal.proofs.BlockLemmas.{sealed_block_opens, sealed_block_form, sealed_from_opened, text_is_sealed}
use Rattle.icb_seal.proofs.laws.blocks_open.Goals as goal

pub returns-clause-opens : goal.returns-clause-opens
returns-clause-opens c = sealed_block_opens

pub returns-clause-form : goal.returns-clause-form
returns-clause-form c = sealed_block_form

pub returns-clause-every_text : goal.returns-clause-every_text
returns-clause-every_text c = text_is_sealed

pub returns-clause-only_sealed : goal.returns-clause-only_sealed
returns-clause-only_sealed c = sealed_from_opened
