-- Digits of another number are no key.
use Rattle.std.proofs.Common.{◌∙◌, sym}
use Rattle.icb_chain.proofs.RingLemmas.{other_length}
use Rattle.icb_chain.proofs.masters.key_of_digits.Goals as goal

pub returns-then-not-is_key_length : goal.returns-then-not-is_key_length
returns-then-not-is_key_length c =
    sym (other_length c.args.digits.now (sym c.is_key_length.ensures ∙ c.if-not-is_key_length.true))
