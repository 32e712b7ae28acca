-- From the powers of x to all bytes.
use Rattle.icb_aes.proofs.FieldLemmas.{product-lt}
use Rattle.icb_aes.proofs.RemainderLemmas.{leaves_product}
use Rattle.icb_aes.proofs.laws.product_is_remainder.Goals as goal

pub returns : goal.returns
returns c = λ a b p q. (product-lt a b p q, leaves_product a b p q)
