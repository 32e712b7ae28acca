-- The lemmas of the product.
use Rattle.icb_aes.proofs.FieldLemmas.{product_comm, product_assoc, product-xor_r, product-one_l}
use Rattle.icb_aes.proofs.laws.product_laws.Goals as goal

pub returns-clause-commutes : goal.returns-clause-commutes
returns-clause-commutes c = product_comm

pub returns-clause-associates : goal.returns-clause-associates
returns-clause-associates c = product_assoc

pub returns-clause-distributes_over_the_sum : goal.returns-clause-distributes_over_the_sum
returns-clause-distributes_over_the_sum c = λ a b d _ _ _. product-xor_r a b d

pub returns-clause-has_the_unit : goal.returns-clause-has_the_unit
returns-clause-has_the_unit c = product-one_l
