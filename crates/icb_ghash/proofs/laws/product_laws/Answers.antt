-- The lemmas of the field.
use Rattle.std.proofs.Common.{◌∙◌, lit<}
use Rattle.icb_ghash.specs.Ghash.{one}
use Rattle.icb_ghash.proofs.FieldLemmas.{product_assoc, product_comm, product_lt, product_one, product_sum, product_x}
use Rattle.icb_ghash.proofs.InverseLemmas.{inverse_exists}
use Rattle.icb_ghash.proofs.laws.product_laws.Goals as goal

pub returns : goal.returns
returns c = record {
  commutes = product_comm;
  associates = λ a b d ha hb hd. product_assoc a b d hb hd;
  distributes_over_the_sum = λ a b d ha hb hd. product_sum a b d;
  has_the_unit = λ a ha. product_comm one a (lit< tt) ha ∙ product_one a ha;
  has_inverses = inverse_exists;
  with_x_is_the_shift = product_x;
  is_closed = λ a b ha hb. product_lt a b hb;
}
