-- The definition of the cipher, computed on the standard's three examples.
use Rattle.std.proofs.Common.{refl}
use Rattle.icb_aes.specs.Field.{sum_below, polynomial_product, remainder, product, inverse, power_of_x}
use Rattle.icb_aes.specs.Fips197.{add_words, affine, sub_byte, sub_bytes, shift_rows, word_product, mix_columns, add_round_key, rot_word, sub_word, round_constant, schedule_term, next_word, key_word, schedule, expanded_key, round_key, round, last_round, after_rounds, state_from, output, cipher}
use Rattle.icb_aes.proofs.examples.cipher_of_the_examples.Goals as goal

pub returns-clause-aes_128 : goal.returns-clause-aes_128
unfolding sum_below polynomial_product remainder product inverse power_of_x add_words affine sub_byte sub_bytes shift_rows word_product mix_columns add_round_key rot_word sub_word round_constant schedule_term next_word key_word schedule expanded_key round_key round last_round after_rounds state_from output cipher
returns-clause-aes_128 c = refl

pub returns-clause-aes_192 : goal.returns-clause-aes_192
unfolding sum_below polynomial_product remainder product inverse power_of_x add_words affine sub_byte sub_bytes shift_rows word_product mix_columns add_round_key rot_word sub_word round_constant schedule_term next_word key_word schedule expanded_key round_key round last_round after_rounds state_from output cipher
returns-clause-aes_192 c = refl

pub returns-clause-aes_256 : goal.returns-clause-aes_256
unfolding sum_below polynomial_product remainder product inverse power_of_x add_words affine sub_byte sub_bytes shift_rows word_product mix_columns add_round_key rot_word sub_word round_constant schedule_term next_word key_word schedule expanded_key round_key round last_round after_rounds state_from output cipher
returns-clause-aes_256 c = refl
