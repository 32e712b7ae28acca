-- The definition of sealing, computed on the published cases.
use Rattle.std.proofs.Common.{◌≡◌, ℕ, List, [], get_or, replicate, refl, ap, sym, ◌∙◌, arith}
use Rattle.icb_aes.specs.Field as aes
use Rattle.icb_aes.specs.Field.{sum_below, polynomial_product, remainder, inverse, power_of_x}
use Rattle.icb_aes.specs.Fips197.{add_words, affine, sub_byte, sub_bytes, shift_rows, word_product, mix_columns, add_round_key, rot_word, sub_word, round_constant, schedule_term, next_word, key_word, schedule, expanded_key, round_key, round, last_round, after_rounds, state_from, output, cipher}
use Rattle.icb_ghash.specs.Ghash.{polynomial, block_of, times_x, times_x_power, partial_product, product, power, sum_of_powers, blocks, ghash, padded}
use Rattle.icb_gcm.specs.Gcm.{counter_block, key_stream, crypted, bit_length, hashed, tag_of, sealed, is_seal, opened}
use Rattle.icb_gcm.proofs.GcmLemmas.{SealsTo-parts, not_opened}
use Rattle.icb_gcm.specs.declared.examples.TheConstants.{CHANGED_TAG_128, CIPHERTEXT_128, TAG_128}
use Rattle.icb_gcm.proofs.examples.seals_of_zeros.Goals as goal

pub returns-clause-of_nothing : goal.returns-clause-of_nothing
unfolding sum_below polynomial_product remainder aes.product inverse power_of_x add_words affine sub_byte sub_bytes shift_rows word_product mix_columns add_round_key rot_word sub_word round_constant schedule_term next_word key_word schedule expanded_key round_key round last_round after_rounds state_from output cipher polynomial block_of times_x times_x_power partial_product product power sum_of_powers blocks ghash padded counter_block key_stream crypted bit_length hashed tag_of sealed is_seal opened
returns-clause-of_nothing c = refl

pub returns-clause-aes_128 : goal.returns-clause-aes_128
unfolding sum_below polynomial_product remainder aes.product inverse power_of_x add_words affine sub_byte sub_bytes shift_rows word_product mix_columns add_round_key rot_word sub_word round_constant schedule_term next_word key_word schedule expanded_key round_key round last_round after_rounds state_from output cipher polynomial block_of times_x times_x_power partial_product product power sum_of_powers blocks ghash padded counter_block key_stream crypted bit_length hashed tag_of sealed is_seal opened
returns-clause-aes_128 c = refl

pub returns-clause-aes_192 : goal.returns-clause-aes_192
unfolding sum_below polynomial_product remainder aes.product inverse power_of_x add_words affine sub_byte sub_bytes shift_rows word_product mix_columns add_round_key rot_word sub_word round_constant schedule_term next_word key_word schedule expanded_key round_key round last_round after_rounds state_from output cipher polynomial block_of times_x times_x_power partial_product product power sum_of_powers blocks ghash padded counter_block key_stream crypted bit_length hashed tag_of sealed is_seal opened
returns-clause-aes_192 c = refl

pub returns-clause-aes_256 : goal.returns-clause-aes_256
unfolding sum_below polynomial_product remainder aes.product inverse power_of_x add_words affine sub_byte sub_bytes shift_rows word_product mix_columns add_round_key rot_word sub_word round_constant schedule_term next_word key_word schedule expanded_key round_key round last_round after_rounds state_from output cipher polynomial block_of times_x times_x_power partial_product product power sum_of_powers blocks ghash padded counter_block key_stream crypted bit_length hashed tag_of sealed is_seal opened
returns-clause-aes_256 c = refl

pub returns-clause-changed : goal.returns-clause-changed
returns-clause-changed c =
    let key : List ℕ = replicate 16 0 in
    let nonce : List ℕ = replicate 12 0 in
    let own : TAG_128 ≡ tag_of key nonce [] CIPHERTEXT_128 =
    (SealsTo-parts key nonce [] (replicate 16 0) CIPHERTEXT_128 TAG_128 (returns-clause-aes_128 c)).2 in
    not_opened key nonce [] CIPHERTEXT_128 CHANGED_TAG_128
    (λ e. let last : 0xde ≡ 0xdf = ap (λ (bs : List ℕ). get_or bs 15 0) (e ∙ sym own) in
    let f : ⊥ = omega arith in f)
