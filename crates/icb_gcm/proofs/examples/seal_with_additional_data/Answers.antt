-- The published case, computed: each block's cipher, each power of the hash key and each product is a step of its own.
use Rattle.std.proofs.Common.{◌≡◌, ◌∙◌, refl, ap, ℕ, [], ◌∷◌, ◌++◌, replicate}
use Rattle.icb_aes.specs.Field as aes
use Rattle.icb_aes.specs.Field.{sum_below, polynomial_product, remainder, inverse, power_of_x}
use Rattle.icb_aes.specs.Fips197.{add_words, affine, sub_byte, sub_bytes, shift_rows, word_product, mix_columns, add_round_key, rot_word, sub_word, round_constant, schedule_term, next_word, key_word, schedule, expanded_key, round_key, round, last_round, after_rounds, state_from, output, cipher}
use Rattle.icb_ghash.specs.Ghash.{polynomial, block_of, times_x, times_x_power, partial_product, product, power, sum_of_powers, blocks, ghash, padded}
use Rattle.icb_gcm.specs.Gcm.{counter_block, key_stream, crypted, bit_length, hashed, tag_of, sealed}
use Rattle.icb_gcm.specs.declared.examples.TheConstants.{KEY, NONCE, AAD, TEXT, CIPHERTEXT, TAG}
use Rattle.icb_gcm.proofs.examples.seal_with_additional_data.Goals as goal

pad1 : cipher KEY (counter_block NONCE 1) ≡ 0x32 ∷ 0x47 ∷ 0x18 ∷ 0x4b ∷ 0x3c ∷ 0x4f ∷ 0x69 ∷ 0xa4 ∷ 0x4d ∷ 0xbc ∷ 0xd2 ∷ 0x28 ∷ 0x87 ∷ 0xbb ∷ 0xb4 ∷ 0x18 ∷ []
unfolding sum_below polynomial_product remainder aes.product inverse power_of_x add_words affine sub_byte sub_bytes shift_rows word_product mix_columns add_round_key rot_word sub_word round_constant schedule_term next_word key_word schedule expanded_key round_key round last_round after_rounds state_from output cipher counter_block
pad1 = refl

pad2 : cipher KEY (counter_block NONCE 2) ≡ 0x9b ∷ 0xb2 ∷ 0x2c ∷ 0xe7 ∷ 0xd9 ∷ 0xf3 ∷ 0x72 ∷ 0xc1 ∷ 0xee ∷ 0x2b ∷ 0x28 ∷ 0x72 ∷ 0x2b ∷ 0x25 ∷ 0xf2 ∷ 0x6 ∷ []
unfolding sum_below polynomial_product remainder aes.product inverse power_of_x add_words affine sub_byte sub_bytes shift_rows word_product mix_columns add_round_key rot_word sub_word round_constant schedule_term next_word key_word schedule expanded_key round_key round last_round after_rounds state_from output cipher counter_block
pad2 = refl

pad3 : cipher KEY (counter_block NONCE 3) ≡ 0x65 ∷ 0xd ∷ 0x88 ∷ 0x7c ∷ 0x39 ∷ 0x36 ∷ 0x53 ∷ 0x3a ∷ 0x1b ∷ 0x8d ∷ 0x4e ∷ 0x1e ∷ 0xa3 ∷ 0x9d ∷ 0x2b ∷ 0x5c ∷ []
unfolding sum_below polynomial_product remainder aes.product inverse power_of_x add_words affine sub_byte sub_bytes shift_rows word_product mix_columns add_round_key rot_word sub_word round_constant schedule_term next_word key_word schedule expanded_key round_key round last_round after_rounds state_from output cipher counter_block
pad3 = refl

pad4 : cipher KEY (counter_block NONCE 4) ≡ 0x3d ∷ 0xe9 ∷ 0x18 ∷ 0x27 ∷ 0xc1 ∷ 0xe ∷ 0x9a ∷ 0x4f ∷ 0x52 ∷ 0x40 ∷ 0x64 ∷ 0x7e ∷ 0xe5 ∷ 0x22 ∷ 0x1f ∷ 0x20 ∷ []
unfolding sum_below polynomial_product remainder aes.product inverse power_of_x add_words affine sub_byte sub_bytes shift_rows word_product mix_columns add_round_key rot_word sub_word round_constant schedule_term next_word key_word schedule expanded_key round_key round last_round after_rounds state_from output cipher counter_block
pad4 = refl

pad5 : cipher KEY (counter_block NONCE 5) ≡ 0xaa ∷ 0xc9 ∷ 0xe6 ∷ 0xcc ∷ 0xc0 ∷ 0x7 ∷ 0x4a ∷ 0xc0 ∷ 0x87 ∷ 0x3b ∷ 0x9b ∷ 0xa8 ∷ 0x5d ∷ 0x90 ∷ 0x8b ∷ 0xd0 ∷ []
unfolding sum_below polynomial_product remainder aes.product inverse power_of_x add_words affine sub_byte sub_bytes shift_rows word_product mix_columns add_round_key rot_word sub_word round_constant schedule_term next_word key_word schedule expanded_key round_key round last_round after_rounds state_from output cipher counter_block
pad5 = refl

zero_block : polynomial (cipher KEY (replicate 16 0)) ≡ 0xb83b533708bf535d0aa6e52980d53b78
unfolding sum_below polynomial_product remainder aes.product inverse power_of_x add_words affine sub_byte sub_bytes shift_rows word_product mix_columns add_round_key rot_word sub_word round_constant schedule_term next_word key_word schedule expanded_key round_key round last_round after_rounds state_from output cipher polynomial
zero_block = refl

-- ---- the powers of the hash key

abbrev H : ℕ
H = 0xb83b533708bf535d0aa6e52980d53b78

times1 : product H 0x80000000000000000000000000000000 ≡ 0xb83b533708bf535d0aa6e52980d53b78
unfolding times_x times_x_power partial_product product
times1 = refl

times2 : product H 0xb83b533708bf535d0aa6e52980d53b78 ≡ 0x8a6ff5aca561c0d865805055eb728397
unfolding times_x times_x_power partial_product product
times2 = refl

times3 : product H 0x8a6ff5aca561c0d865805055eb728397 ≡ 0xc414cb8f1152eb71563a5ca9ddcbddb5
unfolding times_x times_x_power partial_product product
times3 = refl

times4 : product H 0xc414cb8f1152eb71563a5ca9ddcbddb5 ≡ 0x3c4b0daa91e6b35f9b9e89d8510dd431
unfolding times_x times_x_power partial_product product
times4 = refl

times5 : product H 0x3c4b0daa91e6b35f9b9e89d8510dd431 ≡ 0x423dbfb8033039e6b9cb105cf1d6f3b1
unfolding times_x times_x_power partial_product product
times5 = refl

times6 : product H 0x423dbfb8033039e6b9cb105cf1d6f3b1 ≡ 0xd5a5f5b8b972f585c1c3fa4e69402ad
unfolding times_x times_x_power partial_product product
times6 = refl

times7 : product H 0xd5a5f5b8b972f585c1c3fa4e69402ad ≡ 0x34fcab22b7bfbb3befa0c78ecccd7fc8
unfolding times_x times_x_power partial_product product
times7 = refl

power0 : power H 0 ≡ 0x80000000000000000000000000000000
unfolding power
power0 = refl

power1 : power H 1 ≡ 0xb83b533708bf535d0aa6e52980d53b78
unfolding power
power1 = ap (product H) power0 ∙ times1

power2 : power H 2 ≡ 0x8a6ff5aca561c0d865805055eb728397
unfolding power
power2 = ap (product H) power1 ∙ times2

power3 : power H 3 ≡ 0xc414cb8f1152eb71563a5ca9ddcbddb5
unfolding power
power3 = ap (product H) power2 ∙ times3

power4 : power H 4 ≡ 0x3c4b0daa91e6b35f9b9e89d8510dd431
unfolding power
power4 = ap (product H) power3 ∙ times4

power5 : power H 5 ≡ 0x423dbfb8033039e6b9cb105cf1d6f3b1
unfolding power
power5 = ap (product H) power4 ∙ times5

power6 : power H 6 ≡ 0xd5a5f5b8b972f585c1c3fa4e69402ad
unfolding power
power6 = ap (product H) power5 ∙ times6

power7 : power H 7 ≡ 0x34fcab22b7bfbb3befa0c78ecccd7fc8
unfolding power
power7 = ap (product H) power6 ∙ times7

-- ---- the blocks, times these powers

term7 : product 0xfeedfacedeadbeeffeedfacedeadbeef 0x34fcab22b7bfbb3befa0c78ecccd7fc8 ≡ 0xe76f1263c02ddea0882ebef244cf0f06
unfolding times_x times_x_power partial_product product
term7 = refl

term6 : product 0xabaddad2000000000000000000000000 0xd5a5f5b8b972f585c1c3fa4e69402ad ≡ 0x7b88043c828fed7133f806248ba1338c
unfolding times_x times_x_power partial_product product
term6 = refl

term5 : product 0x42831ec2217774244b7221b784d0d49c 0x423dbfb8033039e6b9cb105cf1d6f3b1 ≡ 0x694faa72eb5265dff18ce7617d91c400
unfolding times_x times_x_power partial_product product
term5 = refl

term4 : product 0xe3aa212f2c02a4e035c17e2329aca12e 0x3c4b0daa91e6b35f9b9e89d8510dd431 ≡ 0xecf229ae254bb07df80a20cda5ef01ef
unfolding times_x times_x_power partial_product product
term4 = refl

term3 : product 0x21d514b25466931c7d8f6a5aac84aa05 0xc414cb8f1152eb71563a5ca9ddcbddb5 ≡ 0x96eab5a0c806f0ef3a6b4635576d293e
unfolding times_x times_x_power partial_product product
term3 = refl

term2 : product 0x1ba30b396a0aac973d58e09100000000 0x8a6ff5aca561c0d865805055eb728397 ≡ 0x8bd69ec2190cca86c9b6ee860ae4eda2
unfolding times_x times_x_power partial_product product
term2 = refl

term1 : product 0xa000000000000001e0 0xb83b533708bf535d0aa6e52980d53b78 ≡ 0x6de8e91653df106598cbecbb2a3093a6
unfolding times_x times_x_power partial_product product
term1 = refl

hash_blocks : blocks 7 (hashed AAD CIPHERTEXT) ≡ 0xfeedfacedeadbeeffeedfacedeadbeef ∷ 0xabaddad2000000000000000000000000 ∷ 0x42831ec2217774244b7221b784d0d49c ∷ 0xe3aa212f2c02a4e035c17e2329aca12e ∷ 0x21d514b25466931c7d8f6a5aac84aa05 ∷ 0x1ba30b396a0aac973d58e09100000000 ∷ 0xa000000000000001e0 ∷ []
unfolding blocks polynomial hashed padded bit_length
hash_blocks = refl

hash_sum : sum_of_powers H (0xfeedfacedeadbeeffeedfacedeadbeef ∷ 0xabaddad2000000000000000000000000 ∷ 0x42831ec2217774244b7221b784d0d49c ∷ 0xe3aa212f2c02a4e035c17e2329aca12e ∷ 0x21d514b25466931c7d8f6a5aac84aa05 ∷ 0x1ba30b396a0aac973d58e09100000000 ∷ 0xa000000000000001e0 ∷ []) ≡ 0x698e57f70e6ecc7fd9463b7260a9ae5f
unfolding sum_of_powers
hash_sum = rw (power7, power6, power5, power4, power3, power2, power1, term7, term6, term5, term4, term3, term2, term1) refl

hash_value : ghash (polynomial (cipher KEY (replicate 16 0))) (hashed AAD CIPHERTEXT) ≡ 0x69 ∷ 0x8e ∷ 0x57 ∷ 0xf7 ∷ 0xe ∷ 0x6e ∷ 0xcc ∷ 0x7f ∷ 0xd9 ∷ 0x46 ∷ 0x3b ∷ 0x72 ∷ 0x60 ∷ 0xa9 ∷ 0xae ∷ 0x5f ∷ []
unfolding ghash block_of hashed padded bit_length
hash_value = ap (λ (a : ℕ). ghash a (hashed AAD CIPHERTEXT)) zero_block ∙ ap block_of (ap (sum_of_powers H) hash_blocks ∙ hash_sum)

-- ---- the ciphertext and the tag

stream : key_stream KEY NONCE 4 ≡ ((([] ++ (0x9b ∷ 0xb2 ∷ 0x2c ∷ 0xe7 ∷ 0xd9 ∷ 0xf3 ∷ 0x72 ∷ 0xc1 ∷ 0xee ∷ 0x2b ∷ 0x28 ∷ 0x72 ∷ 0x2b ∷ 0x25 ∷ 0xf2 ∷ 0x6 ∷ [])) ++ (0x65 ∷ 0xd ∷ 0x88 ∷ 0x7c ∷ 0x39 ∷ 0x36 ∷ 0x53 ∷ 0x3a ∷ 0x1b ∷ 0x8d ∷ 0x4e ∷ 0x1e ∷ 0xa3 ∷ 0x9d ∷ 0x2b ∷ 0x5c ∷ [])) ++ (0x3d ∷ 0xe9 ∷ 0x18 ∷ 0x27 ∷ 0xc1 ∷ 0xe ∷ 0x9a ∷ 0x4f ∷ 0x52 ∷ 0x40 ∷ 0x64 ∷ 0x7e ∷ 0xe5 ∷ 0x22 ∷ 0x1f ∷ 0x20 ∷ [])) ++ (0xaa ∷ 0xc9 ∷ 0xe6 ∷ 0xcc ∷ 0xc0 ∷ 0x7 ∷ 0x4a ∷ 0xc0 ∷ 0x87 ∷ 0x3b ∷ 0x9b ∷ 0xa8 ∷ 0x5d ∷ 0x90 ∷ 0x8b ∷ 0xd0 ∷ [])
unfolding key_stream
stream = rw (pad2, pad3, pad4, pad5) refl

ciphertext : crypted KEY NONCE TEXT ≡ CIPHERTEXT
unfolding crypted
ciphertext = rw stream refl

tag : tag_of KEY NONCE AAD CIPHERTEXT ≡ TAG
unfolding tag_of
tag = rw (hash_value, pad1) refl

pub returns : goal.returns
unfolding sealed
returns c = rw (ciphertext, tag) refl
