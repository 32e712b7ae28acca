-- Each polynomial other than 0 has an inverse, so that the polynomials are a field. The power
-- 2^128 - 1 of a polynomial is its own square, since the power 2^128 of each is itself; and only 0 and 1
-- are their own squares.
use Rattle.std.proofs.Common.{◌≡◌, ℕ, zero, suc, ◌-◌, ◌/◌, ◌%◌, ◌^◌, ◌<◌, Bool, true, false, List, [], ◌∷◌, get_or, refl, ap, sym, ◌∙◌, arith, lit<, eqb, ⊎_elim, inl, inr}
use Rattle.std.specs.Prelude.{bit_xor, ◌==◌, ◌⊎◌, if◌then◌else◌}
use Rattle.std.specs.Int.Bits.{xor_assoc, xor_self, xor_zero_l, xor_shr, xor_mod}
use Rattle.std.proofs.Math.Nat.{mod-lt}
use Rattle.std.proofs.lemmas.Bool.{eqb-true, agree_below_at}
use Rattle.icb_ghash.specs.Ghash.{coefficient, one, x, times_x, times_x_power, partial_product, product}
use Rattle.icb_ghash.proofs.FieldLemmas.{sum_turned, choice_lt, reduction_sum, same_from_sum, partial_product_lt, partial_product_zero, times_x_power_lt, product_assoc, product_comm, product_lt, product_one, product_sum, product_sum_left, product_swap, product_x, zero_times}

-- ---- additive maps

-- a map of polynomials that takes sums to sums
record IsAdditive (f : ℕ → ℕ) : Type 0 where
  at_zero : f 0 ≡ 0
  at_sum : (a b : ℕ) → a < 2 ^ 128 → b < 2 ^ 128 → f (bit_xor a b) ≡ bit_xor (f a) (f b)

-- a term that is there or not, under an additive map
choice_under : (f : ℕ → ℕ) → IsAdditive f → (b : Bool) (v : ℕ)
    → f (if b then v else 0) ≡ (if b then f v else 0)
choice_under f add true v = refl
choice_under f add false v = add.at_zero

-- the polynomial 1 is one of degree below 128
one_lt : one < 2 ^ 128
one_lt = lit< tt

-- two additive maps that agree on the powers of x below n agree on what is made of them
agree_partly : (f g : ℕ → ℕ) → IsAdditive f → IsAdditive g → (n : ℕ)
    → ((i : ℕ) → i < n → f (times_x_power i one) ≡ g (times_x_power i one)) → (a : ℕ)
    → f (partial_product n a one) ≡ g (partial_product n a one)
unfolding partial_product
agree_partly f g p q zero h a = p.at_zero ∙ sym q.at_zero
agree_partly f g p q (suc n) h a =
    let c = coefficient a n == 1 in
    let front = partial_product n a one in
    let term = if c then times_x_power n one else 0 in
    let front_lt = partial_product_lt n a one one_lt in
    let term_lt = choice_lt c (times_x_power n one) (times_x_power_lt n one one_lt) in
    let fronts : f front ≡ g front = agree_partly f g p q n (λ i l. h i (omega (arith, l))) a in
    let terms : f term ≡ g term =
    choice_under f p c (times_x_power n one)
    ∙ ap (λ (v : ℕ). if c then v else 0) (h n (omega arith))
    ∙ sym (choice_under g q c (times_x_power n one)) in
    p.at_sum front term front_lt term_lt
    ∙ ap (λ (v : ℕ). bit_xor v (f term)) fronts ∙ ap (bit_xor (g front)) terms
    ∙ sym (q.at_sum front term front_lt term_lt)

-- two additive maps that agree on the powers of x are one
agree : (f g : ℕ → ℕ) → IsAdditive f → IsAdditive g
    → ((i : ℕ) → i < 128 → f (times_x_power i one) ≡ g (times_x_power i one))
    → (a : ℕ) → a < 2 ^ 128 → f a ≡ g a
unfolding product
agree f g p q h a bound =
    ap f (sym (product_one a bound)) ∙ agree_partly f g p q 128 h a ∙ ap g (product_one a bound)

-- ---- squares

-- the square of a polynomial
square : ℕ → ℕ
square a = product a a

-- the square of a sum: the two mixed products are one, and leave nothing
square_sum : (a b : ℕ) → a < 2 ^ 128 → b < 2 ^ 128
    → square (bit_xor a b) ≡ bit_xor (square a) (square b)
unfolding square
square_sum a b ha hb =
    let mixed : bit_xor (product a b) (bit_xor (product b a) (product b b)) ≡ product b b =
    sym (xor_assoc (product a b) (product b a) (product b b))
    ∙ ap (λ (v : ℕ). bit_xor (bit_xor (product a b) v) (product b b)) (product_comm b a hb ha)
    ∙ ap (λ (v : ℕ). bit_xor v (product b b)) (xor_self (product a b))
    ∙ xor_zero_l (product b b) in
    product_sum_left a b (bit_xor a b)
    ∙ ap (λ (v : ℕ). bit_xor v (product b (bit_xor a b))) (product_sum a a b)
    ∙ ap (bit_xor (bit_xor (product a a) (product a b))) (product_sum b a b)
    ∙ xor_assoc (product a a) (product a b) (bit_xor (product b a) (product b b))
    ∙ ap (bit_xor (product a a)) mixed

-- the square of a product
square_product : (a b : ℕ) → a < 2 ^ 128 → b < 2 ^ 128
    → square (product a b) ≡ product (square a) (square b)
unfolding square
square_product a b ha hb =
    product_assoc a b (product a b) hb (product_lt a b hb)
    ∙ ap (product a) (product_swap b a b)
    ∙ sym (product_assoc a a (product b b) ha (product_lt b b hb))

square_lt : (a : ℕ) → a < 2 ^ 128 → square a < 2 ^ 128
unfolding square
square_lt a h = product_lt a a h

square_zero : square 0 ≡ 0
unfolding square product
square_zero = partial_product_zero 128 0

-- ---- the power 2^n

-- a squared n times
frobenius : ℕ → ℕ → ℕ
frobenius zero a = a
frobenius (suc n) a = square (frobenius n a)

frobenius_lt : (n a : ℕ) → a < 2 ^ 128 → frobenius n a < 2 ^ 128
unfolding frobenius
frobenius_lt zero a h = h
frobenius_lt (suc n) a h = square_lt (frobenius n a) (frobenius_lt n a h)

frobenius_zero : (n : ℕ) → frobenius n 0 ≡ 0
unfolding frobenius
frobenius_zero zero = refl
frobenius_zero (suc n) = ap square (frobenius_zero n) ∙ square_zero

frobenius_one : (n : ℕ) → frobenius n one ≡ one
unfolding frobenius square
frobenius_one zero = refl
frobenius_one (suc n) = ap (λ (v : ℕ). product v v) (frobenius_one n) ∙ product_one one one_lt

frobenius_sum : (n a b : ℕ) → a < 2 ^ 128 → b < 2 ^ 128
    → frobenius n (bit_xor a b) ≡ bit_xor (frobenius n a) (frobenius n b)
unfolding frobenius
frobenius_sum zero a b ha hb = refl
frobenius_sum (suc n) a b ha hb =
    ap square (frobenius_sum n a b ha hb)
    ∙ square_sum (frobenius n a) (frobenius n b) (frobenius_lt n a ha) (frobenius_lt n b hb)

frobenius_product : (n a b : ℕ) → a < 2 ^ 128 → b < 2 ^ 128
    → frobenius n (product a b) ≡ product (frobenius n a) (frobenius n b)
unfolding frobenius
frobenius_product zero a b ha hb = refl
frobenius_product (suc n) a b ha hb =
    ap square (frobenius_product n a b ha hb)
    ∙ square_product (frobenius n a) (frobenius n b) (frobenius_lt n a ha) (frobenius_lt n b hb)

-- x squared 128 times is x, computed
frobenius_x : frobenius 128 x ≡ x
unfolding frobenius square product partial_product times_x_power times_x
frobenius_x = refl

-- and so is each power of x itself
frobenius_power : (i : ℕ) → frobenius 128 (times_x_power i one) ≡ times_x_power i one
unfolding times_x_power
frobenius_power zero = frobenius_one 128
frobenius_power (suc i) =
    let below = times_x_power_lt i one one_lt in
    let next = product_x (times_x_power i one) below in
    ap (frobenius 128) (sym next)
    ∙ frobenius_product 128 x (times_x_power i one) (lit< tt) below
    ∙ ap (λ (v : ℕ). product v (frobenius 128 (times_x_power i one))) frobenius_x
    ∙ ap (product x) (frobenius_power i)
    ∙ next

-- the power 2^128 of each polynomial is itself
frobenius_fixes : (a : ℕ) → a < 2 ^ 128 → frobenius 128 a ≡ a
frobenius_fixes =
    agree (frobenius 128) (λ v. v)
    (record { at_zero = frobenius_zero 128; at_sum = frobenius_sum 128 })
    (record { at_zero = refl; at_sum = λ a b ha hb. refl })
    (λ i h. frobenius_power i)

-- ---- what is its own square

-- for each power of x, which polynomial a (of those without the term 1) has it in a^2 + a: found by
-- elimination, and used below only as it is checked there
undo_table : List ℕ
undo_table =
    0x10d04d25f93556e69f58ce2f8d035a94 ∷ 0x202f566ef59a994991d0e977a9aa5ba7
    ∷ 0x602f566ef59a994991d0e977a9aa5ba7 ∷ 0x3045202cccefc1ee67fd0ac2e3641972
    ∷ 0x402f566ef59a994991d0e977a9aa5ba7 ∷ 0x5672e0c1d328e3be0d2c5beb59e57554
    ∷ 0x2045202cccefc1ee67fd0ac2e3641972 ∷ 0x187f9b4b8cafcfaf8e88275824a90133
    ∷ 0x482f566ef59a994991d0e977a9aa5ba7 ∷ 0x22da13517461d3ee69739a8be16c1972
    ∷ 0x5272e0c1d328e3be0d2c5beb59e57554 ∷ 0x6aff55603cd3fceff55228f556d54755
    ∷ 0x2245202cccefc1ee67fd0ac2e3641972 ∷ 0x46fc06025397fc91bb49eab33e4cf467
    ∷ 0x197f9b4b8cafcfaf8e88275824a90133 ∷ 0x646dca2be3d6cc87d093e2fc4c0f4ad5
    ∷ 0x48af566ef59a994991d0e977a9aa5ba7 ∷ 0x5cea2fd59105659e2d1ccaeb5d2c7d54
    ∷ 0x229a13517461d3ee69739a8be16c1972 ∷ 0x3f46a4c41f7d395874f4e33b9d331780
    ∷ 0x5252e0c1d328e3be0d2c5beb59e57554 ∷ 0x312701524d961730583bcf844c342240
    ∷ 0x6aef55603cd3fceff55228f556d54755 ∷ 0x144559bb6c9ffcd7bc4c239cf48626f3
    ∷ 0x224d202cccefc1ee67fd0ac2e3641972 ∷ 0x1a24eaea541cab0f9092b01169688933
    ∷ 0x46f806025397fc91bb49eab33e4cf467 ∷ 0x2c14dba71e26fe964f314b9433eb3eb2
    ∷ 0x197d9b4b8cafcfaf8e88275824a90133 ∷ 0x2561da58536a903fe562896ae4899333
    ∷ 0x646cca2be3d6cc87d093e2fc4c0f4ad5 ∷ 0x41d77800d619af2838dab35b297373a6
    ∷ 0x48afd66ef59a994991d0e977a9aa5ba7 ∷ 0x5ce7c3e3968e47f62e5390ab45fe70d4
    ∷ 0x5cea6fd59105659e2d1ccaeb5d2c7d54 ∷ 0x428019a11caacb8824c8241264b2fba6
    ∷ 0x229a33517461d3ee69739a8be16c1972 ∷ 0x258e6f54b84bf6f7ef54f70e70ef2ef3
    ∷ 0x3f46b4c41f7d395874f4e33b9d331780 ∷ 0x1af0929921b9589f9fb368dce89d2373
    ∷ 0x5252e8c1d328e3be0d2c5beb59e57554 ∷ 0x3bdc8ad604f36599e246fae899f68fc1
    ∷ 0x312705524d961730583bcf844c342240 ∷ 0x038e6217d7e479d8109554569546afc0
    ∷ 0x6aef57603cd3fceff55228f556d54755 ∷ 0x2bd77bb364ab6b3fc733d8875e039333
    ∷ 0x144558bb6c9ffcd7bc4c239cf48626f3 ∷ 0x698e6217d7fb8627ef6aa903c013fa95
    ∷ 0x224d20acccefc1ee67fd0ac2e3641972 ∷ 0x21ce3a83c07704de74dad50f0d583b32
    ∷ 0x1a24eaaa541cab0f9092b01169688933 ∷ 0x56f3167fe31312df9eb885b869165d55
    ∷ 0x46f806225397fc91bb49eab33e4cf467 ∷ 0x77dcb1c60e3ad1c9e2190477682adba7
    ∷ 0x2c14dbb71e26fe964f314b9433eb3eb2 ∷ 0x7348a7e5645f92d076e747a9d181ec26
    ∷ 0x197d9b438cafcfaf8e88275824a90133 ∷ 0x2cfbb4409945161e45d21862e0409b32
    ∷ 0x2561da5c536a903fe562896ae4899333 ∷ 0x36e717e02724b8f1d1527df73b8e8241
    ∷ 0x646cca29e3d6cc87d093e2fc4c0f4ad5 ∷ 0x7adc3b3404788e11d4cfd6f8f5447467
    ∷ 0x41d77801d619af2838dab35b297373a6 ∷ 0x04a2ade42a1db559927495c4d4e62fc1
    ∷ 0x48afd66e759a994991d0e977a9aa5ba7 ∷ 0x329f337db88e12004e8e904902080000
    ∷ 0x5ce7c3e3d68e47f62e5390ab45fe70d4 ∷ 0x36e9eb0be64d6b99d3ec2e5e502bb781
    ∷ 0x5cea6fd5b105659e2d1ccaeb5d2c7d54 ∷ 0x4622ba58b211bb21b69fb337b1785627
    ∷ 0x428019a10caacb8824c8241264b2fba6 ∷ 0x049a065cd7758d5196f0e3578d383201
    ∷ 0x229a33517c61d3ee69739a8be16c1972 ∷ 0x55aabdbeec28a2078079924a4cd2f295
    ∷ 0x258e6f54bc4bf6f7ef54f70e70ef2ef3 ∷ 0x7986f6afcfc951e9cb9188c1a5beebe7
    ∷ 0x3f46b4c41d7d395874f4e33b9d331780 ∷ 0x2f76850d57908a5e54a716d46cf0bb32
    ∷ 0x1af0929920b9589f9fb368dce89d2373 ∷ 0x489a0b11781e0c1196cc4fdebc394c27
    ∷ 0x5252e8c1d3a8e3be0d2c5beb59e57554 ∷ 0x072ccff3fd3d186182e1ce9a41041041
    ∷ 0x3bdc8ad604b36599e246fae899f68fc1 ∷ 0x5c33b52f8947e9462158188b7248d294
    ∷ 0x312705524db61730583bcf844c342240 ∷ 0x79880aa666d696d9c926622882fff1e7
    ∷ 0x038e6217d7f479d8109554569546afc0 ∷ 0x285aabc679b16ad7d6c2852abfdb1eb3
    ∷ 0x6aef57603cdbfceff55228f556d54755 ∷ 0x26d44eb77ddd535ff0b1c738de72bb33
    ∷ 0x2bd77bb364af6b3fc733d8875e039333 ∷ 0x3cfddc25f2ae2df86391fd8d3387a7c0
    ∷ 0x144558bb6c9dfcd7bc4c239cf48626f3 ∷ 0x457534e82f16f649aa2d862c91005ba7
    ∷ 0x698e6217d7fa8627ef6aa903c013fa95 ∷ 0x4bf8b9d33b8f38198de17cdee54751e7
    ∷ 0x224d20acccef41ee67fd0ac2e3641972 ∷ 0x634efa836deeebf650dae654442b4894
    ∷ 0x21ce3a83c07744de74dad50f0d583b32 ∷ 0x4bf6a9a1f02e1f698fec4b1a74166be7
    ∷ 0x1a24eaaa541c8b0f9092b01169688933 ∷ 0x6462e2cc93c28627d2d0526e0d66c2d5
    ∷ 0x56f3167fe31302df9eb885b869165d55 ∷ 0x79b07befedd921e9cd751ec18ebeebe7
    ∷ 0x46f806225397f491bb49eab33e4cf467 ∷ 0x701c741cbd9fc8b06b94eadf79b8c426
    ∷ 0x77dcb1c60e3ad5c9e2190477682adba7 ∷ 0x044eaa59bd8819a999287fa5ed58ad81
    ∷ 0x2c14dbb71e26fc964f314b9433eb3eb2 ∷ 0x602105ae977251e64834e0c2dd2d5a94
    ∷ 0x7348a7e5645f93d076e747a9d181ec26 ∷ 0x645919a4b35879f7d7a68d71cb5770d5
    ∷ 0x197d9b438cafcf2f8e88275824a90133 ∷ 0x00000d94d9da18080030c4db699e5dc0
    ∷ 0x2cfbb4409945165e45d21862e0409b32 ∷ 0x099a6e1cca2f8641a0b0910804c90841
    ∷ 0x2561da5c536a901fe562896ae4899333 ∷ 0x5f86cdbc744e28fe3430f49ddf071154
    ∷ 0x36e717e02724b8e1d1527df73b8e8241 ∷ 0x51eae8be2fe60df61bf9191de1788d94
    ∷ 0x646cca29e3d6cc8fd093e2fc4c0f4ad5 ∷ 0x5f67891c31b7edb03c86875f90384d1c
    ∷ 0x7adc3b3404788e15d4cfd6f8f5447467 ∷ 0x36dc3b3404788e15d4cfd6f8f5447461
    ∷ 0x41d77801d619af2a38dab35b297373a6 ∷ 0x35bd0e43ef6cf78dcef750ee63bd3171
    ∷ 0x04a2ade42a1db558927495c4d4e62fc1 ∷ 0x00000000000000000000000000000000 ∷ []

-- the additive map with these values
undo : ℕ → ℕ → ℕ
undo zero v = 0
undo (suc n) v = bit_xor (undo n v) (if coefficient v n == 1 then get_or undo_table n 0 else 0)

-- the coefficients of a sum
coefficient_sum : (a b i : ℕ) → coefficient (bit_xor a b) i ≡ bit_xor (coefficient a i) (coefficient b i)
coefficient_sum a b i =
    ap (λ (q : ℕ). q % 2) (xor_shr a b (127 - i)) ∙ xor_mod (a / 2 ^ (127 - i)) (b / 2 ^ (127 - i)) 1

undo_sum : (n a b : ℕ) → undo n (bit_xor a b) ≡ bit_xor (undo n a) (undo n b)
unfolding undo
undo_sum zero a b = refl
undo_sum (suc n) a b =
    rw (
      undo_sum n a b,
      coefficient_sum a b n,
      reduction_sum (coefficient a n) (coefficient b n) (get_or undo_table n 0)
          (mod-lt _ (lit< tt)) (mod-lt _ (lit< tt)),
    )
    (sum_turned (undo n a) (undo n b)
    (if coefficient a n == 1 then get_or undo_table n 0 else 0)
    (if coefficient b n == 1 then get_or undo_table n 0 else 0))

-- a^2 + a, undone
undone : ℕ → ℕ
undone a = undo 128 (bit_xor (square a) a)

-- a without its term 1
without_one : ℕ → ℕ
without_one a = bit_xor a (if coefficient a 0 == 1 then one else 0)

-- nothing undone is nothing
undo_nothing : undo 128 0 ≡ 0
unfolding undo
undo_nothing = refl

-- what is 1 or 0 by a test
zero_or_one : (b : Bool) (a : ℕ) → a ≡ (if b then one else 0) → (a ≡ 0) ⊎ (a ≡ one)
zero_or_one true a e = inr e
zero_or_one false a e = inl e

undone_additive : IsAdditive undone
unfolding undone
undone_additive = record {
  at_zero = ap (λ (v : ℕ). undo 128 (bit_xor v 0)) square_zero ∙ undo_nothing;
  at_sum = λ a b ha hb.
      ap (λ (v : ℕ). undo 128 (bit_xor v (bit_xor a b))) (square_sum a b ha hb)
      ∙ ap (undo 128) (sum_turned (square a) (square b) a b)
      ∙ undo_sum 128 (bit_xor (square a) a) (bit_xor (square b) b);
}

without_one_additive : IsAdditive without_one
unfolding without_one
without_one_additive = record {
  at_zero = refl;
  at_sum = λ a b ha hb.
      (rw (
        coefficient_sum a b 0,
        reduction_sum (coefficient a 0) (coefficient b 0) one (mod-lt _ (lit< tt)) (mod-lt _ (lit< tt)),
      )
      (sum_turned a b (if coefficient a 0 == 1 then one else 0) (if coefficient b 0 == 1 then one else 0)));
}

-- the table undoes a^2 + a on each power of x, computed
undone_power : (i : ℕ) → i < 128
    → undone (times_x_power i one) ≡ without_one (times_x_power i one)
unfolding undone without_one undo undo_table square product partial_product times_x_power times_x
undone_power i h =
    eqb-true _ _ (agree_below_at
    (λ n. eqb (undone (times_x_power n one)) (without_one (times_x_power n one))) (λ _. true) 128 i refl h)

-- only 0 and 1 are their own squares
own_square : (a : ℕ) → a < 2 ^ 128 → square a ≡ a → (a ≡ 0) ⊎ (a ≡ one)
unfolding undone without_one
own_square a bound same =
    let nothing : undo 128 (bit_xor (square a) a) ≡ 0 =
    ap (λ (v : ℕ). undo 128 (bit_xor v a)) same ∙ ap (undo 128) (xor_self a) ∙ undo_nothing in
    let agreed = agree undone without_one undone_additive without_one_additive undone_power a bound in
    let whole : a ≡ (if coefficient a 0 == 1 then one else 0) =
    same_from_sum a _ (sym agreed ∙ nothing) in
    zero_or_one (coefficient a 0 == 1) a whole

-- ---- inverses

-- a to the power 2^n - 1
power_below : ℕ → ℕ → ℕ
power_below zero a = one
power_below (suc n) a = product (square (power_below n a)) a

power_below_lt : (n a : ℕ) → a < 2 ^ 128 → power_below n a < 2 ^ 128
unfolding power_below
power_below_lt zero a h = one_lt
power_below_lt (suc n) a h = product_lt (square (power_below n a)) a h

-- a square times a square
times_square : (r a : ℕ) → r < 2 ^ 128 → a < 2 ^ 128 → product (square r) (product a a) ≡ square (product r a)
unfolding square
times_square r a hr ha = sym (square_product r a hr ha)

-- a product that leaves its second factor as it is, is its own square
square_of_product : (e b a : ℕ) → e ≡ product b a → product e a ≡ a → square e ≡ e
unfolding square
square_of_product e b a is keeps =
    ap (product e) is ∙ product_swap e b a ∙ ap (product b) keeps ∙ sym is

-- times a, it is a to the power 2^n
power_below_times : (n a : ℕ) → a < 2 ^ 128 → product (power_below n a) a ≡ frobenius n a
unfolding power_below frobenius
power_below_times zero a h = product_comm one a one_lt h ∙ product_one a h
power_below_times (suc n) a h =
    product_assoc (square (power_below n a)) a a h h
    ∙ times_square (power_below n a) a (power_below_lt n a h) h
    ∙ ap square (power_below_times n a h)

-- each polynomial other than 0 has an inverse: its power 2^128 - 2
pub inverse_exists : (a : ℕ) → a < 2 ^ 128 → (a ≡ 0 → ⊥)
    → (b : ℕ) × ((b < 2 ^ 128) × (product a b ≡ one))
unfolding power_below
inverse_exists a bound not_zero =
    let b = square (power_below 127 a) in
    let e = product b a in
    let b_lt : b < 2 ^ 128 = square_lt (power_below 127 a) (power_below_lt 127 a bound) in
    let e_lt : e < 2 ^ 128 = product_lt b a bound in
    let keeps : product e a ≡ a = power_below_times 128 a bound ∙ frobenius_fixes a bound in
    let own : square e ≡ e = square_of_product e b a refl keeps in
    ⊎_elim
    (λ (none : e ≡ 0). absurd (not_zero (sym keeps ∙ ap (λ (v : ℕ). product v a) none ∙ zero_times a bound)))
    (λ (unit : e ≡ one). (b, (b_lt, product_comm a b bound b_lt ∙ unit)))
    (own_square e e_lt own)
