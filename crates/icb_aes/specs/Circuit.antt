-- The circuit of the S-box by Boyar and Peralta ("A new combinational logic minimization technique
-- with applications to cryptology", 2009), over whatever has a sum `xor` and a product `and`: bits,
-- or vectors of bits. The names of the gates are theirs. `one` is 1, and `none` is what is read
-- behind a list's end, which no gate does.
use Rattle.std.specs.Prelude.{List, [], ◌∷◌}
use Rattle.std.specs.List.{slice_index_or}

-- the sums y1 to y21 of a byte's bits, which come from the lowest, x7, on; x7 itself stands in
-- front
unfoldable pub inputs : {A : Type 0} → (A → A → A) → A → List A → List A
inputs xor none bits =
    let x7 = slice_index_or bits 0 none in
    let x6 = slice_index_or bits 1 none in
    let x5 = slice_index_or bits 2 none in
    let x4 = slice_index_or bits 3 none in
    let x3 = slice_index_or bits 4 none in
    let x2 = slice_index_or bits 5 none in
    let x1 = slice_index_or bits 6 none in
    let x0 = slice_index_or bits 7 none in
    let y14 = xor x3 x5 in
    let y13 = xor x0 x6 in
    let y9 = xor x0 x3 in
    let y8 = xor x0 x5 in
    let t0 = xor x1 x2 in
    let y1 = xor t0 x7 in
    let y4 = xor y1 x3 in
    let y12 = xor y13 y14 in
    let y2 = xor y1 x0 in
    let y5 = xor y1 x6 in
    let y3 = xor y5 y8 in
    let t1 = xor x4 y12 in
    let y15 = xor t1 x5 in
    let y20 = xor t1 x1 in
    let y6 = xor y15 x7 in
    let y10 = xor y15 t0 in
    let y11 = xor y20 y9 in
    let y7 = xor x7 y11 in
    let y17 = xor y10 y11 in
    let y19 = xor y10 y8 in
    let y16 = xor t0 y11 in
    let y21 = xor y13 y16 in
    let y18 = xor x0 y16 in
    x7 ∷ y1 ∷ y2 ∷ y3 ∷ y4 ∷ y5 ∷ y6 ∷ y7 ∷ y8 ∷ y9 ∷ y10 ∷ y11 ∷ y12 ∷ y13 ∷ y14 ∷ y15 ∷ y16 ∷
    y17 ∷ y18 ∷ y19 ∷ y20 ∷ y21 ∷ []

-- the sums t21 to t24 of products of these
unfoldable pub middle : {A : Type 0} → (A → A → A) → (A → A → A) → A → List A → List A
middle xor and none sums =
    let x7 = slice_index_or sums 0 none in
    let y1 = slice_index_or sums 1 none in
    let y2 = slice_index_or sums 2 none in
    let y3 = slice_index_or sums 3 none in
    let y4 = slice_index_or sums 4 none in
    let y5 = slice_index_or sums 5 none in
    let y6 = slice_index_or sums 6 none in
    let y7 = slice_index_or sums 7 none in
    let y8 = slice_index_or sums 8 none in
    let y9 = slice_index_or sums 9 none in
    let y10 = slice_index_or sums 10 none in
    let y11 = slice_index_or sums 11 none in
    let y12 = slice_index_or sums 12 none in
    let y13 = slice_index_or sums 13 none in
    let y14 = slice_index_or sums 14 none in
    let y15 = slice_index_or sums 15 none in
    let y16 = slice_index_or sums 16 none in
    let y17 = slice_index_or sums 17 none in
    let y18 = slice_index_or sums 18 none in
    let y19 = slice_index_or sums 19 none in
    let y20 = slice_index_or sums 20 none in
    let y21 = slice_index_or sums 21 none in
    let t2 = and y12 y15 in
    let t3 = and y3 y6 in
    let t4 = xor t3 t2 in
    let t5 = and y4 x7 in
    let t6 = xor t5 t2 in
    let t7 = and y13 y16 in
    let t8 = and y5 y1 in
    let t9 = xor t8 t7 in
    let t10 = and y2 y7 in
    let t11 = xor t10 t7 in
    let t12 = and y9 y11 in
    let t13 = and y14 y17 in
    let t14 = xor t13 t12 in
    let t15 = and y8 y10 in
    let t16 = xor t15 t12 in
    let t17 = xor t4 t14 in
    let t18 = xor t6 t16 in
    let t19 = xor t9 t14 in
    let t20 = xor t11 t16 in
    let t21 = xor t17 y20 in
    let t22 = xor t18 y19 in
    let t23 = xor t19 y21 in
    let t24 = xor t20 y18 in
    t21 ∷ t22 ∷ t23 ∷ t24 ∷ []

-- the inverse of these four bits in a field of 16 elements, t29, t33, t37 and t40, and sums of them
unfoldable pub inverted : {A : Type 0} → (A → A → A) → (A → A → A) → A → List A → List A
inverted xor and none four =
    let t21 = slice_index_or four 0 none in
    let t22 = slice_index_or four 1 none in
    let t23 = slice_index_or four 2 none in
    let t24 = slice_index_or four 3 none in
    let t25 = xor t21 t22 in
    let t26 = and t21 t23 in
    let t27 = xor t24 t26 in
    let t28 = and t25 t27 in
    let t29 = xor t28 t22 in
    let t30 = xor t23 t24 in
    let t31 = xor t22 t26 in
    let t32 = and t31 t30 in
    let t33 = xor t32 t24 in
    let t34 = xor t23 t33 in
    let t35 = xor t27 t33 in
    let t36 = and t24 t35 in
    let t37 = xor t36 t34 in
    let t38 = xor t27 t36 in
    let t39 = and t29 t38 in
    let t40 = xor t25 t39 in
    let t41 = xor t40 t37 in
    let t42 = xor t29 t33 in
    let t43 = xor t29 t40 in
    let t44 = xor t33 t37 in
    let t45 = xor t42 t41 in
    t29 ∷ t33 ∷ t37 ∷ t40 ∷ t41 ∷ t42 ∷ t43 ∷ t44 ∷ t45 ∷ []

-- the products z0 to z17 of the inverse's bits and the sums y
unfoldable pub products : {A : Type 0} → (A → A → A) → A → List A → List A → List A
products and none sums inverse =
    let x7 = slice_index_or sums 0 none in
    let y1 = slice_index_or sums 1 none in
    let y2 = slice_index_or sums 2 none in
    let y3 = slice_index_or sums 3 none in
    let y4 = slice_index_or sums 4 none in
    let y5 = slice_index_or sums 5 none in
    let y6 = slice_index_or sums 6 none in
    let y7 = slice_index_or sums 7 none in
    let y8 = slice_index_or sums 8 none in
    let y9 = slice_index_or sums 9 none in
    let y10 = slice_index_or sums 10 none in
    let y11 = slice_index_or sums 11 none in
    let y12 = slice_index_or sums 12 none in
    let y13 = slice_index_or sums 13 none in
    let y14 = slice_index_or sums 14 none in
    let y15 = slice_index_or sums 15 none in
    let y16 = slice_index_or sums 16 none in
    let y17 = slice_index_or sums 17 none in
    let t29 = slice_index_or inverse 0 none in
    let t33 = slice_index_or inverse 1 none in
    let t37 = slice_index_or inverse 2 none in
    let t40 = slice_index_or inverse 3 none in
    let t41 = slice_index_or inverse 4 none in
    let t42 = slice_index_or inverse 5 none in
    let t43 = slice_index_or inverse 6 none in
    let t44 = slice_index_or inverse 7 none in
    let t45 = slice_index_or inverse 8 none in
    and t44 y15 ∷ and t37 y6 ∷ and t33 x7 ∷ and t43 y16 ∷ and t40 y1 ∷ and t29 y7 ∷
    and t42 y11 ∷ and t45 y17 ∷ and t41 y10 ∷ and t44 y12 ∷ and t37 y3 ∷ and t33 y4 ∷
    and t43 y13 ∷ and t40 y5 ∷ and t29 y2 ∷ and t42 y9 ∷ and t45 y14 ∷ and t41 y8 ∷ []

-- the bits of the byte that the S-box gives, from the lowest on: sums of these products, four of
-- them with 1 added
unfoldable pub outputs : {A : Type 0} → (A → A → A) → A → A → List A → List A
outputs xor one none z =
    let z0 = slice_index_or z 0 none in
    let z1 = slice_index_or z 1 none in
    let z2 = slice_index_or z 2 none in
    let z3 = slice_index_or z 3 none in
    let z4 = slice_index_or z 4 none in
    let z5 = slice_index_or z 5 none in
    let z6 = slice_index_or z 6 none in
    let z7 = slice_index_or z 7 none in
    let z8 = slice_index_or z 8 none in
    let z9 = slice_index_or z 9 none in
    let z10 = slice_index_or z 10 none in
    let z11 = slice_index_or z 11 none in
    let z12 = slice_index_or z 12 none in
    let z13 = slice_index_or z 13 none in
    let z14 = slice_index_or z 14 none in
    let z15 = slice_index_or z 15 none in
    let z16 = slice_index_or z 16 none in
    let z17 = slice_index_or z 17 none in
    let t46 = xor z15 z16 in
    let t47 = xor z10 z11 in
    let t48 = xor z5 z13 in
    let t49 = xor z9 z10 in
    let t50 = xor z2 z12 in
    let t51 = xor z2 z5 in
    let t52 = xor z7 z8 in
    let t53 = xor z0 z3 in
    let t54 = xor z6 z7 in
    let t55 = xor z16 z17 in
    let t56 = xor z12 t48 in
    let t57 = xor t50 t53 in
    let t58 = xor z4 t46 in
    let t59 = xor z3 t54 in
    let t60 = xor t46 t57 in
    let t61 = xor z14 t57 in
    let t62 = xor t52 t58 in
    let t63 = xor t49 t58 in
    let t64 = xor z4 t59 in
    let t65 = xor t61 t62 in
    let t66 = xor z1 t63 in
    let s0 = xor t59 t63 in
    let s6 = xor (xor t56 t62) one in
    let s7 = xor (xor t48 t60) one in
    let t67 = xor t64 t65 in
    let s3 = xor t53 t66 in
    let s4 = xor t51 t66 in
    let s5 = xor t47 t65 in
    let s1 = xor (xor t64 s3) one in
    let s2 = xor (xor t55 t67) one in
    s7 ∷ s6 ∷ s5 ∷ s4 ∷ s3 ∷ s2 ∷ s1 ∷ s0 ∷ []

-- the circuit, from a byte's bits to those of the S-box's byte, each from the lowest on
unfoldable pub circuit : {A : Type 0} → (A → A → A) → (A → A → A) → A → A → List A → List A
circuit xor and one none bits =
    let y = inputs xor none bits in
    outputs xor one none (products and none y (inverted xor and none (middle xor and none y)))
