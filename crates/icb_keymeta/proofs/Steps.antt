-- Steps of reading.
use Rattle.std.proofs.Common.{◌≡◌, ℕ, Bool, true, false, cond, List, Result, Ok, Err, refl, ap}
use Rattle.icb_avro.specs.Reading.{Read}
use Rattle.icb_keymeta.specs.Decoded.{avro, ◌>>=◌}

-- both steps gave something
pub bind_ok : {A B : Type 0} (r : Result A ℕ) (f : A → Result B ℕ) (y : B) → (r >>= f) ≡ Ok y → (x : A) × (r ≡ Ok x) × (f x ≡ Ok y)
bind_ok (Ok x) f y e = (x, refl, e)
bind_ok (Err d) f y e = absurd cc

abbrev pub done : {A : Type 0} → A → Result A ℕ
done x = Ok x

pub done_is : {A : Type 0} (x y : A) → done x ≡ done y → x ≡ y
done_is x y e = cc

-- what is read is the one and the other, and so are the bytes behind it
pub value_is : {A : Type 0} (x y : A) (more rest : List ℕ) → done {A = A × List ℕ} (x, more) ≡ done {A = A × List ℕ} (y, rest) → x ≡ y
value_is {A} x y more rest e = let a : A × List ℕ = (x, more) in let b : A × List ℕ = (y, rest) in ap (λ (p : A × List ℕ). p.0) (done_is a b e)

pub rest_is : {A : Type 0} (x y : A) (more rest : List ℕ) → done {A = A × List ℕ} (x, more) ≡ done {A = A × List ℕ} (y, rest) → more ≡ rest
rest_is {A} x y more rest e = let a : A × List ℕ = (x, more) in let b : A × List ℕ = (y, rest) in ap (λ (p : A × List ℕ). p.1) (done_is a b e)

-- a test was passed
pub test_ok : {A : Type 0} (b : Bool) (r : Result A ℕ) (d : ℕ) (y : A) → cond b r (Err d) ≡ Ok y → (b ≡ true) × (r ≡ Ok y)
test_ok true r d y e = (refl, e)
test_ok false r d y e = absurd cc

-- an item of Avro was read
pub avro_ok : {A : Type 0} (r : Read A) (x : A × List ℕ) → avro r ≡ Ok x → r ≡ Ok x
avro_ok {A} (Ok y) x e = let same : y ≡ x = cc in ap (λ (z : A × List ℕ). Ok z) same
avro_ok (Err d) x e = absurd cc
