-- Steps of reading that were not refused.
use Rattle.std.proofs.Common.{◌≡◌, ℕ, Bool, true, false, cond, List, Result, Ok, Err, refl, sym, ap, ◌++◌, append_assoc, ◌⊎◌, inl, inr}
use Rattle.icb_avro.specs.declared.fault.AvroCause.{AvroCause}
use Rattle.icb_avro.specs.declared.fault.Refusal.{Refusal}
use Rattle.icb_avro.specs.Reading.{◌>>=◌}

-- both steps gave a value
pub bind_ok : {A B : Type 0} (r : Result A Refusal) (f : A → Result B Refusal) (y : B) → (r >>= f) ≡ Ok y → (x : A) × (r ≡ Ok x) × (f x ≡ Ok y)
bind_ok (Ok x) f y e = (x, refl, e)
bind_ok (Err d) f y e = absurd cc

abbrev pub done : {A : Type 0} → A → Result A Refusal
done x = Ok x

pub ok_is : {A : Type 0} (x y : A) → done x ≡ done y → x ≡ y
ok_is x y e = cc

-- the value is the one that was read, and so are the bytes behind it
pub value_is : {A : Type 0} (x y : A) (more rest : List ℕ) → done {A = A × List ℕ} (x, more) ≡ done {A = A × List ℕ} (y, rest) → x ≡ y
value_is {A} x y more rest e = let a : A × List ℕ = (x, more) in let b : A × List ℕ = (y, rest) in ap (λ (p : A × List ℕ). p.0) (ok_is a b e)

pub rest_is : {A : Type 0} (x y : A) (more rest : List ℕ) → done {A = A × List ℕ} (x, more) ≡ done {A = A × List ℕ} (y, rest) → more ≡ rest
rest_is {A} x y more rest e = let a : A × List ℕ = (x, more) in let b : A × List ℕ = (y, rest) in ap (λ (p : A × List ℕ). p.1) (ok_is a b e)

abbrev of_number : ℕ × List ℕ → Result (ℕ × List ℕ) AvroCause
of_number x = Ok x

of_number_is : (x y : ℕ × List ℕ) → of_number x ≡ of_number y → x ≡ y
of_number_is x y e = cc

-- a number's value and the bytes behind it
pub number_is : (n m : ℕ) (more rest : List ℕ) → of_number (n, more) ≡ of_number (m, rest) → (n ≡ m) × (more ≡ rest)
number_is n m more rest e = let s = of_number_is (n, more) (m, rest) e in (ap (λ (p : ℕ × List ℕ). p.0) s, ap (λ (p : ℕ × List ℕ). p.1) s)

-- a test was passed
pub test_ok : {A : Type 0} (b : Bool) (r : Result A Refusal) (d : Refusal) (y : A) → cond b r (Err d) ≡ Ok y → (b ≡ true) × (r ≡ Ok y)
test_ok true r d y e = (refl, e)
test_ok false r d y e = absurd cc

-- which way a test went
pub chosen : {A : Type 0} (b : Bool) (x y z : A) → cond b x y ≡ z → ((b ≡ true) × (x ≡ z)) ⊎ ((b ≡ false) × (y ≡ z))
chosen true x y z e = inl (refl, e)
chosen false x y z e = inr (refl, e)

-- ---- lists and pairs

pub pair_is : {A : Type 0} (x : A × List ℕ) (y : A) (more : List ℕ) → x.0 ≡ y → x.1 ≡ more → x ≡ (y, more)
pair_is x y more e f = rw (← e, ← f) refl

pub fronts_join : (all a mid b more : List ℕ) → all ≡ a ++ mid → mid ≡ b ++ more → all ≡ (a ++ b) ++ more
fronts_join all a mid b more e f = rw (e, f) (sym (append_assoc a b more))
