-- What the crate's own readers answer.
use Rattle.std.specs.Prelude.{◌≡◌, ℕ, ◌+◌, ◌*◌, List, Result, Ok, Err}
use Rattle.icb_avro.specs.declared.fault.AvroCause.{AvroCause}
use Rattle.icb_avro.specs.declared.fault.Refusal.{Refusal}
use Rattle.icb_avro.specs.declared.fault.Stop.{Stop}
use Rattle.icb_avro.specs.declared.fault.Stop.TheVariants as stop

-- what a call answered, seen by `view`, is what reading gives
abbrev pub Gives : {X Y : Type 0} → (X → Y) → Result X Refusal → Result Y Refusal → Type 0
Gives view (Ok x) read = read ≡ Ok (view x)
Gives view (Err e) read = read ≡ Err e

-- a number whose first bytes give `low`, where the rest counts `power` times
abbrev pub joined : ℕ → ℕ → Result (ℕ × List ℕ) AvroCause → Result (ℕ × List ℕ) AvroCause
joined low power (Ok x) = Ok (low + power * x.0, x.1)
joined low power (Err c) = Err c

-- a call was stopped as reading is, or by want of memory
abbrev pub Stops : {Y : Type 0} → Stop → Result Y Refusal → Type 0
Stops (stop.Refused r) read = read ≡ Err r
Stops stop.NoMemory read = Unit {0}

-- what a call made, seen by `view`, is what reading gives, where no memory was wanting
abbrev pub Makes : {X Y : Type 0} → (X → Y) → Result X Stop → Result Y Refusal → Type 0
Makes view (Ok x) read = read ≡ Ok (view x)
Makes view (Err e) read = Stops e read
