-- Faults that are handed on.
use Rattle.std.proofs.Common.{◌≡◌, Result, Ok, Err, refl}
use Rattle.icb_turns.specs.Answers.{Answers, ◌>>=◌}
use Rattle.icb_turns.specs.declared.fault.JobFault.{JobFault}
use Rattle.icb_turns.specs.declared.fault.JobFault.TheVariants as fault

-- a fault of a test is that of the tests behind it too
pub fault_handed : {A B : Type 0} (e : JobFault) (given : Result A JobFault) (next : A → Result B JobFault)
    → Answers given (Err e) → Answers (given >>= next) (Err e)
fault_handed fault.NoTable given next h = rw h refl
fault_handed (fault.BadMeta f) given next h = rw h refl
fault_handed (fault.BadInput l r) given next h = rw h refl
fault_handed (fault.Cannot w) given next h = rw h refl
fault_handed (fault.SameKey id) given next h = rw h refl
fault_handed (fault.KeyName id) given next h = rw h refl
fault_handed (fault.Tree e) given next h = rw h refl
fault_handed (fault.NameTaken p) given next h = rw h refl
fault_handed (fault.Contended v) given next h = rw h refl
fault_handed (fault.Limit w n) given next h = rw h refl
fault_handed fault.Random given next h = rw h refl
fault_handed fault.Store given next h = rw h refl
fault_handed fault.NoMemory given next h = tt

-- what is given is answered
pub given_answered : {A : Type 0} (given answer : Result A JobFault) → given ≡ answer → Answers given answer
given_answered given (Ok x) h = h
given_answered given (Err fault.NoTable) h = h
given_answered given (Err (fault.BadMeta f)) h = h
given_answered given (Err (fault.BadInput l r)) h = h
given_answered given (Err (fault.Cannot w)) h = h
given_answered given (Err (fault.SameKey id)) h = h
given_answered given (Err (fault.KeyName id)) h = h
given_answered given (Err (fault.Tree e)) h = h
given_answered given (Err (fault.NameTaken p)) h = h
given_answered given (Err (fault.Contended v)) h = h
given_answered given (Err (fault.Limit w n)) h = h
given_answered given (Err fault.Random) h = h
given_answered given (Err fault.Store) h = h
given_answered given (Err fault.NoMemory) h = tt
