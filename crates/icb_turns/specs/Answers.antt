-- What a call answers beside its definition, and how one test follows another.
use Rattle.std.specs.Prelude.{◌≡◌, Bool, true, false, Option, Some, None, Result, Ok, Err}
use Rattle.icb_chain.specs.declared.fault.ChainFault.{ChainFault}
use Rattle.icb_turns.specs.declared.fault.JobFault.{JobFault}
use Rattle.icb_turns.specs.declared.fault.JobFault.TheVariants as fault
use Rattle.icb_walk.specs.declared.fault.TreeFault.TheVariants as tree

-- a call answers what is given, unless memory was wanting
abbrev pub Answers : {A : Type 0} → Result A JobFault → Result A JobFault → Type 0
Answers given (Err fault.NoMemory) = Unit {0}
Answers given answer = given ≡ answer

-- so does a call that reads a store, unless a call of the store failed
abbrev pub AnswersRead : {A : Type 0} → Result A JobFault → Result A JobFault → Type 0
AnswersRead given (Err fault.NoMemory) = Unit {0}
AnswersRead given (Err fault.Store) = Unit {0}
AnswersRead given answer = given ≡ answer

infixl 10 ◌>>=◌
-- what comes next, where nothing is refused
abbrev pub ◌>>=◌ : {A B : Type 0} → Result A JobFault → (A → Result B JobFault)
    → Result B JobFault
(Ok x) >>= f = f x
(Err refused) >>= f = Err refused

-- what is there, or a refusal
abbrev pub or_refused : {A : Type 0} → JobFault → Option A → Result A JobFault
or_refused refused None = Err refused
or_refused refused (Some x) = Ok x

-- a refusal where this is so
abbrev pub refused_where : JobFault → Bool → Result (Unit {0}) JobFault
refused_where refused true = Err refused
refused_where refused false = Ok tt

-- a key that was opened, or why it wasn't
abbrev pub of_chain : {A : Type 0} → Result A ChainFault → Result A JobFault
of_chain (Ok x) = Ok x
of_chain (Err e) = Err (fault.Tree (tree.Chain e))
