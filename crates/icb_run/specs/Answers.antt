-- What a command answers and writes, and how it may end before.
use Rattle.std.specs.Prelude.{ℕ, ◌≡◌, ◌⊎◌, List, ◌++◌, codes, decimal, Option, Some, IfSome}
use Rattle.icb_base.specs.Transfers.{WroteFront}
use Rattle.icb_run.specs.Outside.{Outside}
use Rattle.icb_run.specs.declared.status.Status.{Status}
use Rattle.icb_run.specs.declared.status.Status.TheVariants.{InputFault, NoMemory, Ok}
use Rattle.icb_run.specs.declared.status.Status.TheVariants.{OutputFault}
use Rattle.icb_run.specs.declared.status.Status.TheVariants.{RandomFault, StoreFault}

-- a fault of the outside or want of memory, which may end a command at any place; `FaultsEnd` says
-- that a fault comes only where the count of such a part rose
abbrev pub EndsEarly : Status → Type 0
EndsEarly StoreFault = Unit {0}
EndsEarly InputFault = Unit {0}
EndsEarly OutputFault = Unit {0}
EndsEarly RandomFault = Unit {0}
EndsEarly NoMemory = Unit {0}
EndsEarly status = ⊥

-- a status, and the text that the command writes
pub record Answer : Type 0 where
  pub status : Status
  pub text : List ℕ

-- the text was written behind what was there
abbrev pub Appends : Option (List ℕ) → Option (List ℕ) → List ℕ → Type 0
Appends before now text = IfSome before (λ bytes. now ≡ Some (bytes ++ text))

-- a front of the text was
abbrev pub AppendsFront : Option (List ℕ) → Option (List ℕ) → List ℕ → Type 0
AppendsFront before now text = IfSome before (λ bytes. WroteFront now bytes text)

-- of a command that writes as it goes on: this answer, or an early end and then a front of the text
abbrev pub Gives : Answer → Option (List ℕ) → Option (List ℕ) → Status → Type 0
Gives answer before now status =
    ((status ≡ answer.status) × Appends before now answer.text)
    ⊎ (EndsEarly status × AppendsFront before now answer.text)

-- of a command that writes when all else is done: this answer, or a fault of the output and then a
-- front of the text, or another early end and nothing written
abbrev pub Prints : Answer → Option (List ℕ) → Option (List ℕ) → Status → Type 0
Prints answer before now status =
    ((status ≡ answer.status) × Appends before now answer.text)
    ⊎ ((status ≡ OutputFault) × AppendsFront before now answer.text)
    ⊎ (EndsEarly status × (now ≡ before))

-- the line of a version
abbrev pub version_line : ℕ → List ℕ
version_line version = codes "version " ++ decimal version ++ codes "\n"

-- a line is printed behind what was put, or the output failed there
abbrev pub TellsLine : List ℕ → Option (List ℕ) → Option (List ℕ) → Status → Type 0
TellsLine line before now answer = ((answer ≡ Ok) × Appends before now line)
    ⊎ ((answer ≡ OutputFault) × AppendsFront before now line)

-- nothing but the output and its count was changed
abbrev pub LeavesAllButOut : Outside → Outside → Type 0
LeavesAllButOut before now = now ≡ record before {
  out = now.out;
  faults = record before.faults { out = now.faults.out };
}

-- nothing but the output, its count and that of the table was changed
abbrev pub LeavesAllButOutAndTable : Outside → Outside → Type 0
LeavesAllButOutAndTable before now = now ≡ record before {
  out = now.out;
  faults = record before.faults { table = now.faults.table; out = now.faults.out };
}
