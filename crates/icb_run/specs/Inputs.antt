-- Inputs that are read to their end, or to one byte past a limit.
use Rattle.std.specs.Prelude.{ℕ, ◌≡◌, ◌+◌, ◌<◌, ◌≤◌, List, [], ◌++◌, drop, length, IfSome}
use Rattle.std.specs.Prelude.{IsSomeAnd}
use Rattle.std.specs.Prelude.{Option, Some, Result, Ok, Err}
use Rattle.icb_run.specs.declared.input.ReadFault.{ReadFault}
use Rattle.icb_run.specs.declared.input.ReadFault.TheVariants as read
use Rattle.icb_run.specs.declared.status.Status.{Status}
use Rattle.icb_run.specs.declared.status.Status.TheVariants as status
use Rattle.icb_base.specs.declared.limits.Limited.TheVariants as limit

-- the most bytes that an input may have: 64 MiB
abbrev pub input_limit : ℕ
input_limit = 67108864

-- an input of at most so many bytes is read to its end, and a longer one refused at the byte behind
-- them
abbrev pub ReadsAll : List ℕ → ℕ → Option (List ℕ) → Result (List ℕ) ReadFault → Type 0
ReadsAll left most now (Ok bytes) = (bytes ≡ left) × (length left ≤ most) × (now ≡ Some [])
ReadsAll left most now (Err read.Limit) =
    (most < length left) × (now ≡ Some (drop (most + 1) left))
ReadsAll left most now (Err fault) = Unit {0}

-- what was read so far and what is left are the whole input
abbrev pub Splits : List ℕ → List ℕ → Option (List ℕ) → Type 0
Splits whole read now = IsSomeAnd now (λ left. read ++ left ≡ whole)

-- the status of an input that isn't read to its end
abbrev pub status_of_read : ReadFault → Status
status_of_read read.Input = status.InputFault
status_of_read read.Limit = status.Limit limit.Input input_limit
status_of_read read.NoMemory = status.NoMemory

-- what a command leaves of a source that it reads, by the status that it ended with: one byte past
-- the limit was read and no more, some of it was read before a fault of it or want of memory, and
-- else all was
abbrev pub LeavesOf : ℕ → Option (List ℕ) → Option (List ℕ) → Status → Type 0
LeavesOf most before now (status.Limit what number) =
    IfSome before (λ text. now ≡ Some (drop (most + 1) text))
LeavesOf most before now status.InputFault = Unit {0}
LeavesOf most before now status.NoMemory = Unit {0}
LeavesOf most before now status = IfSome before (λ text. now ≡ Some [])
