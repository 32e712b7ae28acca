-- The put of a version, and what a job does where another one was put first (ours: docs/FORMATS.md,
-- "Versions").
use Rattle.std.specs.Prelude.{ℕ, ◌<◌, ◌≤◌, ◌≡◌, List, length, Result, Ok, Err}
use Rattle.icb_base.specs.declared.limits.Limited.TheVariants as limit
use Rattle.icb_base.specs.declared.storage.Put.{Put}
use Rattle.icb_tree.specs.Versions.{most_bytes}
use Rattle.icb_turns.specs.declared.fault.JobFault.{JobFault}
use Rattle.icb_turns.specs.declared.fault.JobFault.TheVariants as fault

-- a text of so many bytes is put exactly where it isn't too long
abbrev pub AnswersPut : ℕ → Result Put JobFault → Type 0
AnswersPut size (Ok put) = size ≤ most_bytes
AnswersPut size (Err fault.Store) = size ≤ most_bytes
AnswersPut size (Err fault.NoMemory) = Unit {0}
AnswersPut size (Err (fault.Limit what number)) =
    (most_bytes < size) × (what ≡ limit.Metadata) × (number ≡ most_bytes)
AnswersPut size (Err other) = ⊥

-- The versions that a job found taken, with the one that it found last: it goes on, or gives up and
-- says them all, which it does exactly where they are more than its retries.
abbrev pub AnswersTaken : List ℕ → ℕ → Result (Unit {0}) JobFault → Type 0
AnswersTaken taken retries (Ok _) = length taken ≤ retries
AnswersTaken taken retries (Err (fault.Contended versions)) =
    (retries < length taken) × (versions ≡ taken)
AnswersTaken taken retries (Err other) = ⊥
