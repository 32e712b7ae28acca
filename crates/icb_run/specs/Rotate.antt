-- The command `rotate`: the table's keys are sealed again by a new master (ours: docs/FORMATS.md,
-- "Rotation of the master key").
use Rattle.std.specs.Prelude.{ℕ, ◌≡◌, ◌⊎◌, List, ◌++◌, Option, Some}
use Rattle.std.specs.Prelude.{IfSome, IsSomeAnd, Result, Ok, Err}
use Rattle.icb_base.specs.Objects.{Objects}
use Rattle.icb_base.specs.Transfers.{DrewSome}
use Rattle.icb_base.specs.declared.storage.Store as store
use Rattle.icb_base.specs.declared.transfer.Draws as draws
use Rattle.icb_base.specs.declared.transfer.Sink as sink
use Rattle.icb_chain.specs.Ring.{Ring}
use Rattle.icb_meta.specs.declared.fields.Fields.{Fields}
use Rattle.icb_rotate.specs.Whole.{KeepsWhole, RotatesFiles}
use Rattle.icb_run.specs.Answers.{EndsEarly, TellsLine, version_line}
use Rattle.icb_run.specs.Create.{LeavesTheRest}
use Rattle.icb_run.specs.Jobs.{status_of_job}
use Rattle.icb_run.specs.Keyrings.{keyring_of, status_of_keys}
use Rattle.icb_run.specs.Outside.{Outside}
use Rattle.icb_run.specs.declared.keyring_input.KeysFault.{KeysFault}
use Rattle.icb_run.specs.declared.status.Status.{Status}
use Rattle.icb_table.specs.Standing.{Stands}
use Rattle.icb_table.specs.Table.{Table}
use Rattle.icb_turns.specs.declared.fault.JobFault.{JobFault}
use Rattle.icb_turns.specs.declared.fault.JobFault.TheVariants as fault
use Rattle.icb_words.specs.declared.rotate_words.Rotate.{Rotate}

-- what a table holds, what was drawn, and what was printed, as far as they tell of themselves
pub record Told : Type 0 where
  pub table : Option Objects
  pub drawn : Option (List ℕ)
  pub out : Option (List ℕ)

-- that of a store, a generator and a sink
abbrev pub told : {S D O : Type 0} → store.Ghosts S → draws.Ghosts D → sink.Ghosts O → S → D → O
    → Told
told table random out s d o =
    record { table = table.held s; drawn = random.drawn d; out = out.written o }

-- that of the outside
abbrev pub told_of : Outside → Told
told_of o = record { table = o.table; drawn = o.drawn; out = o.out }

-- what is answered and printed behind a rotation: the version that it put, or its refusal and
-- nothing
abbrev pub TellsRotation : Result ℕ JobFault → Option (List ℕ) → Option (List ℕ) → Status → Type 0
TellsRotation (Ok version) before now answer = TellsLine (version_line version) before now answer
TellsRotation (Err refused) before now answer = (answer ≡ status_of_job refused) × (now ≡ before)

-- these bytes were drawn, or where the generator failed some
abbrev pub DrawsFor : Result ℕ JobFault → List ℕ → Option (List ℕ) → Option (List ℕ) → Type 0
DrawsFor (Err fault.Random) drawn before now = IfSome before (λ bytes. DrewSome bytes now)
DrawsFor result drawn before now = IfSome before (λ bytes. now ≡ Some (bytes ++ drawn))

-- a store that stood for a table stands for it behind a rotation, and where the version was put
-- also under the keyring with the new master alone
abbrev pub KeepsItsTable : List ℕ → Ring → Result ℕ JobFault → Option Objects → Option Objects
    → Type 0
KeepsItsTable id ring result before now = IfSome before (λ files. (meta : Fields) (table : Table)
    → Stands files meta ring table
    → IsSomeAnd now (λ files_now. KeepsWhole id ring files files_now table result))

-- under a keyring the table's keys are sealed again by the master of this id, with bytes that are
-- drawn, and the answer is that of the rotation
pub record RotatesTable (id : List ℕ) (ring : Ring) (now_ms : ℕ) (before now : Told)
    (answer : Status) : Type 0 where
  pub result : Result ℕ JobFault
  pub drawn : List ℕ
  pub rotates : IfSome before.table (λ files.
      RotatesFiles files ring id now_ms drawn result now.table)
  pub keeps : KeepsItsTable id ring result before.table now.table
  pub draws : DrawsFor result drawn before.drawn now.drawn
  pub tells : TellsRotation result before.out now.out answer

-- the keyring is refused and nothing was done, or else the table's keys are sealed again; a fault
-- of the keyring or want of memory may end the command before
abbrev pub RotateAnswers : List ℕ → Result Ring KeysFault → ℕ → Told → Told → Status → Type 0
RotateAnswers id (Err refused) now_ms before now answer =
    ((answer ≡ status_of_keys refused) ⊎ EndsEarly answer) × (now ≡ before)
RotateAnswers id (Ok ring) now_ms before now answer =
    RotatesTable id ring now_ms before now answer ⊎ (EndsEarly answer × (now ≡ before))

-- this is answered over a keyring that tells its text, and nothing but the table, the keyring, the
-- draws, the output and their counts was changed
pub record IsRotate (words : Rotate) (before now : Outside) (answer : Status) : Type 0 where
  pub answered : IfSome before.keys (λ keyring. RotateAnswers words.master (keyring_of keyring)
      before.now_ms (told_of before) (told_of now) answer)
  pub rest : LeavesTheRest before now
