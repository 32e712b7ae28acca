-- What copying a plaintext piece by piece answers.
use Rattle.std.specs.Prelude.{ℕ, ◌≡◌, ◌-◌, ◌*◌, List, take, Option, Result, Ok, Err}
use Rattle.icb_base.specs.Causes.{Blames}
use Rattle.icb_base.specs.declared.storage.Store as store
use Rattle.icb_stream.specs.declared.fault.StreamFault.{StreamFault}
use Rattle.icb_stream.specs.declared.fault.StreamFault.TheVariants as stream
use Rattle.icb_run.specs.Answers.{Appends, AppendsFront}
use Rattle.icb_run.specs.CatFile.{status_of_fault}
use Rattle.icb_run.specs.declared.cat_file.CopyFault.{CopyFault}
use Rattle.icb_run.specs.declared.cat_file.CopyFault.TheVariants as copy
use Rattle.icb_run.specs.declared.status.Status.{Status}
use Rattle.icb_run.specs.declared.status.Status.TheVariants as status

-- the status of what copying answers
abbrev pub status_of_copy : List ℕ → Result (Unit {0}) CopyFault → Status
status_of_copy path (Ok _) = status.Ok
status_of_copy path (Err (copy.Stream fault)) = status_of_fault path fault
status_of_copy path (Err copy.Output) = status.OutputFault
status_of_copy path (Err copy.NoMemory) = status.NoMemory

-- a store was only read: it holds what it held, and its count rose where the reads ended with this
-- fault, and else stayed
pub record OnlyReads {Self : Type 0} (of : store.Ghosts Self) (fault : Type 0)
    (before now : Self) : Type 0 where
  pub same : of.held now ≡ of.held before
  pub count : Blames fault (of.faults before) (of.faults now)

-- the text before a refused block is written whole, and where the output failed a front of it
abbrev pub WritesBefore : ℕ → List ℕ → Option (List ℕ) → Option (List ℕ) → CopyFault → Type 0
WritesBefore number text before now (copy.Stream (stream.Block refused)) =
    (refused ≡ number) × Appends before now text
WritesBefore number text before now copy.Output = AppendsFront before now text
WritesBefore number text before now fault = ⊥

-- copying ends at a fault of the stream: at a refused block after what stands before it in the
-- piece was written, and else with nothing more
abbrev pub EndsCopy : StreamFault → ℕ → ℕ → List ℕ → Option (List ℕ) → Option (List ℕ) → CopyFault
    → Type 0
EndsCopy (stream.Block number) block_length at piece before now ended =
    WritesBefore number (take (number * block_length - at) piece) before now ended
EndsCopy fault block_length at piece before now ended = (ended ≡ copy.Stream fault) × (now ≡ before)
