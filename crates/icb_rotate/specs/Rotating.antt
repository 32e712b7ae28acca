-- What the reading turn of a rotation answers and draws.
use Rattle.std.specs.Prelude.{ℕ, ◌*◌, ◌≡◌, nat_le, List, [], length, Some, Result, Ok, Err, IsOk}
use Rattle.std.specs.Prelude.{true}
use Rattle.icb_base.specs.Calls.{DrawsText}
use Rattle.icb_base.specs.declared.limits.Limited.TheVariants as limit
use Rattle.icb_base.specs.declared.transfer.Draws as draws
use Rattle.icb_chain.specs.Opening.{KeyTable}
use Rattle.icb_chain.specs.Ring.{Ring}
use Rattle.icb_meta.specs.declared.records.KeyEntry.{KeyEntry}
use Rattle.icb_rotate.specs.Keys.{all_ascend, key_count, new_master_of, rewrapped}
use Rattle.icb_tree.specs.Versions.{most_versions}
use Rattle.icb_turns.specs.Answers.{◌>>=◌, refused_where}
use Rattle.icb_turns.specs.declared.fault.CannotWhat.TheVariants as form
use Rattle.icb_turns.specs.declared.fault.JobFault.{JobFault}
use Rattle.icb_turns.specs.declared.fault.JobFault.TheVariants as fault
use Rattle.icb_walk.specs.declared.fault.TreeFault.TheVariants as tree

-- the key of a new master of a table whose current version has this number, or the first refusal:
-- after all others, one more version would be too many
abbrev pub master_for : KeyTable → Ring → ℕ → List ℕ → Result (List ℕ) JobFault
master_for table ring version id = do
  key ← new_master_of table ring id
  few ← refused_where (fault.Limit limit.Versions most_versions) (nat_le most_versions version)
  Ok key

-- the keys of a table sealed again by a new master, with these bytes as nonces
pub record AreRotated (table : KeyTable) (ring : Ring) (version : ℕ) (id drawn : List ℕ)
    (entries : List KeyEntry) : Type 0 where
  pub key : List ℕ
  pub is_key : master_for table ring version id ≡ Ok key
  pub nonces : length drawn ≡ 12 * key_count table
  pub sealed : rewrapped table ring (record { id = id; key = key }) table.entries drawn
      ≡ Some entries
  pub ascend : all_ascend entries ≡ true

-- the refusals of a rotation
abbrev pub IsRotationFault : JobFault → Type 0
IsRotationFault (fault.BadInput line row) = ⊥
IsRotationFault (fault.Cannot form.NotEncrypted) = Unit {0}
IsRotationFault (fault.Cannot other) = ⊥
IsRotationFault (fault.Tree (tree.Chain refused)) = Unit {0}
IsRotationFault (fault.Tree other) = ⊥
IsRotationFault (fault.NameTaken path) = ⊥
IsRotationFault other = Unit {0}

-- what is answered, and the bytes that were drawn for it: none before each refusal is excluded
abbrev pub AnswersKeys : KeyTable → Ring → ℕ → List ℕ → List ℕ → Result (List KeyEntry) JobFault
    → Type 0
AnswersKeys table ring version id drawn (Ok entries) =
    AreRotated table ring version id drawn entries
AnswersKeys table ring version id drawn (Err fault.NoMemory) = Unit {0}
AnswersKeys table ring version id drawn (Err fault.Random) =
    IsOk (master_for table ring version id) × (drawn ≡ [])
AnswersKeys table ring version id drawn (Err fault.Store) = ⊥
AnswersKeys table ring version id drawn (Err e) =
    (master_for table ring version id ≡ Err e) × (drawn ≡ [])

-- the keys that are answered are sealed with the bytes that were drawn
pub record RotatesKeys {D : Type 0} (of : draws.Ghosts D) (table : KeyTable) (ring : Ring)
    (version : ℕ) (id : List ℕ) (result : Result (List KeyEntry) JobFault)
    (before now : D) : Type 0 where
  pub drawn : List ℕ
  pub answers : AnswersKeys table ring version id drawn result
  pub draws : DrawsText of drawn (result ≡ Err fault.Random) before now

-- the bytes that a fill drew, none where it failed
abbrev pub drawn_bytes : Result (List ℕ) JobFault → List ℕ
drawn_bytes (Ok drawn) = drawn
drawn_bytes (Err e) = []

-- the fault that is meant is answered, or memory was wanting
abbrev pub IsFault : JobFault → JobFault → Type 0
IsFault meant fault.NoMemory = Unit {0}
IsFault meant answered = answered ≡ meant
