-- A rotation is complete: over a store that stands for a table, to a new master of the keyring, the
-- next version is put, unless a call failed, no memory was left, or the metadata is too long.
use Rattle.std.specs.Prelude.{ℕ, ◌+◌, ◌<◌, ◌≡◌, List, IfSome, Result, Ok, Err}
use Rattle.icb_base.specs.declared.limits.Limited.TheVariants as limit
use Rattle.icb_base.specs.declared.storage.Store as store
use Rattle.icb_chain.specs.Opening.{table_of}
use Rattle.icb_chain.specs.Ring.{Ring}
use Rattle.icb_meta.specs.declared.fields.Fields.{Fields}
use Rattle.icb_rotate.specs.Keys.{new_master_of}
use Rattle.icb_table.specs.Standing.{Stands}
use Rattle.icb_table.specs.Table.{Table}
use Rattle.icb_tree.specs.Versions.{most_bytes, most_versions}
use Rattle.icb_turns.specs.declared.fault.JobFault.{JobFault}
use Rattle.icb_turns.specs.declared.fault.JobFault.TheVariants as fault

-- the version behind this one was put; or the store or the generator failed, whose count then rose,
-- as `Rotates` says; or no memory was left, or the text of metadata is longer than it may be
abbrev pub IsComplete : ℕ → Result ℕ JobFault → Type 0
IsComplete last (Ok version) = version ≡ last + 1
IsComplete last (Err fault.Store) = Unit {0}
IsComplete last (Err fault.Random) = Unit {0}
IsComplete last (Err fault.NoMemory) = Unit {0}
IsComplete last (Err (fault.Limit what number)) =
    (what ≡ limit.Metadata) × (number ≡ most_bytes)
IsComplete last (Err e) = ⊥

-- Where the store stands for a table, behind whose version there may be another one, and nothing of
-- its keys refuses the new master, which is in the keyring, the rotation is complete.
abbrev pub RotatesComplete : {S : Type 0} → store.Ghosts S → Ring → List ℕ → Result ℕ JobFault → S
    → Type 0
RotatesComplete of ring id answer before = IfSome (of.held before) (λ files. (meta : Fields)
    (table : Table) (key : List ℕ) (stands : Stands files meta ring table)
    → stands.last < most_versions → new_master_of (table_of meta.state) ring id ≡ Ok key
    → IsComplete stands.last answer)
