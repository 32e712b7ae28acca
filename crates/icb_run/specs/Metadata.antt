-- The table metadata that a command reads: that of the table's current version, or what was handed
-- in.
use Rattle.std.specs.Prelude.{ℕ, ◌≡◌, ◌⊎◌, Bool, true, false, List, Option, Some, option_map}
use Rattle.std.specs.Prelude.{Result, Ok, Err}
use Rattle.serde_json.specs.Data.{Data}
use Rattle.icb_base.specs.Objects.{Objects}
use Rattle.icb_base.specs.declared.limits.Limited.TheVariants as limit
use Rattle.icb_meta.specs.Answers.{shown_of}
use Rattle.icb_meta.specs.declared.fields.Fields.{Fields}
use Rattle.icb_meta.specs.declared.table.TableMeta.{TableMeta}
use Rattle.icb_run.specs.Answers.{EndsEarly}
use Rattle.icb_run.specs.Current.{status_of_current}
use Rattle.icb_run.specs.Inputs.{LeavesOf}
use Rattle.icb_run.specs.declared.status.Status.{Status}
use Rattle.icb_run.specs.declared.status.Status.TheVariants as status
use Rattle.icb_tree.specs.Versions.{◌>>=◌, current_of, meta_in, most_bytes, short_text}
use Rattle.icb_tree.specs.declared.fault.CurrentFault.{CurrentFault}

-- the record that is shown
abbrev pub shown : Result (Data × Fields) CurrentFault → Result Fields CurrentFault
shown (Ok read) = Ok read.1
shown (Err fault) = Err fault

-- the metadata that was handed in as a text, or why it is none: it is too long, or shows none
abbrev pub handed_in : List ℕ → Result Fields CurrentFault
handed_in text = shown (short_text (Some text) >>= meta_in)

-- that of a table's current version, or why there is none
abbrev pub current_in : Objects → Result Fields CurrentFault
current_in files = shown (current_of files >>= (λ current. Ok current.1))

-- what is read, as far as its part of the outside tells: what was handed in, or else the table's
abbrev pub metadata_told : Bool → Option Objects → Option (List ℕ)
    → Option (Result Fields CurrentFault)
metadata_told true table trusted = option_map handed_in trusted
metadata_told false table trusted = option_map current_in table

-- it was read, or this is the status of why it wasn't; or a fault or want of memory came first
abbrev pub FindsMetadata : Result Fields CurrentFault → Result TableMeta Status → Type 0
FindsMetadata meaning (Ok meta) = meaning ≡ Ok (shown_of meta)
FindsMetadata meaning (Err s) =
    ((fault : CurrentFault) × (meaning ≡ Err fault) × (s ≡ status_of_current fault))
    ⊎ EndsEarly s

-- what is left of metadata that was handed in, by the status that a command ended with: where the
-- keyring was refused nothing was read, and else all, or to one byte past the limit
abbrev pub LeavesMetadata : Option (List ℕ) → Option (List ℕ) → Status → Type 0
LeavesMetadata before now (status.BadKeyring line) = now ≡ before
LeavesMetadata before now (status.Limit limit.Keyring number) = now ≡ before
LeavesMetadata before now s = LeavesOf most_bytes before now s

-- the same where it was handed in, and else nothing was read
abbrev pub LeavesTrusted : Bool → Option (List ℕ) → Option (List ℕ) → Status → Type 0
LeavesTrusted true before now s = LeavesMetadata before now s
LeavesTrusted false before now s = now ≡ before

-- the status where metadata isn't read
abbrev pub unread : Result TableMeta Status → Status
unread (Ok meta) = status.Ok
unread (Err s) = s

-- the statuses of metadata that is read or isn't
abbrev pub IsOfMetadata : Status → Type 0
IsOfMetadata status.Ok = Unit {0}
IsOfMetadata status.NoTable = Unit {0}
IsOfMetadata (status.BadMeta field) = Unit {0}
IsOfMetadata (status.Limit what number) = Unit {0}
IsOfMetadata status.StoreFault = Unit {0}
IsOfMetadata status.InputFault = Unit {0}
IsOfMetadata status.NoMemory = Unit {0}
IsOfMetadata s = ⊥
