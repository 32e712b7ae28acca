-- What the reading of all rows of a manifest list answers.
use Rattle.std.specs.Prelude.{ℕ, ◌≡◌, ◌⊎◌, List, map, Option, Some, None, Vec, Result, Ok, Err}
use Rattle.std.specs.Prelude.{IfErr}
use Rattle.std.specs.declared.alloc.Global.{Global}
use Rattle.icb_base.specs.Objects.{Objects}
use Rattle.icb_base.specs.declared.storage.Store as store
use Rattle.icb_list.specs.Rows.{list_row}
use Rattle.icb_list.specs.declared.row.ListRow.{ListRow}
use Rattle.icb_table.specs.Contents.{read_plain}
use Rattle.icb_table.specs.Known.{Allows, shown_in}
use Rattle.icb_table.specs.Listed.{Listed}
use Rattle.icb_table.specs.Records.{records_of}
use Rattle.icb_table.specs.Snapshots.{Refused}
use Rattle.icb_table.specs.Trace.{Trace}
use Rattle.icb_table.specs.Why.{Why}
use Rattle.icb_walk.specs.Causes.{cause_of}
use Rattle.icb_walk.specs.Entries.{IsFileFault}
use Rattle.icb_walk.specs.Fits.{IsUnshown}
use Rattle.icb_walk.specs.Rows.{AsksAt}
use Rattle.icb_walk.specs.Start.{IsFirst}
use Rattle.icb_walk.specs.declared.fault.Cause.{Cause}
use Rattle.icb_walk.specs.declared.fault.TreeFault.{TreeFault}
use Rattle.icb_walk.specs.declared.fault.TreeFault.TheVariants as fault
use Rattle.icb_walk.specs.declared.trouble.Trouble.{Trouble}
use Rattle.icb_walk.specs.declared.trouble.Trouble.TheVariants as trouble

-- the rows that a list of this plaintext shows, with the place of each
abbrev pub rows_shown : Listed → Option (List ℕ) → Trace (ℕ × ListRow)
rows_shown f text = read_plain (records_of list_row) f text

-- a list is read to its end, and these are all its rows, in order
pub record AreAllRows (f : Listed) (text : Option (List ℕ)) (rows : List ListRow) : Type 0 where
  pub ends : (rows_shown f text).stop ≡ None
  pub all : rows ≡ map (λ row. row.1) (rows_shown f text).items

-- a list isn't read to its end, for the cause that is told: it isn't shown, or its reading stops
abbrev pub IsCutShort : Objects → Listed → Option (List ℕ) → Cause → Type 0
IsCutShort files f text c = IsUnshown files f c
    ⊎ ((e : Why) × ((rows_shown f text).stop ≡ Some (record { file = f; why = e }))
    × (cause_of e ≡ Some c))

-- what is answered inside the crate of a list that may have this plaintext
abbrev pub IsGathered : Objects → Listed → Option (List ℕ) → Result (Vec ListRow Global) Trouble
    → Type 0
IsGathered files f text (Ok rows) = AreAllRows f text rows.items
IsGathered files f text (Err (trouble.Cause c)) = IsCutShort files f text c
IsGathered files f text (Err trouble.Store) = Unit {0}
IsGathered files f text (Err trouble.NoMemory) = Unit {0}

-- so it is for each plaintext that a store's objects allow of it
abbrev pub Gathers : Objects → Listed → Result (Vec ListRow Global) Trouble → Type 0
Gathers files f result =
    (text : Option (List ℕ)) → Allows (shown_in files f) text → IsGathered files f text result

-- what is answered of a list that may have this plaintext
abbrev pub IsWholeList : Objects → Listed → Option (List ℕ) → Result (Vec ListRow Global) TreeFault
    → Type 0
IsWholeList files f text (Ok rows) = AreAllRows f text rows.items
IsWholeList files f text (Err (fault.At path c)) = (path ≡ f.path) × IsCutShort files f text c
IsWholeList files f text (Err fault.Store) = Unit {0}
IsWholeList files f text (Err fault.NoMemory) = Unit {0}
IsWholeList files f text (Err e) = ⊥

-- so it is for each plaintext that a store's objects allow of it
abbrev pub ReadsWhole : Objects → Listed → Result (Vec ListRow Global) TreeFault → Type 0
ReadsWhole files f result =
    (text : Option (List ℕ)) → Allows (shown_in files f) text → IsWholeList files f text result

-- where a snapshot has no list that can be read that is answered, and else nothing but what may
-- come of the reading of a file
abbrev pub FindsList : Result Listed Refused → Result (Vec ListRow Global) TreeFault → Type 0
FindsList (Ok f) result = IfErr result IsFileFault
FindsList (Err e) (Ok rows) = ⊥
FindsList (Err e) (Err found) = IsFirst {A = Listed} (Err e) found

-- the list of a snapshot is read, where there is one
abbrev pub ReadsList : Objects → Result Listed Refused → Result (Vec ListRow Global) TreeFault
    → Type 0
ReadsList files (Ok f) result = ReadsWhole files f result
ReadsList files (Err e) result = Unit {0}

-- only the list of a snapshot was asked for, and nothing where there is none
abbrev pub AsksList : {Self : Type 0} → store.Ghosts Self → Result Listed Refused → Self → Self
    → Type 0
AsksList of (Ok f) x y = AsksAt of f.path x y
AsksList of (Err e) x y = y ≡ x
