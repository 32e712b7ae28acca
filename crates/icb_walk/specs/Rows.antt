-- What the steps over the rows of an open list answer.
use Rattle.std.specs.Prelude.{ℕ, ◌≡◌, ◌⊎◌, List, [], Bool, true, false, Option, Some, None}
use Rattle.std.specs.Prelude.{option_map, Result, Ok, Err}
use Rattle.icb_base.specs.Objects.{Objects}
use Rattle.icb_base.specs.declared.storage.Store as store
use Rattle.icb_list.specs.Rows.{list_row}
use Rattle.icb_list.specs.declared.row.ListRow.{ListRow}
use Rattle.icb_manifest.specs.Entries.{entry_of}
use Rattle.icb_stream.specs.Attached.{CountsAt}
use Rattle.icb_table.specs.Contents.{Plaintexts, contents_of, read_plain}
use Rattle.icb_table.specs.Known.{Allows, shown_in}
use Rattle.icb_table.specs.Listed.{Listed}
use Rattle.icb_table.specs.Records.{records_of}
use Rattle.icb_table.specs.Rows.{Columns}
use Rattle.icb_table.specs.Trace.{Trace, numbered_from, one, stopped, then_read, through, whole}
use Rattle.icb_table.specs.Tree.{TreeFile, below_row, tree_below}
use Rattle.icb_table.specs.Tree as tree
use Rattle.icb_table.specs.Why.{Why}
use Rattle.icb_walk.specs.Causes.{cause_of}
use Rattle.icb_walk.specs.Entries.{FitsEntries, RefusesAt, manifest_left, waiting}
use Rattle.icb_walk.specs.Fits.{FitsOpen}
use Rattle.icb_walk.specs.Judged.{listing}
use Rattle.icb_walk.specs.Steps.{Refuses, records_left}
use Rattle.icb_walk.specs.declared.fault.Cause.{Cause}
use Rattle.icb_walk.specs.declared.fault.TreeFault.{TreeFault}
use Rattle.icb_walk.specs.declared.fault.TreeFault.TheVariants as fault
use Rattle.icb_walk.specs.declared.listing.Listing.{Listing}
use Rattle.icb_walk.specs.declared.open_list.OpenList.{OpenList}
use Rattle.icb_walk.specs.declared.open_list.PlacedRow.{PlacedRow}
use Rattle.icb_walk.specs.declared.open_manifest.OpenManifest.{OpenManifest}

-- ---- what is left

-- a row with its position and its place
abbrev pub placed_row : PlacedRow → ℕ × (ℕ × ListRow)
placed_row r = (r.number, (r.place, r.row))

-- what is read, with positions from this one on
abbrev pub numbered_at : {A : Type 0} → ℕ → Trace A → Trace (ℕ × A)
numbered_at n read = record { items = numbered_from n read.items; stop = read.stop }

-- the rows of an open list that weren't passed yet
abbrev pub rows_left : Plaintexts → Listed → OpenList → Trace (ℕ × (ℕ × ListRow))
rows_left plain f l = then_read (waiting (option_map placed_row l.row))
    (numbered_at l.count (records_left list_row plain f l.reader.records))

-- the files below them
unfoldable pub list_left : Columns → Plaintexts → List ℕ → Listed → OpenList → Trace TreeFile
list_left columns plain location f l =
    through (below_row location (contents_of columns plain) f) (rows_left plain f l)

-- ---- opening

-- the open list belongs to what a store holds
abbrev pub FitsRows : Objects → Listing → OpenList → Type 0
FitsRows files file l = FitsOpen files (listing file) l.reader.stream l.reader.records

-- a list is open, and the files below it are left
pub record BeginsList (files : Objects) (file : Listing) (l : OpenList) : Type 0 where
  pub fits : FitsRows files file l
  pub left : (columns : Columns) (plain : Plaintexts) (location : List ℕ)
      → Allows (shown_in files (listing file)) (plain (listing file))
      → tree_below location (contents_of columns plain) (listing file)
      ≡ then_read (one (tree.list (listing file)))
      (list_left columns plain location (listing file) l)

-- a list isn't opened
abbrev pub OpensList : Objects → Listing → Result OpenList TreeFault → Type 0
OpensList files file (Ok l) = BeginsList files file l
OpensList files file (Err e) = (plain : Plaintexts)
    → Allows (shown_in files (listing file)) (plain (listing file))
    → RefusesAt files (listing file) (read_plain (records_of list_row) (listing file)
    (plain (listing file))) e

-- a manifest is open, and its data files are left
pub record BeginsManifest (files : Objects) (file : Listing) (row : ℕ) (m : OpenManifest)
    : Type 0 where
  pub same_file : m.file ≡ file
  pub same_row : m.row ≡ row
  pub none : m.entry ≡ None
  pub fits : FitsEntries files m
  pub left : (plain : Plaintexts) → Allows (shown_in files (listing file)) (plain (listing file))
      → read_plain (records_of entry_of) (listing file) (plain (listing file))
      ≡ records_left entry_of plain (listing file) m.reader.records

-- a refusal says of the file at this path that it isn't read further, or of none
abbrev pub IsOf : List ℕ → TreeFault → Type 0
IsOf path (fault.At other c) = other ≡ path
IsOf path e = Unit {0}

-- a manifest is opened
abbrev pub OpensManifest : Objects → Listing → ℕ → Result OpenManifest TreeFault → Type 0
OpensManifest files file row (Ok m) = BeginsManifest files file row m
OpensManifest files file row (Err e) = IsOf file.path e × ((plain : Plaintexts)
    → Allows (shown_in files (listing file)) (plain (listing file))
    → RefusesAt files (listing file) (read_plain (records_of entry_of) (listing file)
    (plain (listing file))) e)

-- ---- the next row

-- what the next row leaves
abbrev pub LeavesRows : Objects → Plaintexts → Listed → OpenList → OpenList → Result Bool TreeFault
    → Type 0
LeavesRows files plain f old new (Ok true) = rows_left plain f old ≡ rows_left plain f new
LeavesRows files plain f old new (Ok false) = rows_left plain f old ≡ whole []
LeavesRows files plain f old new (Err e) = (rows_left plain f old ≡ rows_left plain f new)
    × RefusesAt files f (rows_left plain f old) e

-- the list still fits, but at its end
abbrev pub FitsRowsBehind : Objects → Listing → OpenList → Result Bool TreeFault → Type 0
FitsRowsBehind files file new (Ok true) = FitsRows files file new
FitsRowsBehind files file new (Ok false) = Unit {0}
FitsRowsBehind files file new (Err e) = FitsRows files file new

-- the next row of a list is read
pub record ReadsRow (files : Objects) (file : Listing) (old new : OpenList)
    (result : Result Bool TreeFault) : Type 0 where
  pub fits : FitsRowsBehind files file new result
  pub leaves : (plain : Plaintexts) → Allows (shown_in files (listing file)) (plain (listing file))
      → LeavesRows files plain (listing file) old new result

-- ---- a row that is entered

-- this manifest comes first in what is left of a list
abbrev pub ComesFirst : Columns → Plaintexts → List ℕ → Listed → OpenList → Listed → Type 0
ComesFirst columns plain location f l g = (rest : Trace TreeFile)
    × (list_left columns plain location f l ≡ then_read (one (tree.manifest g)) rest)

-- and it isn't read further
abbrev pub RefusesFirst : Columns → Plaintexts → Objects → List ℕ → Listed → OpenList → Listed
    → Cause → Type 0
RefusesFirst columns plain files location f l g c = (rest : Trace TreeFile)
    × (list_left columns plain location f l ≡ then_read (one (tree.manifest g)) rest)
    × (Allows (shown_in files g) (plain g) → Refuses files g c rest)

-- the manifest of a row is opened: it comes first, and then its data files, and what is left of the
-- list
pub record EntersManifest (files : Objects) (location : List ℕ) (file : Listing)
    (old new : OpenList) (m : OpenManifest) : Type 0 where
  pub fits : FitsEntries files m
  pub comes : (columns : Columns) (plain : Plaintexts) → ComesFirst columns plain location
      (listing file) old (listing m.file)
  pub leaves : (columns : Columns) (plain : Plaintexts)
      → Allows (shown_in files (listing m.file)) (plain (listing m.file))
      → list_left columns plain location (listing file) old
      ≡ then_read (one (tree.manifest (listing m.file)))
      (then_read (manifest_left location plain m)
      (list_left columns plain location (listing file) new))

-- the row is refused by a test: what is left of the list stops there
abbrev pub StopsRow : List ℕ → Listing → OpenList → List ℕ → Cause → Type 0
StopsRow location file l path c = (path ≡ file.path) × ((e : Why) × (cause_of e ≡ Some c)
    × ((columns : Columns) (plain : Plaintexts)
    → list_left columns plain location (listing file) l ≡ stopped (listing file) e))

-- the manifest of the row comes first, and isn't opened
pub record StopsManifest (files : Objects) (location : List ℕ) (file : Listing) (l : OpenList)
    (path : List ℕ) (c : Cause) : Type 0 where
  pub manifest : Listed
  pub at : path ≡ manifest.path
  pub refuses : (columns : Columns) (plain : Plaintexts)
      → RefusesFirst columns plain files location (listing file) l manifest c

-- the row is refused
abbrev pub RefusesRow : Objects → List ℕ → Listing → OpenList → TreeFault → Type 0
RefusesRow files location file l (fault.At path c) =
    StopsRow location file l path c ⊎ StopsManifest files location file l path c
RefusesRow files location file l fault.Store = Unit {0}
RefusesRow files location file l fault.NoMemory = Unit {0}
RefusesRow files location file l e = ⊥

-- what is left stays
abbrev pub SameRows : List ℕ → Listing → OpenList → OpenList → Type 0
SameRows location file old new = (columns : Columns) (plain : Plaintexts)
    → list_left columns plain location (listing file) old
    ≡ list_left columns plain location (listing file) new

-- what is answered of a row
abbrev pub Entered : Objects → List ℕ → Listing → OpenList → OpenList
    → Result (Option OpenManifest) TreeFault → Type 0
Entered files location file old new (Ok None) = SameRows location file old new
Entered files location file old new (Ok (Some m)) =
    EntersManifest files location file old new m
Entered files location file old new (Err e) =
    SameRows location file old new × RefusesRow files location file old e

-- only this path was asked for
pub record AsksAt {Self : Type 0} (of : store.Ghosts Self) (path : List ℕ)
    (x y : Self) : Type 0 where
  pub asks : CountsAt path (of.asked x) (of.asked y)
  pub moves : CountsAt path (of.moved x) (of.moved y)

-- nothing was asked, or only for the manifest that comes first
abbrev pub AsksRow : {Self : Type 0} → store.Ghosts Self → List ℕ → Listing → OpenList → Self
    → Self → Type 0
AsksRow of location file l x y = (y ≡ x) ⊎ ((g : Listed) × ((columns : Columns) (plain : Plaintexts)
    → ComesFirst columns plain location (listing file) l g) × AsksAt of g.path x y)

-- the row that was read is passed
pub record EntersRow {Self : Type 0} (of : store.Ghosts Self) (files : Objects)
    (location : List ℕ) (file : Listing) (old new : OpenList) (x y : Self)
    (result : Result (Option OpenManifest) TreeFault) : Type 0 where
  pub fits : FitsRows files file new
  pub asks : AsksRow of location file old x y
  pub answers : Entered files location file old new result
