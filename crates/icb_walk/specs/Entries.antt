-- What a step over the entries of an open manifest answers.
use Rattle.std.specs.Prelude.{ℕ, ◌≡◌, List, [], Option, Some, None, option_map, Result, Ok, Err}
use Rattle.icb_base.specs.Objects.{Objects}
use Rattle.icb_manifest.specs.Entries.{entry_of}
use Rattle.icb_manifest.specs.declared.entry.Entry.{Entry}
use Rattle.icb_table.specs.Contents.{Plaintexts}
use Rattle.icb_table.specs.Known.{Allows, shown_in}
use Rattle.icb_table.specs.Listed.{Listed}
use Rattle.icb_table.specs.Trace.{Trace, one, then_read, through, whole}
use Rattle.icb_table.specs.Tree.{LiveFile, TreeFile, below_entry}
use Rattle.icb_table.specs.Tree as tree
use Rattle.icb_walk.specs.Fits.{FitsOpen}
use Rattle.icb_walk.specs.Judged.{listing}
use Rattle.icb_walk.specs.Steps.{Refuses, records_left}
use Rattle.icb_walk.specs.declared.fault.TreeFault.{TreeFault}
use Rattle.icb_walk.specs.declared.fault.TreeFault.TheVariants as fault
use Rattle.icb_walk.specs.declared.leaf.Leaf.{Leaf}
use Rattle.icb_walk.specs.declared.open_manifest.Found.{Found}
use Rattle.icb_walk.specs.declared.open_manifest.Found.TheVariants as found
use Rattle.icb_walk.specs.declared.open_manifest.OpenManifest.{OpenManifest}
use Rattle.icb_walk.specs.declared.open_manifest.PlacedEntry.{PlacedEntry}

-- ---- what is left

-- an item that was read and not passed yet comes first
abbrev pub waiting : {A : Type 0} → Option A → Trace A
waiting None = whole []
waiting (Some x) = one x

-- an entry with its place
abbrev pub placed_entry : PlacedEntry → ℕ × Entry
placed_entry e = (e.place, e.entry)

-- the entries of an open manifest that weren't passed yet
abbrev pub entries_left : Plaintexts → OpenManifest → Trace (ℕ × Entry)
entries_left plain m = then_read (waiting (option_map placed_entry m.entry))
    (records_left entry_of plain (listing m.file) m.reader.records)

-- the data files that they name
unfoldable pub manifest_left : List ℕ → Plaintexts → OpenManifest → Trace TreeFile
manifest_left location plain m =
    through (below_entry location (listing m.file) m.row) (entries_left plain m)

-- the live data file that a leaf is
abbrev pub live_of : Leaf → LiveFile
live_of leaf = record {
  listed = listing (record { path = leaf.path; key = leaf.key; length = leaf.length });
  file = leaf.file;
  row = leaf.row;
}

-- ---- what is answered

-- a refusal that a file of a tree isn't read further; or the store failed, or no memory was left
abbrev pub IsFileFault : TreeFault → Type 0
IsFileFault (fault.At path c) = Unit {0}
IsFileFault fault.Store = Unit {0}
IsFileFault fault.NoMemory = Unit {0}
IsFileFault e = ⊥

-- a refusal of a listed file, of which this is left
abbrev pub RefusesAt : {A : Type 0} → Objects → Listed → Trace A → TreeFault → Type 0
RefusesAt files f left (fault.At path c) = (path ≡ f.path) × Refuses files f c left
RefusesAt files f left fault.Store = Unit {0}
RefusesAt files f left fault.NoMemory = Unit {0}
RefusesAt files f left e = ⊥

-- the open manifest belongs to what a store holds
abbrev pub FitsEntries : Objects → OpenManifest → Type 0
FitsEntries files m = FitsOpen files (listing m.file) m.reader.stream m.reader.records

-- what a step leaves of the open manifest
abbrev pub LeavesEntries : List ℕ → Objects → Plaintexts → OpenManifest → OpenManifest
    → Result Found TreeFault → Type 0
LeavesEntries location files plain old new (Ok found.More) =
    manifest_left location plain old ≡ manifest_left location plain new
LeavesEntries location files plain old new (Ok found.End) =
    manifest_left location plain old ≡ whole []
LeavesEntries location files plain old new (Ok (found.File leaf)) =
    manifest_left location plain old
    ≡ then_read (one (tree.data_file (live_of leaf))) (manifest_left location plain new)
LeavesEntries location files plain old new (Err e) =
    (manifest_left location plain old ≡ manifest_left location plain new)
    × RefusesAt files (listing old.file) (manifest_left location plain old) e

-- it still fits, but at its end
abbrev pub FitsEntriesBehind : Objects → OpenManifest → Result Found TreeFault → Type 0
FitsEntriesBehind files new (Ok found.End) = Unit {0}
FitsEntriesBehind files new (Ok found.More) = FitsEntries files new
FitsEntriesBehind files new (Ok (found.File leaf)) = FitsEntries files new
FitsEntriesBehind files new (Err e) = FitsEntries files new

-- a step over the entries of an open manifest
pub record StepsIn (files : Objects) (location : List ℕ) (old new : OpenManifest)
    (result : Result Found TreeFault) : Type 0 where
  pub fits : FitsEntriesBehind files new result
  pub leaves : (plain : Plaintexts) → Allows (shown_in files (listing old.file))
      (plain (listing old.file)) → LeavesEntries location files plain old new result
