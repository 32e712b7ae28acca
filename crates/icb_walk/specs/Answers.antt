-- What a walk's calls answer.
use Rattle.std.specs.Prelude.{ℕ, ◌≡◌, ◌≢◌, ◌⊎◌, List, [], Option, Some, None, Result, Ok, Err}
use Rattle.icb_base.specs.Objects.{Objects}
use Rattle.icb_base.specs.declared.storage.Store as store
use Rattle.icb_table.specs.Contents.{Plaintexts}
use Rattle.icb_table.specs.Listed.{Listed}
use Rattle.icb_table.specs.Rows.{Columns}
use Rattle.icb_table.specs.Trace.{one, stopped, then_read, whole}
use Rattle.icb_table.specs.Tree.{TreeFile, live_files}
use Rattle.icb_table.specs.Tree as tree
use Rattle.icb_table.specs.Why.{Why}
use Rattle.icb_walk.specs.Causes.{cause_of}
use Rattle.icb_walk.specs.Entries.{live_of}
use Rattle.icb_walk.specs.Fits.{IsUnshown}
use Rattle.icb_walk.specs.Walks.{AllowsNext, IsOpenManifest, Needs, left}
use Rattle.icb_walk.specs.declared.fault.Cause.{Cause}
use Rattle.icb_walk.specs.declared.fault.TreeFault.{TreeFault}
use Rattle.icb_walk.specs.declared.fault.TreeFault.TheVariants as fault
use Rattle.icb_walk.specs.declared.leaf.Leaf.{Leaf}
use Rattle.icb_walk.specs.declared.walk.Walk.{Walk}

-- a walk went over lists and manifests: these come first in what was left, and then what is left
-- now; and it needs no file that it didn't need before
pub record PassedOver (columns : Columns) (plain : Plaintexts) (old new : Walk) : Type 0 where
  pub passed : List TreeFile
  pub no_data : live_files passed ≡ []
  pub comes : left columns plain old ≡ then_read (whole passed) (left columns plain new)
  pub within : (f : Listed) → Needs columns plain new f → Needs columns plain old f

-- a walk gave a data file: lists and manifests come first in what was left, then that file, and
-- then what is left now; the manifest that it has open is one that it needed before
pub record GivesLeaf (columns : Columns) (plain : Plaintexts) (old new : Walk)
    (leaf : Leaf) : Type 0 where
  pub passed : List TreeFile
  pub no_data : live_files passed ≡ []
  pub comes : left columns plain old ≡ then_read (whole passed)
      (then_read (one (tree.data_file (live_of leaf))) (left columns plain new))
  pub within : (f : Listed) → IsOpenManifest f new.manifest → Needs columns plain old f

-- a walk ended: lists and manifests alone were left, and nothing stops there
pub record IsBehind (columns : Columns) (plain : Plaintexts) (old new : Walk) : Type 0 where
  pub passed : List TreeFile
  pub no_data : live_files passed ≡ []
  pub comes : left columns plain old ≡ whole passed
  pub ends : left columns plain new ≡ whole []

-- what is left stops behind lists and manifests, for the cause that is told of the file at a path
pub record StopsAt (columns : Columns) (plain : Plaintexts) (old : Walk) (path : List ℕ)
    (c : Cause) : Type 0 where
  pub passed : List TreeFile
  pub no_data : live_files passed ≡ []
  pub file : Listed
  pub why : Why
  pub stops : left columns plain old ≡ then_read (whole passed) (stopped file why)
  pub told : cause_of why ≡ Some c
  pub at : path ≡ file.path

-- a file that the walk needs isn't shown, for the cause that is told of its path
pub record UnshownAt (columns : Columns) (plain : Plaintexts) (files : Objects) (old : Walk)
    (path : List ℕ) (c : Cause) : Type 0 where
  pub file : Listed
  pub needed : Needs columns plain old file
  pub unshown : IsUnshown files file c
  pub at : path ≡ file.path

-- why a walk is refused
abbrev pub IsRefused : Columns → Plaintexts → Objects → Walk → TreeFault → Type 0
IsRefused columns plain files old (fault.At path c) =
    StopsAt columns plain old path c ⊎ UnshownAt columns plain files old path c
IsRefused columns plain files old fault.Store = Unit {0}
IsRefused columns plain files old fault.NoMemory = Unit {0}
IsRefused columns plain files old e = ⊥

-- the next data file, none at the end, or a refusal, before whose file the walk stands
abbrev pub IsAnswer : Columns → Plaintexts → Objects → Walk → Walk
    → Result (Option Leaf) TreeFault → Type 0
IsAnswer columns plain files old new (Ok (Some leaf)) = GivesLeaf columns plain old new leaf
IsAnswer columns plain files old new (Ok None) = IsBehind columns plain old new
IsAnswer columns plain files old new (Err e) =
    PassedOver columns plain old new × IsRefused columns plain files old e

-- only files that a walk needs were asked for
abbrev pub AsksNeeded : Columns → Plaintexts → Walk → (List ℕ → ℕ) → (List ℕ → ℕ) → Type 0
AsksNeeded columns plain old before now = (path : List ℕ)
    → ((f : Listed) → Needs columns plain old f → path ≢ f.path) → now path ≡ before path

-- what `next` answers, for each choice of plaintexts that is allowed of the files that it needs,
-- and which files it asks for
pub record AnswersFor {Self : Type 0} (of : store.Ghosts Self) (columns : Columns)
    (plain : Plaintexts) (files : Objects) (old new : Walk) (x y : Self)
    (result : Result (Option Leaf) TreeFault) : Type 0 where
  pub answer : IsAnswer columns plain files old new result
  pub asks : AsksNeeded columns plain old (of.asked x) (of.asked y)
  pub moves : AsksNeeded columns plain old (of.moved x) (of.moved y)

-- so it is for all of them
abbrev pub Answers : {Self : Type 0} → store.Ghosts Self → Objects → Walk → Walk → Self → Self
    → Result (Option Leaf) TreeFault → Type 0
Answers of files old new x y result = (columns : Columns) (plain : Plaintexts)
    → AllowsNext columns plain files old → AnswersFor of columns plain files old new x y result

-- what a step answers: it went over a row, an entry or a file, or found what is next
abbrev pub IsStep : Columns → Plaintexts → Objects → Walk → Walk
    → Result (Option (Option Leaf)) TreeFault → Type 0
IsStep columns plain files old new (Ok None) = PassedOver columns plain old new
IsStep columns plain files old new (Ok (Some found)) =
    IsAnswer columns plain files old new (Ok found)
IsStep columns plain files old new (Err e) = IsAnswer columns plain files old new (Err e)

-- the same of a step
pub record StepsFor {Self : Type 0} (of : store.Ghosts Self) (columns : Columns)
    (plain : Plaintexts) (files : Objects) (old new : Walk) (x y : Self)
    (result : Result (Option (Option Leaf)) TreeFault) : Type 0 where
  pub step : IsStep columns plain files old new result
  pub asks : AsksNeeded columns plain old (of.asked x) (of.asked y)
  pub moves : AsksNeeded columns plain old (of.moved x) (of.moved y)

-- so it is for all plaintexts that are allowed
abbrev pub StepsOn : {Self : Type 0} → store.Ghosts Self → Objects → Walk → Walk → Self → Self
    → Result (Option (Option Leaf)) TreeFault → Type 0
StepsOn of files old new x y result = (columns : Columns) (plain : Plaintexts)
    → AllowsNext columns plain files old → StepsFor of columns plain files old new x y result
