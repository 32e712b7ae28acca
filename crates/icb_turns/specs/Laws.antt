-- The laws of turns. Each is the contract of a function of `src/laws.rt`.
use Rattle.std.specs.Prelude.{◌≡◌, ◌<◌, ◌^◌, ℕ, ℤ, suc, List, Some, None}
use Rattle.std.specs.FinMap as finite
use Rattle.std.specs.List.{Contains}
use Rattle.icb_base.specs.Objects.{Grows, Objects, object_at, with_object}
use Rattle.icb_chain.specs.Ring.{Ring}
use Rattle.icb_meta.specs.declared.fields.Fields.{Fields}
use Rattle.icb_rows.specs.Records.{Row}
use Rattle.icb_table.specs.Standing.{IsLast, Stands}
use Rattle.icb_table.specs.Table.{Table}
use Rattle.icb_tree.specs.Versions.{version_path}
use Rattle.icb_turns.specs.Turns.{Change, IsNew, IsTurn, IsVersionPath, PutsAtMostOne, keeps_rows}
use Rattle.icb_turns.specs.Turns.{table_after}

-- a store in which at most one object was put only grew
abbrev pub TurnsGrow : Type 0
TurnsGrow = (own : List (List ℕ)) (before now : Objects) → PutsAtMostOne own before now
    → Grows before now

-- it holds at each path at which none may be put what it held
abbrev pub TurnsLeaveOthers : Type 0
TurnsLeaveOthers = (own : List (List ℕ)) (before now : Objects) (path : List ℕ)
    → PutsAtMostOne own before now → (Contains own path → ⊥) → (IsVersionPath path → ⊥)
    → object_at now path ≡ object_at before path

-- behind each change a snapshot has the rows that it had
abbrev pub TurnsKeepRows : Type 0
TurnsKeepRows = (table : Table) (change : Change) (id : ℤ) (rows : List Row) → IsNew table change
    → finite.get table id ≡ Some rows → finite.get (table_after table change) id ≡ Some rows

-- a turn that puts nothing is one that changes nothing
abbrev pub RestIsTurn : Type 0
RestIsTurn = (own : List (List ℕ)) (ring : Ring) (files : Objects) (meta : Fields) (table : Table)
    → Stands files meta ring table → IsTurn own ring files meta files table keeps_rows

-- and so is one that puts a file of the job's own, which is no version
abbrev pub FilePutIsTurn : Type 0
FilePutIsTurn = (own : List (List ℕ)) (ring : Ring) (files : Objects) (meta : Fields)
    (table : Table) (path bytes : List ℕ) → Stands files meta ring table → Contains own path
    → (IsVersionPath path → ⊥) → object_at files path ≡ None
    → IsTurn own ring files meta (with_object files path bytes) table keeps_rows

-- a version that is put behind the last one is the last one
abbrev pub PutIsLast : Type 0
PutIsLast = (files : Objects) (last : ℕ) (bytes : List ℕ) → IsLast files last
    → suc last < 2 ^ 64 → IsLast (with_object files (version_path (suc last)) bytes) (suc last)
