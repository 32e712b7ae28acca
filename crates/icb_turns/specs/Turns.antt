-- What one turn of a job may do to a store and to the table for which it stands (ours).
use Rattle.std.specs.Prelude.{◌≡◌, ◌⊎◌, ℕ, ℤ, List, Option, Some, None}
use Rattle.std.specs.FinMap as finite
use Rattle.std.specs.List.{Contains}
use Rattle.icb_base.specs.Objects.{Objects, object_at, with_object}
use Rattle.icb_chain.specs.Ring.{Ring}
use Rattle.icb_meta.specs.declared.fields.Fields.{Fields}
use Rattle.icb_rows.specs.Records.{Row}
use Rattle.icb_table.specs.Listed.{Listed}
use Rattle.icb_table.specs.Standing.{Stands}
use Rattle.icb_table.specs.Table.{IsInTable, Table}
use Rattle.icb_tree.specs.Versions.{version_path}

-- what a commit does to the rows of a table
pub data Change : Type 0 where
  -- each snapshot has the rows that it had
  keeps_rows : Change
  -- a new snapshot has these rows, and each other one those that it had
  adds_snapshot : ℤ → List Row → Change

-- the table behind a change
abbrev pub table_after : Table → Change → Table
table_after table keeps_rows = table
table_after table (adds_snapshot id rows) = finite.insert table id rows

-- a snapshot that is added is none of the table's
abbrev pub IsNew : Table → Change → Type 0
IsNew table keeps_rows = Unit {0}
IsNew table (adds_snapshot id rows) = finite.get table id ≡ None

-- the current snapshot behind a change: one that is added
abbrev pub current_after : Option ℤ → Change → Option ℤ
current_after current keeps_rows = current
current_after current (adds_snapshot id rows) = Some id

-- metadata behind a change: the table's place and the layout of its rows stay, and a snapshot that
-- is added is the current one
pub record IsMetaAfter (was : Fields) (change : Change) (meta : Fields) : Type 0 where
  pub location : meta.heading.location ≡ was.heading.location
  pub layout : meta.layout ≡ was.layout
  pub current : meta.state.current ≡ current_after was.state.current change

-- the path is a version's
abbrev pub IsVersionPath : List ℕ → Type 0
IsVersionPath path = (n : ℕ) × (path ≡ version_path n)

-- an object was put where none was held, at one of these paths or at a version's
pub record PutsOne (own : List (List ℕ)) (before now : Objects) : Type 0 where
  pub path : List ℕ
  pub bytes : List ℕ
  pub may_be : Contains own path ⊎ IsVersionPath path
  pub free : object_at before path ≡ None
  pub put : now ≡ with_object before path bytes

-- at most one object was put, at one of these paths or at a version's
abbrev pub PutsAtMostOne : List (List ℕ) → Objects → Objects → Type 0
PutsAtMostOne own before now = (now ≡ before) ⊎ PutsOne own before now

-- each file that the trees of a table list was listed before, or lies at one of these paths
abbrev pub ListsNoOther : List (List ℕ) → Ring → Objects → Fields → Objects → Fields → Type 0
ListsNoOther own ring before was now meta = (f : Listed) → IsInTable now meta ring f
    → IsInTable before was ring f ⊎ Contains own f.path

-- A turn over a store that stands for a table: it puts at most one object, a version or one at a
-- path of the job's own, and the store stands for the table behind the turn's change, in whose
-- trees no other files come to be listed than those of the job.
pub record IsTurn (own : List (List ℕ)) (ring : Ring) (before : Objects) (was : Fields)
    (now : Objects) (table : Table) (change : Change) : Type 0 where
  pub puts : PutsAtMostOne own before now
  pub is_new : IsNew table change
  pub meta : Fields
  pub after : IsMetaAfter was change meta
  pub lists : ListsNoOther own ring before was now meta
  pub stands : Stands now meta ring (table_after table change)
