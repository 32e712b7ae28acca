-- What an append leaves of a store that stands for a table, by its answer (ours: docs/FORMATS.md,
-- "Files of an append").
use Rattle.std.specs.Prelude.{◌≡◌, ◌⊎◌, ◌+◌, ℕ, ℤ, List, ◌++◌, map, Result, Ok, Err}
use Rattle.std.specs.Prelude.{IfSome, IsSomeAnd}
use Rattle.icb_base.specs.Objects.{Grows, Objects}
use Rattle.icb_base.specs.declared.storage.Store as store
use Rattle.icb_chain.specs.Ring.{Ring}
use Rattle.icb_meta.specs.declared.fields.Fields.{Fields}
use Rattle.icb_rows.specs.Records.{row_from}
use Rattle.icb_table.specs.Standing.{Stands}
use Rattle.icb_table.specs.Table.{Table, rows_asked}
use Rattle.icb_turns.specs.Turns.{Change, IsMetaAfter, IsNew, adds_snapshot, table_after}
use Rattle.icb_turns.specs.declared.fault.JobFault.{JobFault}
use Rattle.icb_turns.specs.declared.fault.JobFault.TheVariants as fault
use Rattle.icb_types.specs.declared.datum.Datum.{Datum}
use Rattle.icb_append.specs.Lines.{rows_of_input}
use Rattle.icb_append.specs.declared.whole.Committed.{Committed}

-- the change of an append of these rows: a new snapshot has the rows of the current one and then
-- these
abbrev pub adds_rows : Table → Fields → ℤ → List (List Datum) → Change
adds_rows table was id rows = adds_snapshot id (rows_asked table was.state.current
    ++ map (row_from was.layout.schema.columns) rows)

-- The store stands for the table with one new snapshot, which is the current one and has the rows
-- of the one before it and then those of the lines; the version behind the last one has it.
pub record HasCommitted (ring : Ring) (lines : List ℕ) (was : Fields) (last : ℕ) (table : Table)
    (id : ℤ) (now : Objects) : Type 0 where
  pub rows : List (List Datum)
  pub are_rows : rows_of_input was.layout.schema.columns lines ≡ Ok rows
  pub is_new : IsNew table (adds_rows table was id rows)
  pub meta : Fields
  pub after : IsMetaAfter was (adds_rows table was id rows) meta
  pub stands : Stands now meta ring (table_after table (adds_rows table was id rows))
  pub is_next : stands.last ≡ last + 1

-- the store stands for the table as it was: with the same metadata and the same last version
pub record HasKept (ring : Ring) (was : Fields) (last : ℕ) (table : Table) (now : Objects)
    : Type 0 where
  pub stands : Stands now was ring table
  pub same : stands.last ≡ last

-- what is left by an answer: the table with the snapshot that is answered, and the version that is
-- answered is the next one; where the store failed perhaps so, and else the table as it was
abbrev pub LeavesTable : Ring → List ℕ → Fields → ℕ → Table → Result Committed JobFault → Objects
    → Type 0
LeavesTable ring lines was last table (Ok committed) now = (committed.version ≡ last + 1)
    × HasCommitted ring lines was last table committed.snapshot now
LeavesTable ring lines was last table (Err fault.Store) now = HasKept ring was last table now
    ⊎ ((id : ℤ) × HasCommitted ring lines was last table id now)
LeavesTable ring lines was last table (Err other) now = HasKept ring was last table now

-- so it is over a store that is told and stands for a table, which only grew
abbrev pub AppendKeepsTable : {S : Type 0} → store.Ghosts S → Ring → List ℕ
    → Result Committed JobFault → S → S → Type 0
AppendKeepsTable of ring lines answer before now = IfSome (of.held before) (λ files.
    (meta : Fields) (table : Table) → (stands : Stands files meta ring table)
    → IsSomeAnd (of.held now) (λ files_now. Grows files files_now
    × LeavesTable ring lines meta stands.last table answer files_now))
