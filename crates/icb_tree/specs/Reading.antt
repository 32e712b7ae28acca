-- What the calls that look for a table's metadata answer, and what they do to the store.
use Rattle.std.specs.Prelude.{ℕ, ◌≡◌, List, Result, Ok, Err}
use Rattle.serde_json.specs.Data.{Data}
use Rattle.icb_base.specs.Causes.{Blames}
use Rattle.icb_base.specs.Objects.{Objects}
use Rattle.icb_base.specs.declared.storage.Store as store
use Rattle.icb_meta.specs.Answers.{json_of, shown_of}
use Rattle.icb_meta.specs.declared.fields.Fields.{Fields}
use Rattle.icb_meta.specs.declared.table.TableMeta.{TableMeta}
use Rattle.icb_tree.specs.Versions.{last_version}
use Rattle.icb_tree.specs.declared.fault.CurrentFault.{CurrentFault}
use Rattle.icb_tree.specs.declared.fault.CurrentFault.TheVariants as fault

-- a store was only read: it holds what it held, and its count rose where the reads ended with this
-- fault, and else stayed
pub record ReadsOnly {Self : Type 0} (of : store.Ghosts Self) (fault : Type 0)
    (before now : Self) : Type 0 where
  pub same : of.held now ≡ of.held before
  pub count : Blames fault (of.faults before) (of.faults now)
  pub kept : of.keeps before now

-- a call of the store failed, or memory was wanting
abbrev pub IsStopped : CurrentFault → Type 0
IsStopped fault.Store = Unit {0}
IsStopped fault.NoMemory = Unit {0}
IsStopped other = ⊥

-- a call answers what the objects give, seen so, unless it was stopped
abbrev pub Answers : {A B : Type 0} → (A → B) → Result B CurrentFault → Result A CurrentFault
    → Type 0
Answers view given (Ok x) = given ≡ Ok (view x)
Answers view given (Err fault.NoTable) = given ≡ Err fault.NoTable
Answers view given (Err (fault.Limit what number)) = given ≡ Err (fault.Limit what number)
Answers view given (Err (fault.BadMeta field)) = given ≡ Err (fault.BadMeta field)
Answers view given (Err fault.Store) = Unit {0}
Answers view given (Err fault.NoMemory) = Unit {0}

-- the value and the record of metadata
abbrev pub shown_meta : TableMeta → Data × Fields
shown_meta meta = (json_of meta, shown_of meta)

-- those of a version's metadata, and the version
abbrev pub shown_version : ℕ × TableMeta → ℕ × (Data × Fields)
shown_version current = (current.0, shown_meta current.1)
