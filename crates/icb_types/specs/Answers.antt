-- What a call answers beside its definition.
use Rattle.std.specs.Prelude.{◌≡◌, ℕ, pos, List, Result, Ok, Err}
use Rattle.icb_types.specs.declared.columns.Column.{Column}
use Rattle.icb_types.specs.declared.columns.TableSchema.{TableSchema}
use Rattle.icb_types.specs.declared.fault.WordsFault.{WordsFault}
use Rattle.icb_types.specs.declared.fault.WordsFault.TheVariants as words
use Rattle.icb_types.specs.declared.fault.RowFault.{RowFault}
use Rattle.icb_types.specs.declared.fault.RowFault.TheVariants as fault

-- the definition's value or its refusal, or want of memory
abbrev pub ReadsRow : {A B : Type 0} → (A → B) → Result A RowFault → Result B RowFault → Type 0
ReadsRow view (Ok a) r = r ≡ Ok (view a)
ReadsRow view (Err fault.NoMemory) r = Unit {0}
ReadsRow view (Err fault.NotJson) r = r ≡ Err fault.NotJson
ReadsRow view (Err fault.NotArray) r = r ≡ Err fault.NotArray
ReadsRow view (Err (fault.RowLength found)) r = r ≡ Err (fault.RowLength found)
ReadsRow view (Err (fault.BadValue column)) r = r ≡ Err (fault.BadValue column)

-- the schema with these columns and the number 0, the position of the refused column, or want
-- of memory
abbrev pub ReadsWords : Result TableSchema WordsFault → Result (List Column) ℕ → Type 0
ReadsWords (Ok schema) columns = (schema.id ≡ pos 0) × (columns ≡ Ok schema.columns)
ReadsWords (Err words.NoMemory) columns = Unit {0}
ReadsWords (Err (words.BadColumn position)) columns = columns ≡ Err position
