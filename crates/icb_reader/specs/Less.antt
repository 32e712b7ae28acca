-- What answers of a reader of records say of a file.
use Rattle.std.specs.Prelude.{Option, Some, None, option_map, Result, Ok, Err}
use Rattle.icb_container.specs.Less.{wrong_of}
use Rattle.icb_reader.specs.declared.fault.RecordsFault.{RecordsFault}
use Rattle.icb_reader.specs.declared.fault.RecordsFault.TheVariants as fault
use Rattle.icb_reader.specs.declared.records.Records.{Records}
use Rattle.icb_reader.specs.Records.{Reading, Refusal, container, field}
use Rattle.icb_reader.specs.Answers.{reading_of}

-- what a fault says of the file: nothing where it is the reader's, or of memory
abbrev pub refusal_of : {F : Type 0} → RecordsFault F → Option Refusal
refusal_of (fault.Container e) = option_map container (wrong_of e)
refusal_of (fault.Field place id) = Some (field place id)
refusal_of fault.NoMemory = None

-- what an answer, seen by `view`, says of the file
abbrev pub said : {A B F : Type 0} → (A → B) → Result A (RecordsFault F)
    → Option (Result B Refusal)
said view (Ok x) = Some (Ok (view x))
said view (Err e) = option_map (λ r. Err r) (refusal_of e)

-- an answer, and where the records stand then
abbrev pub with_reading : {A : Type 0} → Records → A → A × Reading
with_reading r answer = (answer, reading_of r)
