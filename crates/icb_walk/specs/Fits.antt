-- When an open file, and a walk, belong to what a store holds.
use Rattle.std.specs.Prelude.{ℕ, ◌≡◌, ◌<◌, ◌⊎◌, List, length, Some, None, Ok, Err}
use Rattle.icb_base.specs.Objects.{Objects, object_at}
use Rattle.icb_reader.specs.Answers.{reading_of}
use Rattle.icb_reader.specs.declared.records.Records.{Records}
use Rattle.icb_stream.specs.Belongs.{StreamValue}
use Rattle.icb_stream.specs.Layout.{Layout, blocks, part_at, plain_length}
use Rattle.icb_stream.specs.Reading.{IsOpened}
use Rattle.icb_stream.specs.declared.fault.StreamFault.{StreamFault}
use Rattle.icb_stream.specs.declared.fault.StreamFault.TheVariants as stream
use Rattle.icb_table.specs.Contents.{opening_in, opening_key}
use Rattle.icb_table.specs.Listed.{Listed}
use Rattle.icb_table.specs.Steps.{IsReached}
use Rattle.icb_walk.specs.Causes.{stream_cause}
use Rattle.icb_walk.specs.declared.fault.Cause.{Cause}

-- an open file belongs to what a store holds: its stream was opened of the listed file, and its
-- reader stands where steps lead in any plaintext of that length
pub record FitsOpen (files : Objects) (f : Listed) (stream : StreamValue)
    (records : Records) : Type 0 where
  pub opened : IsOpened files f.path (opening_key f) f.recorded stream
  pub reached : (bytes : List ℕ) → length bytes ≡ plain_length stream.layout
      → IsReached (reading_of records) bytes

-- a block of an open listed file doesn't open
pub record IsGone (files : Objects) (f : Listed) (e : StreamFault) : Type 0 where
  pub object : List ℕ
  pub layout : Layout
  pub number : ℕ
  pub held : object_at files f.path ≡ Some object
  pub is_open : opening_in files f ≡ Ok layout
  pub within : number < blocks layout
  pub gone : part_at object layout number ≡ None
  pub is : e ≡ stream.Block number

-- a listed file isn't shown, and this cause is told: of the first refusal of its opening, or of a
-- block that doesn't open
pub record IsUnshown (files : Objects) (f : Listed) (c : Cause) : Type 0 where
  pub fault : StreamFault
  pub refused : (opening_in files f ≡ Err fault) ⊎ IsGone files f fault
  pub told : stream_cause fault ≡ Some c
