-- The records of a file as a reader gives them, one by one: what is left to read from where it
-- stands, and what a refusal of it says (ours).
use Rattle.std.specs.Prelude.{ℕ, suc, ◌-◌, ◌≤◌, ◌≡◌, ℤ, List, length, Ok}
use Rattle.std.specs.Prelude.{Result}
use Rattle.icb_schema.specs.Shape.{shape}
use Rattle.icb_avro.specs.declared.value.Value.{Value}
use Rattle.icb_avro.specs.Reading.{items_at, value_at}
use Rattle.icb_fields.specs.Fields as field
use Rattle.icb_reader.specs.Records.{Reading, Refusal}
use Rattle.icb_reader.specs.Records as refusal
use Rattle.icb_table.specs.Listed.{Listed}
use Rattle.icb_table.specs.Records.{blocks_from, record_in, records_in, values_to}
use Rattle.icb_table.specs.Trace.{Trace, each_in, then_read, through}
use Rattle.icb_table.specs.Why.{Why}
use Rattle.icb_table.specs.Why as why

-- why a file isn't read further, by the refusal of a reader of its records
abbrev pub why_of : Refusal → Why
why_of (refusal.container e) = why.no_container e
why_of (refusal.field place id) = why.bad_field place id

-- what is left to read: the rest of the block, and the blocks behind it
unfoldable pub rest_of : {A : Type 0} → (field.Row → Result A ℤ) → Listed → Reading → List ℕ
    → Trace (ℕ × A)
rest_of read file r bytes = then_read
    (each_in (record_in read file r.state.schema)
    (values_to r.end (shape r.state.schema) r.left r.rest))
    (through (records_in read file r.state.schema)
    (blocks_from file (suc (length bytes) - r.state.block) r.state bytes))

-- a reader stands where its steps lead: the rest of its block is decoded, it has passed fewer
-- blocks than bytes, and it stands in the file
pub record IsReached (r : Reading) (bytes : List ℕ) : Type 0 where
  pub values : List Value
  pub behind : List ℕ
  pub decoded : items_at (value_at (shape r.state.schema)) r.left r.rest ≡ Ok (values, behind)
  pub passed : r.state.block ≤ r.state.place
  pub within : r.state.place ≤ length bytes
