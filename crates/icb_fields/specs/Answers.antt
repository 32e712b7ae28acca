-- What the code holds, and what its calls answer.
use Rattle.std.specs.Prelude.{◌≡◌, map, Result, Ok, Err, option_map, ℤ}
use Rattle.icb_schema.specs.Nodes.{fields_of, part_of, tree_of}
use Rattle.icb_fields.specs.Fields as field
use Rattle.icb_fields.specs.declared.record.Held.{Held}
use Rattle.icb_fields.specs.declared.record.Held.TheVariants as held
use Rattle.icb_fields.specs.declared.record.Record.{Record}
use Rattle.icb_fields.specs.declared.fault.BadField.{BadField}
use Rattle.icb_fields.specs.declared.fault.FieldFault.{FieldFault}
use Rattle.icb_fields.specs.declared.fault.FieldFault.TheVariants as fault

-- the record that the code holds
abbrev pub row : Record → field.Row
row r = record { fields = fields_of (map part_of r.fields.now); values = r.values.now }

-- what the code found
abbrev pub seen : Held → field.Held
seen held.Missing = field.missing
seen (held.Int n) = field.int n
seen (held.Long n) = field.long n
seen (held.Bytes content) = field.bytes (option_map (λ b. b.now) content)
seen (held.Text content) = field.text (option_map (λ t. t.now) content)
seen (held.Record r) = field.row (option_map row r)
seen (held.List t vs) = field.list (tree_of t.now) vs.now
seen held.Other = field.other

-- an answer, where a fault is its id
abbrev pub ids_of : {X : Type 0} → Result X BadField → Result X ℤ
ids_of (Ok x) = Ok x
ids_of (Err e) = Err e.id

-- a call answers what the definition has, or names its id
abbrev pub Finds : {X Y : Type 0} → (X → Y) → Result X BadField → Result Y ℤ → Type 0
Finds view (Ok x) definition = definition ≡ Ok (view x)
Finds view (Err e) definition = definition ≡ Err e.id

-- a call that may want memory answers what the definition has, or names its id
abbrev pub Makes : {X : Type 0} → Result X FieldFault → Result X ℤ → Type 0
Makes (Ok x) definition = definition ≡ Ok x
Makes (Err (fault.Field e)) definition = definition ≡ Err e.id
Makes (Err fault.NoMemory) definition = Unit {0}
