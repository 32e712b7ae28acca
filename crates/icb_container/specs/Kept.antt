-- What the code keeps of a header's properties, and what its readers of properties answer.
use Rattle.std.specs.Prelude.{ℕ, ◌+◌, ◌≡◌, List, ◌++◌, codes, take, drop, Option, option_map}
use Rattle.std.specs.Prelude.{Result, Ok, Err, IfOk, OnOk, not, if◌then◌else◌}
use Rattle.std.specs.Str.{bytes_eq}
use Rattle.icb_schema.specs.Reading.{schema_of}
use Rattle.icb_schema.specs.Tree.{Tree}
use Rattle.icb_container.specs.declared.fault.ContainerFault.{ContainerFault}
use Rattle.icb_container.specs.declared.found.Found.{Found}
use Rattle.icb_container.specs.declared.found.PropertyValue.{PropertyValue}
use Rattle.icb_container.specs.Answers.{Gives, Refuses}
use Rattle.icb_container.specs.Header.{Property, Reads, magic, needed, number_at, plain}
use Rattle.icb_container.specs.Header.{property_of, row_schema, sized_at}
use Rattle.icb_container.specs.Wrong as wrong
use Rattle.icb_container.specs.Wrong.{Wrong, ◌>>=◌}
use Rattle.icb_container.specs.Known.{KnownFromTo}

-- a property's value, with its place
abbrev pub value_of : Property → PropertyValue
value_of p = record { bytes = p.value; place = p.place }

-- the last schema and the last codec of these properties are kept
pub record IsKept (found : Found) (ps : List Property) : Type 0 where
  pub schema : found.schema ≡ option_map value_of (property_of (codes "avro.schema") ps)
  pub codec : found.codec ≡ option_map value_of (property_of (codes "avro.codec") ps)

-- these properties were put behind those that were there
abbrev pub Adds : Found → Found → List Property → Type 0
Adds old new ps = (qs : List Property) → IsKept old qs → IsKept new (qs ++ ps)

-- the properties up to a place were put behind those that were there
abbrev pub Added : ℕ → Found → Found → List ℕ → Reads (List Property) → Type 0
Added place old new file read =
    (ps : List Property) × (read ≡ Ok (ps, drop place file)) × Adds old new ps

-- a call read properties up to a place and put them behind those that were there, or refused
abbrev pub AddsProperties : {F : Type 0} → Result ℕ (ContainerFault F) → Found → Found → List ℕ
    → Reads (List Property) → Type 0
AddsProperties (Ok place) old new file read = Added place old new file read
AddsProperties (Err e) old new file read = Refuses e read

-- Properties that begin at a place, up to the place behind them: each of their bytes is known.
pub record ReadsProperties {F : Type 0} (result : Result ℕ (ContainerFault F)) (old new : Found)
    (at : ℕ) (read : Reads (List Property)) (known : List (Option ℕ)) (file : List ℕ) : Type 0
  where
    pub adds : AddsProperties result old new file read
    pub there : IfOk result (λ place. KnownFromTo known at place)

-- a call read a map up to a place, and keeps of it what is to be kept, or refused
abbrev pub GivesMap : {F : Type 0} → Result (Found × ℕ) (ContainerFault F) → List ℕ
    → Reads (List Property) → Type 0
GivesMap (Ok x) file read =
    (ps : List Property) × (read ≡ Ok (ps, drop x.1 file)) × IsKept x.0 ps
GivesMap (Err e) file read = Refuses e read

-- The map of properties that begins at a place, up to the place behind it: what is kept of it, and
-- each of its bytes is known.
pub record ReadsMap {F : Type 0} (result : Result (Found × ℕ) (ContainerFault F)) (at : ℕ)
    (read : Reads (List Property)) (known : List (Option ℕ)) (file : List ℕ) : Type 0 where
  pub gives : GivesMap result file read
  pub there : IfOk result (λ x. KnownFromTo known at x.1)

-- The marker that stands at a place, each byte of which is known.
pub record ReadsMarker {F : Type 0} (result : Result (List ℕ) (ContainerFault F)) (at : ℕ)
    (read : Reads (List ℕ)) (known : List (Option ℕ)) (file : List ℕ) : Type 0 where
  pub gives : Gives (λ marker. (marker, drop (at + 16) file)) result read
  pub there : OnOk result (KnownFromTo known at (at + 16))

-- the properties of a block, whose size in bytes is said at `all`
abbrev pub sized_block : ℕ → ℕ → List ℕ → Reads (List Property)
sized_block end count all = number_at end all >>= sized_at end count all

-- the schema that properties say: it is there, the codec is `null`, and it is a record that takes a
-- byte
abbrev pub schema_said : List Property → Result Tree Wrong
schema_said ps = needed (property_of (codes "avro.schema") ps) >>= (λ text.
    plain (property_of (codes "avro.codec") ps) >>= (λ done. row_schema (schema_of text.value)))

-- the magic of a file
abbrev pub magic_checked : List ℕ → Result (Unit {0}) Wrong
magic_checked file = if not (bytes_eq (take 4 file) magic) then Err wrong.not_avro else Ok tt

-- The magic is there, and each byte of it is known.
pub record ChecksMagic {F : Type 0} (result : Result (Unit {0}) (ContainerFault F))
    (known : List (Option ℕ)) (file : List ℕ) : Type 0 where
  pub gives : Gives (λ done. done) result (magic_checked file)
  pub there : OnOk result (KnownFromTo known 0 4)
