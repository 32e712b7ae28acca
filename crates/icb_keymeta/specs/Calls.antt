-- What the calls answer.
use Rattle.std.specs.Prelude.{◌≡◌, ◌≤◌, ℕ, option_map, List, length, Result, Ok, Err}
use Rattle.std.specs.Borrow.{Bor}
use Rattle.icb_base.specs.KeyMetadata.{KeyRecord, IsKeyRecord}
use Rattle.icb_keymeta.specs.declared.decoding.Parts.{Parts}
use Rattle.icb_keymeta.specs.declared.fault.DecodeFault.{DecodeFault}
use Rattle.icb_keymeta.specs.declared.fault.DecodeFault.TheVariants as fault

-- a call answers what the bytes are, where no memory was wanting
abbrev pub Decodes : Result KeyRecord DecodeFault → Result KeyRecord ℕ → Type 0
Decodes (Ok meta) read = read ≡ Ok meta
Decodes (Err (fault.BadKeyMeta place)) read = read ≡ Err place
Decodes (Err fault.NoMemory) read = Unit {0}

-- what a call answered, seen by `view`, is what reading gives
abbrev pub Gives : {X Y : Type 0} → (X → Y) → Result X ℕ → Result Y ℕ → Type 0
Gives view (Ok x) read = read ≡ Ok (view x)
Gives view (Err e) read = read ≡ Err e

-- what the parts say
abbrev pub record_of : Parts → KeyRecord
record_of parts = record {
  key = parts.key.now;
  prefix = option_map (λ bytes. bytes.now) parts.prefix;
  length_told = parts.length;
}

-- the key is an AES key, and the length below 2^63
abbrev pub IsForm : Parts → Type 0
IsForm parts = IsKeyRecord parts.key.now parts.length

-- what is behind an item, or what is left from a refused one on, is no longer than all of it
abbrev pub IsWithin : {X : Type 0} → Result (X × Bor (List ℕ)) ℕ → List ℕ → Type 0
IsWithin (Ok x) all = length x.1.now ≤ length all
IsWithin (Err left) all = left ≤ length all
