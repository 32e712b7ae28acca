-- Why bytes are no container, and how a part of a file is judged by its place in the file.
use Rattle.std.specs.Prelude.{ℕ, ◌-◌, List, length, Result, Ok, Err}
use Rattle.icb_base.specs.declared.limits.Limited.{Limited}
use Rattle.icb_schema.specs.declared.fault.SchemaFault.{SchemaFault}
use Rattle.icb_avro.specs.declared.fault.AvroCause.{AvroCause}
use Rattle.icb_avro.specs.declared.fault.Refusal.{Refusal}

-- The first fault of a file. Places count from the first byte of the file, blocks from 0.
pub data Wrong : Type 0 where
  -- the magic or the schema isn't there
  not_avro : Wrong
  -- the item at this place is refused
  avro : ℕ → AvroCause → Wrong
  -- the item at this place, of so many bytes, goes beyond a limit
  large : Limited → ℕ → ℕ → Wrong
  -- the codec is this one, and not `null`
  codec : List ℕ → Wrong
  -- the schema is refused
  schema : SchemaFault → Wrong
  -- the marker behind the block of this number isn't the header's
  sync : ℕ → Wrong

infixl 10 ◌>>=◌
-- what comes next, where nothing is wrong
abbrev pub ◌>>=◌ : {A B : Type 0} → Result A Wrong → (A → Result B Wrong) → Result B Wrong
(Ok x) >>= f = f x
(Err e) >>= f = Err e

-- In a file of `end` bytes, the item that begins where `all` does is refused.
abbrev pub refuse : {A : Type 0} → ℕ → List ℕ → AvroCause → Result A Wrong
refuse end all cause = Err (avro (end - length all) cause)

-- what Avro reads, where bytes up to the place `end` are read
abbrev pub in_file : {A : Type 0} → ℕ → Result A Refusal → Result A Wrong
in_file end (Ok x) = Ok x
in_file end (Err r) = Err (avro (end - r.left) r.cause)
