-- Bytes that are a text.
use Rattle.std.proofs.Common.{◌≡◌, List, ℕ, length, Bool, true, false, Ok, Err, refl}
use Rattle.std.specs.Str.{is_utf8, IsUtf8}
use Rattle.std.proofs.lemmas.Str.{is_utf8-from_IsUtf8, IsUtf8-from_is_utf8}
use Rattle.icb_avro.specs.declared.fault.AvroCause.TheVariants as cause
use Rattle.icb_avro.specs.Reading.{bytes_at, text_at, text_of}

pub is_text : (all bytes rest : List ℕ) → bytes_at all ≡ Ok (bytes, rest) → IsUtf8 bytes → text_at all ≡ Ok (bytes, rest)
unfolding text_at
is_text all bytes rest e h = rw (e, is_utf8-from_IsUtf8 bytes h) refl

fault_cases : (all bytes rest : List ℕ) (b : Bool) → is_utf8 bytes ≡ b → (IsUtf8 bytes → ⊥) → text_of all (bytes, rest) ≡ Err (record { left = length all; cause = cause.Utf8 })
fault_cases all bytes rest true e h = absurd (h (IsUtf8-from_is_utf8 bytes e))
fault_cases all bytes rest false e h = rw e refl

pub no_text : (all bytes rest : List ℕ) → bytes_at all ≡ Ok (bytes, rest) → (IsUtf8 bytes → ⊥) → text_at all ≡ Err (record { left = length all; cause = cause.Utf8 })
unfolding text_at
no_text all bytes rest e h = rw e (fault_cases all bytes rest _ refl h)
