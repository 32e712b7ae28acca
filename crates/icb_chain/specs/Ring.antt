-- The keyring (ours, docs/FORMATS.md): a text of lines `id=hex`, each a key that a table may name
-- as its master.
use Rattle.std.specs.Prelude.{ℕ, suc, ◌+◌, Bool, ◌&&◌}
use Rattle.std.specs.Prelude.{◌||◌, ◌==◌, nat_lt, nat_le, if◌then◌else◌, List}
use Rattle.std.specs.Prelude.{[], ◌∷◌, ◌++◌, length, count_by, codes, bytes_eq, Option, Some, None}
use Rattle.std.specs.Prelude.{is_some, option_map, option_and_then, position}
use Rattle.std.specs.Prelude.{take, drop, Result, Ok, Err}
use Rattle.std.specs.List.{list_all, list_any, slice_split}
use Rattle.std.specs.Result.{result_ok}
use Rattle.hex.specs.Hex.{decode_of}
use Rattle.icb_base.specs.KeyMetadata.{is_key_length}
use Rattle.icb_chain.specs.declared.fault.KeyringFault.{KeyringFault}
use Rattle.icb_chain.specs.declared.fault.KeyringFault.TheVariants as fault

-- keys by their ids, which are distinct, in the order of the lines
abbrev pub Ring : Type 0
Ring = List (List ℕ × List ℕ)

-- the key of an id
abbrev pub key_named : List ℕ → Ring → Option (List ℕ)
key_named id [] = None
key_named id (pair ∷ ring) = if bytes_eq pair.0 id then Some pair.1 else key_named id ring

-- ---- one line

-- a letter, a digit or one of . _ : / -
abbrev pub is_id_byte : ℕ → Bool
is_id_byte b =
    (nat_le 65 b && nat_le b 90) || (nat_le 97 b && nat_le b 122) || (nat_le 48 b && nat_le b 57)
    || list_any (λ sign. b == sign) (codes "._:/-")

-- 1 to 200 such bytes
abbrev pub is_id : List ℕ → Bool
is_id id = (nat_lt 0 (length id) && nat_le (length id) 200) && list_all is_id_byte id

-- bytes that may be a key: 16, 24 or 32 of them
abbrev pub as_key : List ℕ → Option (List ℕ)
as_key bytes = if is_key_length (length bytes) then Some bytes else None

-- a key in hexadecimal digits of either case, two a byte (RFC 4648, 8)
abbrev pub key_of_digits : List ℕ → Option (List ℕ)
key_of_digits digits = option_and_then as_key (result_ok (decode_of digits))

-- an id, a byte and a key, where the byte is at this place
abbrev pub pair_around : List ℕ → ℕ → Option (List ℕ × List ℕ)
pair_around line place = if is_id (take place line)
    then option_map (λ key. (take place line, key)) (key_of_digits (drop (place + 1) line))
    else None

-- an id, `=` and a key
unfoldable pub pair_of_line : List ℕ → Option (List ℕ × List ℕ)
pair_of_line line = option_and_then (pair_around line) (position (λ b. b == 61) line)

-- ---- all lines

-- the lines: what stands between line feeds
abbrev pub lines_of : List ℕ → List (List ℕ)
lines_of text = slice_split (λ b. b == 10) text

-- a pair behind those of a ring, which have other ids
abbrev pub with_pair : Ring → List ℕ × List ℕ → Option Ring
with_pair ring pair =
    if is_some (key_named pair.0 ring) then None else Some (ring ++ pair ∷ [])

-- the ring behind a line: an empty one is passed over
abbrev pub with_line : Ring → List ℕ → Option Ring
with_line ring [] = Some ring
with_line ring (b ∷ line) = option_and_then (with_pair ring) (pair_of_line (b ∷ line))

-- what comes behind a line, or its number where it isn't in the form
abbrev pub behind_line : ℕ → (Ring → Result Ring ℕ) → Option Ring → Result Ring ℕ
behind_line number next None = Err number
behind_line number next (Some ring) = next ring

-- the ring behind lines, of which the first has this number; or the number of the first line that
-- isn't in the form
unfoldable pub ring_behind : ℕ → Ring → List (List ℕ) → Result Ring ℕ
ring_behind number ring [] = Ok ring
ring_behind number ring (line ∷ lines) =
    behind_line number (λ more. ring_behind (suc number) more lines) (with_line ring line)

-- how many lines aren't empty
abbrev pub filled_lines : List (List ℕ) → ℕ
filled_lines lines = count_by (λ line. nat_lt 0 (length line)) lines

-- the number of a line that is refused
abbrev pub refused_line : Result Ring ℕ → Result Ring KeyringFault
refused_line (Ok ring) = Ok ring
refused_line (Err number) = Err (fault.BadKeyring number)

-- the keyring of a text: at most 1,000 lines that aren't empty; lines are counted from 1
unfoldable pub ring_of : List ℕ → Result Ring KeyringFault
ring_of text = if nat_lt 1000 (filled_lines (lines_of text)) then Err fault.Many
    else refused_line (ring_behind 1 [] (lines_of text))
