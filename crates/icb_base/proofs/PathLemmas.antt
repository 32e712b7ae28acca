-- An object path is a text of ASCII bytes.
use Rattle.std.proofs.Common.{◌≡◌, ℕ, ◌<◌, Bool, true, false, ◌&&◌, List, [], ◌∷◌, arith, refl}
use Rattle.std.specs.List.{list_all}
use Rattle.std.specs.Str.{IsAscii, IsUtf8}
use Rattle.std.proofs.lemmas.Str.{IsUtf8-from_ascii}
use Rattle.std.proofs.lemmas.Str.Ascii.{IsAscii-nil, IsAscii-cons}
use Rattle.std.proofs.lemmas.Bool.Decides.{nat_tests}
use Rattle.icb_base.specs.Paths.{is_object_path, is_path_byte}

-- a path byte is an ASCII byte
path_byte_below : (b : ℕ) → is_path_byte b ≡ true → b < 128
path_byte_below b h = grind (arith, nat_tests)

-- both sides of a true conjunction are true
both_true : (a b : Bool) → (a && b) ≡ true → (a ≡ true) × (b ≡ true)
both_true true b h = (refl, h)
both_true false b h = cc

-- a text of path bytes is ASCII
ascii : (text : List ℕ) → list_all is_path_byte text ≡ true → IsAscii text
ascii [] h = IsAscii-nil
ascii (b ∷ text) h =
    let both = both_true (is_path_byte b) (list_all is_path_byte text) h in
    IsAscii-cons b text (path_byte_below b both.0) (ascii text both.1)

-- an object path is UTF-8
pub path_utf8 : (text : List ℕ) → is_object_path text ≡ true → IsUtf8 text
path_utf8 text h =
    let front = both_true _ _ h in
    let bytes = both_true _ _ front.0 in
    IsUtf8-from_ascii text (ascii text bytes.1)
