-- The parts of the bytes that were drawn are what was drawn.
use Rattle.std.proofs.Common.{◌≡◌, ◌∙◌, ◌+◌, ◌++◌, ℕ, List, length, take, drop, ap, sym, Ok}
use Rattle.std.proofs.lemmas.List.{drop-drop, take-append-drop}
use Rattle.icb_create.specs.Drawn.{IsWhole, drawn_bytes, parts_of}
use Rattle.icb_create.specs.declared.drawing.Drawn.{Drawn}

-- the parts one behind another are the bytes
pub bytes_back : (size : ℕ) (bytes : List ℕ) (drawn : Drawn) → drawn ≡ parts_of size bytes
    → drawn_bytes (Ok drawn) ≡ bytes
bytes_back size bytes drawn is =
    let rest : take size (drop 16 bytes) ++ drop (16 + size) bytes ≡ drop 16 bytes =
    ap (λ (xs : List ℕ). take size (drop 16 bytes) ++ xs) (sym (drop-drop size 16 bytes)) ∙ take-append-drop size (drop 16 bytes) in
    rw is (ap (λ (xs : List ℕ). take 16 bytes ++ xs) rest ∙ take-append-drop 16 bytes)

-- what was drawn is whole
pub whole_is : (size : ℕ) (bytes : List ℕ) (drawn : Drawn) → drawn ≡ parts_of size bytes
    → length bytes ≡ 28 + size → IsWhole size drawn
whole_is size bytes drawn is many =
    let back = bytes_back size bytes drawn is in
    record {
      whole = ap length back ∙ many;
      parts = ap (λ (xs : List ℕ). parts_of size xs) back ∙ sym is;
    }
