-- Parts of texts that were written, drawn and read.
use Rattle.std.proofs.Common.{◌≡◌, ℕ, Bool, true, false, cond, List, [], ◌++◌, length, take, drop, map, Option, Some, refl, sym, ap, ◌∙◌, append-nil, ◌+◌}
use Rattle.std.proofs.Math.Seq.{take-add}
use Rattle.std.proofs.lemmas.List.{take-append-drop, take-map, drop-map}
use Rattle.icb_base.specs.Contents.{HasPart}
use Rattle.icb_base.specs.Transfers.{WroteFront}

-- a front of a piece was appended, or nothing
pub wrote_some : (b : Bool) (n : ℕ) (before piece now : List ℕ) → now ≡ cond b (before ++ take n piece) before
    → WroteFront (Some now) before piece
wrote_some true n before piece now is = record { front = take n piece; missing = drop n piece; whole = take-append-drop n piece; is = ap Some is }
wrote_some false n before piece now is = record { front = []; missing = piece; whole = refl; is = ap Some (is ∙ sym (append-nil before)) }

-- a part of bytes that are all known is a part of what is known
pub part_is_known : (bytes part : List ℕ) (at : ℕ) (known : List (Option ℕ)) → part ≡ take (length part) (drop at bytes)
    → known ≡ map Some bytes → HasPart known at part
part_is_known bytes part at known is all =
    ap (map Some) is ∙ sym (take-map Some (length part) (drop at bytes)) ∙ ap (take (length part)) (sym (drop-map Some at bytes))
    ∙ ap (λ k. take (length part) (drop at k)) (sym all)

-- the bytes drawn so far grow by the next ones
pub drawn_more : (bytes out : List ℕ) (place : ℕ) → out ≡ take (length out) (drop place bytes)
    → take (place + length out) bytes ≡ take place bytes ++ out
drawn_more bytes out place is = take-add place (length out) bytes ∙ ap (λ part. take place bytes ++ part) (sym is)
