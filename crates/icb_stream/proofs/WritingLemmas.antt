-- A stream is written block by block, each block into its place.
use Rattle.std.proofs.Common.{◌≡◌, ℕ, ◌+◌, ◌-◌, ◌*◌, ◌^◌, ◌<◌, ◌≤◌, ◌⊎◌, inl, inr, min, List, [], ◌++◌, length, take, drop, Option, Some, refl, ap, sym, ◌∙◌, add-one, arith, length-take, length-drop, length-append}
use Rattle.std.specs.Prelude.{unwrap_or}
use Rattle.std.specs.List.{flat_map, range_with_len}
use Rattle.std.specs.Option.{option_map}
use Rattle.std.proofs.Math.Nat.{mul-le-mul_right, zero-mul}
use Rattle.std.proofs.lemmas.Bool.{cases_lt}
use Rattle.std.proofs.lemmas.List.{append-nil, drop_all, take_all, take_at, take_rest}
use Rattle.std.proofs.lemmas.Option.{same_Some}
use Rattle.std.proofs.lemmas.Slice.{take-put_mid}
use Rattle.icb_seal.specs.Block.{sealed_block}
use Rattle.icb_seal.specs.Keys.{SealerValue}
use Rattle.icb_stream.specs.Sealing.{IsSealedUpTo, sealed_count, header, piece_of, sealed_blocks, stream_bytes}
use Rattle.icb_stream.proofs.ContentLemmas.{flat_map_more_range}
use Rattle.icb_stream.proofs.SealedCutLemmas.{IsCounted, last_begins}
use Rattle.icb_stream.proofs.SealingLemmas.{block_of, sealed_blocks_are}
use borrow.Rule.Slice.PartMut.{put_mid}

-- where piece i lies in P bytes of plaintext, and block i in n blocks
pub record IsPlace (B P n i from to start end : ℕ) : Type 0 where
  pub from_to : from ≤ to
  pub to_in : to ≤ P
  pub starts : start ≡ i * (B + 28)
  pub size : end ≡ start + (to - from + 28)
  pub end_in : end ≤ P + 28 * n
  pub reaches : (end ≡ (i + 1) * (B + 28)) ⊎ ((end ≡ P + 28 * n) × (end ≤ (i + 1) * (B + 28)))

-- so they are computed
pub place_facts : (B P n i from to start end : ℕ) → IsCounted B P n → i < n
    → from ≡ i * B → to ≡ min P (from + B) → start ≡ from + 28 * i → end ≡ to + 28 * (i + 1)
    → IsPlace B P n i from to start end
place_facts B P n i from to start end h lt f t s e =
    let last = last_begins B P n h in
    let le : i * B ≤ (n - 1) * B = mul-le-mul_right B (omega (arith, lt)) in
    let product : i * (B + 28) ≡ i * B + 28 * i = grind arith in
    let next : (i + 1) * (B + 28) ≡ i * B + B + 28 * (i + 1) = grind arith in
    record {
      from_to = omega (arith, f, t, last, le);
      to_in = omega (arith, t);
      starts = omega (arith, s, f, product);
      size = omega (arith, e, s, f, t, last, le);
      end_in = omega (arith, e, t, lt);
      reaches = elim (cases_lt (i + 1) n) [
        | inl less ↦ inl (let more : (i + 1) * B ≤ (n - 1) * B = mul-le-mul_right B (omega (arith, less)) in
            omega (arith, e, t, f, next, more, last))
        | inr more ↦ (let same : i + 1 ≡ n = omega (arith, lt, more) in
            let whole : P ≤ (i + 1) * B = rw same h.reaches in
            let to_is : to ≡ P = omega (arith, t, f, whole) in
            inr (omega (arith, e, to_is, same), omega (arith, e, t, f, next)))
      ];
    }

-- the bytes at that place are the piece
piece_between : (plain : List ℕ) (B i from to : ℕ) → from ≡ i * B → to ≡ min (length plain) (from + B)
    → take (to - from) (drop from plain) ≡ piece_of plain B i
piece_between plain B i from to f t = elim (cases_lt (length plain) (from + B)) [
  | inl less ↦ (let size : to - from ≡ length plain - from = omega (arith, t, less) in
      let short : length (drop from plain) ≤ B = simp length-drop (omega (arith, less)) in
      rw (size, ← f) (take_rest plain from ∙ sym (take_all B (drop from plain) short)))
  | inr more ↦ (let size : to - from ≡ B = omega (arith, t, more) in rw (size, f) refl)
]

-- one more block is written into its place
pub one_more : (key seed prefix plain out part : List ℕ) (B i n from to start end : ℕ)
    → length seed ≡ 8 → B ≤ 2 ^ 24 → IsPlace B (length plain) n i from to start end
    → from ≡ i * B → to ≡ min (length plain) (from + B)
    → length out ≡ length plain + 28 * n
    → sealed_block key prefix seed i (take (to - from) (drop from plain)) ≡ Some part
    → length part ≡ end - start
    → sealed_blocks key prefix seed B plain i ≡ Some (take (i * (B + 28)) out)
    → sealed_blocks key prefix seed B plain (i + 1)
    ≡ Some (take ((i + 1) * (B + 28)) (put_mid start (end - start) out part))
one_more key seed prefix plain out part B i n from to start end eight most place f t room sealed size before =
    let h : ℕ → List ℕ = λ j. block_of key seed prefix B plain j in
    let front : flat_map h (range_with_len 0 i) ≡ take start out =
    same_Some (flat_map h (range_with_len 0 i)) (take start out)
    (sym (sealed_blocks_are key seed prefix plain B i eight most) ∙ before
    ∙ ap (λ j. Some (take j out)) (sym place.starts)) in
    let here : h i ≡ part =
    ap (λ xs. unwrap_or (sealed_block key prefix seed i xs) []) (sym (piece_between plain B i from to f t))
    ∙ ap (λ o. unwrap_or o []) sealed in
    let more : flat_map h (range_with_len 0 (i + 1)) ≡ take start out ++ part =
    ap (λ j. flat_map h (range_with_len 0 j)) (add-one i)
    ∙ flat_map_more_range h 0 i i (omega arith)
    ∙ ap (λ xs. xs ++ h i) front
    ∙ ap (λ xs. take start out ++ xs) here in
    sealed_blocks_are key seed prefix plain B (i + 1) eight most
    ∙ ap Some (more ∙ sym (written_front out part B i (length plain) n from to start end place room size))
  where
    written_front : (out part : List ℕ) (B i P n from to start end : ℕ) → IsPlace B P n i from to start end
        → length out ≡ P + 28 * n → length part ≡ end - start
        → take ((i + 1) * (B + 28)) (put_mid start (end - start) out part) ≡ take start out ++ part
    written_front out part B i P n from to start end place room size =
        let written : take end (put_mid start (end - start) out part) ≡ take start out ++ part =
        take-put_mid start (end - start) out part end (omega (arith, size, place.size))
        (omega (arith, room, place.size, place.end_in)) in
        elim place.reaches [
          | inl whole ↦ rw (← whole) written
          | inr rest ↦ (let all : length (put_mid start (end - start) out part) ≤ end =
              simp (length-append, length-take, length-drop) (omega (arith, size, room, place.size, rest.0)) in
              take_all ((i + 1) * (B + 28)) (put_mid start (end - start) out part) (omega (arith, all, rest.1))
              ∙ sym (take_all end (put_mid start (end - start) out part) all)
              ∙ written)
        ]

-- all blocks are written
pub all_written : (key seed prefix plain out : List ℕ) (B n : ℕ) → IsCounted B (length plain) n
    → length out ≡ length plain + 28 * n
    → sealed_blocks key prefix seed B plain n ≡ Some (take (n * (B + 28)) out)
    → sealed_blocks key prefix seed B plain n ≡ Some out
all_written key seed prefix plain out B n h room before =
    let product : n * (B + 28) ≡ n * B + 28 * n = grind arith in
    before ∙ ap Some (take_all (n * (B + 28)) out (omega (arith, room, product, h.reaches)))

-- the header and all blocks are the stream
pub whole_stream : (key seed prefix plain blocks bytes : List ℕ) (B : ℕ)
    → sealed_blocks key prefix seed B plain (sealed_count (length plain) B) ≡ Some blocks
    → bytes ≡ header B ++ blocks → stream_bytes key prefix seed B plain ≡ Some bytes
unfolding stream_bytes
whole_stream key seed prefix plain blocks bytes B h e =
    ap (λ (o : Option (List ℕ)). option_map (λ xs. header B ++ xs) o) h ∙ ap Some (sym e)

-- no block is written yet
pub nothing_written : (sealer : SealerValue) (B : ℕ) (plain out : List ℕ) → sealer.next ≡ 0
    → IsSealedUpTo sealer B plain out
nothing_written sealer B plain out e =
    let none : 0 * (B + 28) ≡ 0 = zero-mul (B + 28) in
    rw e (ap (λ m. Some (take m out)) (sym none))

-- one more block of the same file
pub rises_again : (first old new : SealerValue) (i : ℕ) → old ≡ record first { next = i }
    → new ≡ record old { next = old.next + 1 } → new ≡ record first { next = i + 1 }
rises_again first old new i same rises =
    let more : SealerValue → SealerValue = λ s. record s { next = s.next + 1 } in
    rises ∙ ap more same

-- all blocks of a file are written by a sealer that began with block 0
pub all_of_file : (first last : SealerValue) (B n : ℕ) (plain out : List ℕ) → IsCounted B (length plain) n
    → length out ≡ length plain + 28 * n → last ≡ record first { next = n }
    → IsSealedUpTo last B plain out
    → sealed_blocks first.key first.prefix first.seed B plain n ≡ Some out
all_of_file first last B n plain out h room same before =
    let all : IsSealedUpTo (record first { next = n }) B plain out = rw same at before in
    all_written first.key first.seed first.prefix plain out B n h room all

-- what is written behind a header
pub behind_header : (written rest blocks header : List ℕ) → written ≡ header → length header ≡ 8
    → put_mid 8 (length (written ++ rest) - 8) (written ++ rest) blocks ≡ header ++ blocks
behind_header written rest blocks header e eight =
    let size : length written ≡ 8 = ap length e ∙ eight in
    let none : drop (length (written ++ rest) - 8) (drop 8 (written ++ rest)) ≡ [] =
    drop_all (length (written ++ rest) - 8) (drop 8 (written ++ rest)) (simp length-drop (omega arith)) in
    ap (λ xs. xs ++ (blocks ++ drop (length (written ++ rest) - 8) (drop 8 (written ++ rest))))
    (take_at written rest 8 size)
    ∙ ap (λ xs. written ++ (blocks ++ xs)) none
    ∙ ap (λ xs. written ++ xs) (append-nil blocks)
    ∙ ap (λ xs. xs ++ blocks) e
