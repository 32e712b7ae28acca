-- A sealed stream is open, and its plaintext is the one that was sealed.
use Rattle.std.proofs.Common.{◌≡◌, ℕ, zero, suc, ◌+◌, ◌-◌, ◌*◌, ◌^◌, ◌<◌, ◌≤◌, List, [], ◌∷◌, ◌++◌, length, take, drop, map, Option, Some, None, refl, ap, sym, ◌∙◌, arith, length-append}
use Rattle.std.specs.Prelude.{slice_range, unwrap_or}
use Rattle.std.specs.List.{flat_map, range_with_len}
use Rattle.std.specs.Option.{option_map}
use Rattle.std.specs.Int.{w32, to_le_bytes, from_le_bytes}
use Rattle.std.proofs.Math.Nat.{zero-mul}
use Rattle.std.proofs.lemmas.Bool.{lt-ltb, cond-true}
use Rattle.std.proofs.lemmas.Nat.{from_le_bytes-to_le_bytes_4}
use Rattle.std.proofs.lemmas.List.{drop-drop, drop_at, take_at, take_all}
use Rattle.icb_seal.specs.Block.{sealed_block, opened_block}
use Rattle.icb_seal.proofs.BlockLemmas.{sealed_block_form, sealed_block_opens, text_is_sealed}
use Rattle.icb_stream.specs.Cut.{block_start, block_end, block_count, IsCut}
use Rattle.icb_stream.specs.Layout.{Layout, blocks, part_at}
use Rattle.icb_stream.specs.Content.{joined}
use Rattle.icb_stream.proofs.ContentLemmas.{drop_pieces}
use Rattle.icb_base.specs.KeyMetadata.{KeyRecord, prefix_of}
use Rattle.icb_stream.specs.Opening.{layout_of, magic, block_length_in}
use Rattle.icb_stream.specs.Sealing.{sealed_count, header, piece_of, sealed_blocks, stream_bytes, IsStreamOf}
use Rattle.icb_stream.proofs.SealedCutLemmas.{IsCounted, count_facts, count_fits, sealed_cut, sealed_count_is, sealed_has_cut, length-piece_le, whole_piece, piece_in_block}

-- ---- lists

-- the front of a list is a shorter front, and then the front of what is left
take_parts : (m n k : ℕ) (xs : List ℕ) → k ≡ m + n → take k xs ≡ take m xs ++ take n (drop m xs)
take_parts zero n k xs e = ap (λ j. take j xs) (let f : k ≡ n = omega (arith, e) in f)
take_parts (suc m) n zero xs e = absurd (let f : ⊥ = omega (arith, e) in f)
take_parts (suc m) n (suc k) [] e = sym (take_all n [] (omega arith))
take_parts (suc m) n (suc k) (x ∷ xs) e =
    let f : k ≡ m + n = omega (arith, e) in
    ap (λ ys. x ∷ ys) (take_parts m n k xs f)

-- so many pieces one after another are a front of the rest of the plaintext
front_from_pieces : (B : ℕ) (xs : List ℕ) (a n : ℕ)
    → flat_map (λ i. piece_of xs B i) (range_with_len a n) ≡ take (n * B) (drop (a * B) xs)
front_from_pieces B xs a zero = let e : zero * B ≡ 0 = zero-mul B in rw e refl
front_from_pieces B xs a (suc n) =
    let product : suc n * B ≡ B + n * B = grind arith in
    let next : (a + 1) * B ≡ a * B + B = grind arith in
    let rest : flat_map (λ i. piece_of xs B i) (range_with_len (a + 1) n) ≡ take (n * B) (drop B (drop (a * B) xs)) =
    front_from_pieces B xs (a + 1) n
    ∙ ap (λ j. take (n * B) (drop j xs)) next
    ∙ ap (λ ys. take (n * B) ys) (sym (drop-drop B (a * B) xs)) in
    ap (λ ys. take B (drop (a * B) xs) ++ ys) rest
    ∙ sym (take_parts B (n * B) (suc n * B) (drop (a * B) xs) product)

-- all pieces one after another are the plaintext
pub plain_from_pieces : (plain : List ℕ) (B n : ℕ) → IsCounted B (length plain) n
    → flat_map (λ i. piece_of plain B i) (range_with_len 0 n) ≡ plain
plain_from_pieces plain B n h =
    let start : 0 * B ≡ 0 = zero-mul B in
    front_from_pieces B plain 0 n
    ∙ ap (λ j. take (n * B) (drop j plain)) start
    ∙ take_all (n * B) plain h.reaches

-- parts that are all there, one after another
pub joined_parts : (g : ℕ → Option (List ℕ)) (h : ℕ → List ℕ) (a n : ℕ)
    → ((i : ℕ) → a ≤ i → i < a + n → g i ≡ Some (h i))
    → joined (map g (range_with_len a n)) ≡ Some (flat_map h (range_with_len a n))
joined_parts g h a zero all = refl
joined_parts g h a (suc n) all =
    let first : g a ≡ Some (h a) = all a (omega arith) (omega arith) in
    let rest : joined (map g (range_with_len (a + 1) n)) ≡ Some (flat_map h (range_with_len (a + 1) n)) =
    joined_parts g h (a + 1) n (λ i lo hi. all i (omega (arith, lo)) (omega (arith, hi))) in
    rw (first, rest) refl

-- pieces that are each 28 bytes longer than others
length-longer : (f h : ℕ → List ℕ) (a n : ℕ) → ((i : ℕ) → length (h i) ≡ length (f i) + 28)
    → length (flat_map h (range_with_len a n)) ≡ length (flat_map f (range_with_len a n)) + 28 * n
length-longer f h a zero same = refl
length-longer f h a (suc n) same =
    let first = same a in
    let rest = length-longer f h (a + 1) n same in
    simp length-append (omega (arith, first, rest))

-- ---- the blocks

-- a text and the block that it is sealed to
pub record IsSealedBlock (key prefix seed : List ℕ) (i : ℕ) (plain block : List ℕ) : Type 0 where
  pub is_block : sealed_block key prefix seed i plain ≡ Some block
  pub size : length block ≡ length plain + 28
  pub opens : opened_block key prefix i block ≡ Some plain

-- the block of piece i
abbrev pub block_of : List ℕ → List ℕ → List ℕ → ℕ → List ℕ → ℕ → List ℕ
block_of key seed prefix B plain i = unwrap_or (sealed_block key prefix seed i (piece_of plain B i)) []

-- a text that isn't too long has a block
sealed_there : (key prefix seed text : List ℕ) (i : ℕ) → length seed ≡ 8 → length text ≤ 2 ^ 36 - 32
    → (block : List ℕ) × IsSealedBlock key prefix seed i text block
sealed_there key prefix seed text i eight fits =
    let there = text_is_sealed key prefix seed text i fits in (
      there.0,
      record {
        is_block = there.1;
        size = (sealed_block_form key prefix seed text there.0 i eight there.1).0;
        opens = sealed_block_opens key prefix seed text there.0 i eight there.1;
      },
    )

-- each piece is sealed to its block
pub block_facts : (key seed prefix plain : List ℕ) (B i : ℕ) → length seed ≡ 8 → B ≤ 2 ^ 24
    → IsSealedBlock key prefix seed i (piece_of plain B i) (block_of key seed prefix B plain i)
block_facts key seed prefix plain B i eight most =
    let fits : length (piece_of plain B i) ≤ 2 ^ 36 - 32 = (let le = length-piece_le plain B i in omega (arith, le, most)) in
    let there = sealed_there key prefix seed (piece_of plain B i) i eight fits in
    let same : block_of key seed prefix B plain i ≡ there.0 = ap (λ o. unwrap_or o []) there.1.is_block in
    rw same there.1

-- so the first blocks are these one after another
pub sealed_blocks_are : (key seed prefix plain : List ℕ) (B n : ℕ) → length seed ≡ 8 → B ≤ 2 ^ 24
    → sealed_blocks key prefix seed B plain n
    ≡ Some (flat_map (λ i. block_of key seed prefix B plain i) (range_with_len 0 n))
sealed_blocks_are key seed prefix plain B n eight most =
    joined_parts (λ i. sealed_block key prefix seed i (piece_of plain B i))
    (λ i. block_of key seed prefix B plain i) 0 n
    (λ i lo hi. (block_facts key seed prefix plain B i eight most).is_block)

-- a block of a file that is a header and blocks
block_in_file : (h : ℕ → List ℕ) (bytes : List ℕ) (B L n i : ℕ)
    → bytes ≡ header B ++ flat_map h (range_with_len 0 n)
    → ((j : ℕ) → j + 1 < n → length (h j) ≡ B + 28) → i < n
    → length (h i) ≡ block_end B L i - block_start B i
    → slice_range bytes (block_start B i) (block_end B L i) ≡ h i
block_in_file h bytes B L n i e whole lt size =
    let k : ℕ = n - i - 1 in
    let after : drop 8 bytes ≡ flat_map h (range_with_len 0 n) =
    ap (λ xs. drop 8 xs) e ∙ drop_at (header B) (flat_map h (range_with_len 0 n)) 8 refl in
    let from : drop (8 + i * (B + 28)) bytes ≡ h i ++ flat_map h (range_with_len (i + 1) k) =
    sym (drop-drop (i * (B + 28)) 8 bytes)
    ∙ ap (λ xs. drop (i * (B + 28)) xs) after
    ∙ drop_pieces h (B + 28) i 0 i n (suc k) (omega arith) (omega (arith, lt))
    (λ j lo hi. whole j (omega (arith, hi, lt))) in
    ap (λ xs. take (block_end B L i - block_start B i) xs) from
    ∙ take_at (h i) (flat_map h (range_with_len (i + 1) k)) (block_end B L i - block_start B i) size

-- ---- the stream

-- the header says the block length
header_says : (bytes rest : List ℕ) (B : ℕ) → B ≤ 2 ^ 24 → bytes ≡ header B ++ rest
    → (take 4 bytes ≡ magic) × (block_length_in bytes ≡ B)
unfolding block_length_in
header_says bytes rest B most e =
    let number : from_le_bytes w32 (to_le_bytes w32 B) ≡ B = from_le_bytes-to_le_bytes_4 B (omega (arith, most)) in
    rw e (refl, number)

-- the bytes of the file
file_is : (blocks found : Option (List ℕ)) (front bytes all : List ℕ) → blocks ≡ Some all
    → option_map (λ xs. front ++ xs) blocks ≡ Some bytes → bytes ≡ front ++ all
file_is blocks found front bytes all e h =
    let there : option_map (λ xs. front ++ xs) blocks ≡ Some (front ++ all) = ap (λ o. option_map (λ xs. front ++ xs) o) e in
    cc

-- a header and blocks that open to the pieces of a plaintext are a stream of it
stream_of_blocks : (meta : KeyRecord) (plain bytes : List ℕ) (h : ℕ → List ℕ) (B n : ℕ) → 1 ≤ B → B ≤ 2 ^ 24
    → IsCounted B (length plain) n → length plain ≤ B * 2 ^ 31
    → bytes ≡ header B ++ flat_map h (range_with_len 0 n)
    → ((i : ℕ) → length (h i) ≡ length (piece_of plain B i) + 28)
    → ((i : ℕ) → opened_block meta.key (prefix_of meta) i (h i) ≡ Some (piece_of plain B i))
    → n ≡ sealed_count (length plain) B
    → IsStreamOf meta plain B bytes
unfolding part_at
stream_of_blocks meta plain bytes h B n some most counted fits e sizes opens is_count =
    let pieces = plain_from_pieces plain B n counted in
    let longer = length-longer (λ i. piece_of plain B i) h 0 n sizes in
    let all : length (flat_map h (range_with_len 0 n)) ≡ length plain + 28 * n =
    longer ∙ ap (λ xs. length xs + 28 * n) pieces in
    let size : length bytes ≡ 8 + length plain + 28 * n =
    (ap length e ∙ length-append (header B) (flat_map h (range_with_len 0 n)))
    ∙ (let f : 8 + length (flat_map h (range_with_len 0 n)) ≡ 8 + length plain + 28 * n = omega (arith, all) in f) in
    let few : n ≤ 2 ^ 31 = count_fits B (length plain) n counted fits in
    let cut : IsCut B (length bytes) n = sealed_cut B (length plain) n (length bytes) counted some most few size in
    let count : block_count B (length bytes) ≡ n = sealed_count_is B (length bytes) n cut in
    let layout : Layout = layout_of meta (length bytes) B in
    let parts : (i : ℕ) → i < n → part_at bytes layout i ≡ Some (piece_of plain B i) =
    λ i lt. cond-true _ _ _ (lt-ltb i (blocks layout) (rw count lt))
    ∙ ap (λ b. opened_block meta.key (prefix_of meta) i b)
    (block_in_file h bytes B (length bytes) n i e
    (λ j less. sizes j ∙ (let w = whole_piece plain B n j counted less in
    let f : length (piece_of plain B j) + 28 ≡ B + 28 = omega (arith, w) in f))
    lt (sizes i ∙ sym (piece_in_block plain B (length bytes) n i counted cut size lt)))
    ∙ opens i in
    let front = header_says bytes (flat_map h (range_with_len 0 n)) B most e in
    let first : part_at bytes layout 0 ≡ Some (piece_of plain B 0) = parts 0 (omega (arith, counted.some)) in
    record {
      size = size ∙ ap (λ m. 8 + length plain + 28 * m) is_count;
      opens = record {
        long = omega arith;
        begins = front.0;
        block_length = front.1;
        cut = sealed_has_cut B (length bytes) n cut;
        first_part = rw first refl;
      };
      reads = ap (λ m. joined (map (part_at bytes layout) (range_with_len 0 m))) count
          ∙ joined_parts (part_at bytes layout) (λ i. piece_of plain B i) 0 n
          (λ i lo hi. parts i (omega (arith, hi)))
          ∙ ap Some pieces;
    }

-- the written form is a stream of its plaintext
pub stream_is_open : (meta : KeyRecord) (seed plain bytes : List ℕ) (B : ℕ) → length seed ≡ 8 → 1 ≤ B
    → B ≤ 2 ^ 24 → length plain ≤ B * 2 ^ 31
    → stream_bytes meta.key (prefix_of meta) seed B plain ≡ Some bytes → IsStreamOf meta plain B bytes
unfolding stream_bytes
stream_is_open meta seed plain bytes B eight some most fits h =
    let n : ℕ = sealed_count (length plain) B in
    let key : List ℕ = meta.key in
    let prefix : List ℕ = prefix_of meta in
    let blocks_are = sealed_blocks_are key seed prefix plain B n eight most in
    let e : bytes ≡ header B ++ flat_map (λ i. block_of key seed prefix B plain i) (range_with_len 0 n) =
    file_is (sealed_blocks key prefix seed B plain n) None (header B) bytes _ blocks_are h in
    stream_of_blocks meta plain bytes (λ i. block_of key seed prefix B plain i) B n some most
    (count_facts B (length plain) some) fits e
    (λ i. (block_facts key seed prefix plain B i eight most).size)
    (λ i. (block_facts key seed prefix plain B i eight most).opens)
    refl
