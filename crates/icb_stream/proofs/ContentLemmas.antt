-- What is known of the plaintext of a stream: the pieces of its blocks lie one after another.
use Rattle.std.proofs.Common.{◌≡◌, ℕ, zero, suc, ◌+◌, ◌-◌, ◌*◌, ◌<◌, ◌≤◌, Bool, true, false, List, ◌++◌, length, take, drop, Option, Some, None, refl, ap, sym, ◌∙◌, arith, length-take, length-drop, length-append, append_assoc}
use Rattle.std.specs.Prelude.{slice_range, nat_lt, if◌then◌else◌}
use Rattle.std.specs.List.{flat_map, range_with_len}
use Rattle.std.proofs.Math.Nat.{zero-mul}
use Rattle.std.proofs.lemmas.List.{append-nil, length-map, length-replicate, drop_at, take-take, drop-drop}
use Rattle.std.proofs.lemmas.Slice.{between_is}
use Rattle.icb_stream.specs.Cut.{block_start, block_end, IsCut}
use Rattle.icb_stream.proofs.CutLemmas.{block_room, cut_facts}
use Rattle.icb_stream.proofs.PartLemmas.{last_part, whole_part}
use Rattle.icb_seal.specs.Block.{opened_block}
use Rattle.icb_seal.proofs.BlockLemmas.{length-opened_block}
use Rattle.icb_stream.specs.Layout.{Layout, blocks, plain_length, part_length, cipher_block, part_at}
use Rattle.icb_stream.specs.Opening.{IsOpen}
use Rattle.icb_stream.specs.Content.{with_gaps, content}

-- ---- the length of a part

-- a part that is there is one of a block of the stream, which opened
pub part_facts : (b : Bool) (found : Option (List ℕ)) (plain : List ℕ)
    → (if b then found else None) ≡ Some plain → (b ≡ true) × (found ≡ Some plain)
part_facts true found plain h = (refl, h)
part_facts false found plain h = absurd (let f : ⊥ = cc in f)

-- a part that is there is what its block opens to
pub opened_part : (bytes : List ℕ) (layout : Layout) (i : ℕ) (plain : List ℕ)
    → part_at bytes layout i ≡ Some plain
    → opened_block layout.key layout.prefix i (cipher_block bytes layout i) ≡ Some plain
unfolding part_at
opened_part bytes layout i plain h = (part_facts (nat_lt i (blocks layout)) _ plain h).1

-- a part that is there has the length of its block's plaintext
pub length-part : (bytes : List ℕ) (layout : Layout) (i : ℕ) (plain : List ℕ)
    → IsCut layout.block_length layout.recorded (blocks layout) → layout.recorded ≤ length bytes
    → i < blocks layout → part_at bytes layout i ≡ Some plain → length plain ≡ part_length layout i
length-part bytes layout i plain cut long lt h =
    let room = block_room layout.block_length layout.recorded (blocks layout) i cut lt in
    let block : length (cipher_block bytes layout i)
    ≡ block_end layout.block_length layout.recorded i - block_start layout.block_length i =
    simp (length-take, length-drop) (omega (arith, long)) in
    let size = length-opened_block layout.key layout.prefix (cipher_block bytes layout i) plain i
    (opened_part bytes layout i plain h) in
    omega (arith, size, block)

-- ---- the pieces of the content

-- the piece of block i
abbrev pub piece : List ℕ → Layout → ℕ → List (Option ℕ)
piece bytes layout i = with_gaps (part_length layout i) (part_at bytes layout i)

-- a piece with gaps has the length that is said, where the part has it
length-with_gaps : (n : ℕ) (found : Option (List ℕ)) → ((plain : List ℕ) → found ≡ Some plain → length plain ≡ n)
    → length (with_gaps n found) ≡ n
length-with_gaps n None h = length-replicate n None
length-with_gaps n (Some plain) h = length-map plain Some ∙ h plain refl

-- a piece has the length of its block's plaintext
pub length-piece : (bytes : List ℕ) (layout : Layout) (i : ℕ)
    → IsCut layout.block_length layout.recorded (blocks layout) → layout.recorded ≤ length bytes
    → i < blocks layout → length (piece bytes layout i) ≡ part_length layout i
length-piece bytes layout i cut long lt = length-with_gaps (part_length layout i) (part_at bytes layout i)
    (λ plain h. length-part bytes layout i plain cut long lt h)

-- pieces of one length, one after another: what is left after some of them
pub drop_pieces : {X : Type 0} (f : ℕ → List X) (B i a b n k : ℕ) → b ≡ a + i → n ≡ i + k
    → ((j : ℕ) → a ≤ j → j < a + i → length (f j) ≡ B)
    → drop (i * B) (flat_map f (range_with_len a n)) ≡ flat_map f (range_with_len b k)
drop_pieces f B zero a b n k e g same =
    let z : zero * B ≡ 0 = zero-mul B in
    let eb : b ≡ a = omega (arith, e) in
    let en : n ≡ k = omega (arith, g) in
    rw (z, eb, en) refl
drop_pieces f B (suc i) a b zero k e g same = absurd (let h : ⊥ = omega (arith, g) in h)
drop_pieces f B (suc i) a b (suc n) k e g same =
    let whole : length (f a) ≡ B = same a (omega arith) (omega arith) in
    let product : suc i * B ≡ B + i * B = grind arith in
    let first : drop B (f a ++ flat_map f (range_with_len (a + 1) n)) ≡ flat_map f (range_with_len (a + 1) n) =
    drop_at (f a) (flat_map f (range_with_len (a + 1) n)) B whole in
    rw (product, ← drop-drop (i * B) B (f a ++ flat_map f (range_with_len (a + 1) n)), first)
    (drop_pieces f B i (a + 1) b n k (omega (arith, e)) (omega (arith, g))
    (λ j lo hi. same j (omega (arith, lo)) (omega (arith, hi))))

-- the content from block i on
pub drop_content : (bytes : List ℕ) (layout : Layout) (i k : ℕ)
    → IsCut layout.block_length layout.recorded (blocks layout) → layout.recorded ≤ length bytes
    → blocks layout ≡ i + suc k
    → drop (i * layout.block_length) (content bytes layout)
    ≡ piece bytes layout i ++ flat_map (piece bytes layout) (range_with_len (i + 1) k)
unfolding content
drop_content bytes layout i k cut long e =
    drop_pieces (piece bytes layout) layout.block_length i 0 i (blocks layout) (suc k) (omega arith) e
    (λ j lo hi. length-piece bytes layout j cut long (omega (arith, e, hi))
    ∙ whole_part layout.block_length layout.recorded (blocks layout) j cut (omega (arith, e, hi)))

-- one more piece at the end
pub flat_map_more_range : {X : Type 0} (h : ℕ → List X) (a n i : ℕ) → a + n ≡ i
    → flat_map h (range_with_len a (suc n)) ≡ flat_map h (range_with_len a n) ++ h i
flat_map_more_range h a zero i e = let same : a ≡ i = omega (arith, e) in rw same (append-nil (h i))
flat_map_more_range h a (suc n) i e =
    let rest = flat_map_more_range h (a + 1) n i (omega (arith, e)) in
    ap (λ ys. h a ++ ys) rest ∙ sym (append_assoc (h a) (flat_map h (range_with_len (a + 1) n)) (h i))

-- pieces of so many blocks, each as long as is said
length-pieces : {X : Type 0} (f : ℕ → List X) (B a n : ℕ)
    → ((j : ℕ) → a ≤ j → j < a + n → length (f j) ≡ B)
    → length (flat_map f (range_with_len a n)) ≡ n * B
length-pieces f B a zero same = sym (zero-mul B)
length-pieces f B a (suc n) same =
    let first : length (f a) ≡ B = same a (omega arith) (omega arith) in
    let rest = length-pieces f B (a + 1) n (λ j lo hi. same j (omega (arith, lo)) (omega (arith, hi))) in
    let product : suc n * B ≡ B + n * B = grind arith in
    simp length-append (omega (arith, first, rest, product))

-- the content speaks of each place of the plaintext
pub length-content : (bytes : List ℕ) (layout : Layout) → IsOpen bytes layout
    → length (content bytes layout) ≡ plain_length layout
unfolding content
length-content bytes layout is_open =
    let cut = cut_facts _ _ is_open.cut in
    let n : ℕ = blocks layout in
    let last : ℕ = n - 1 in
    let count : n ≡ suc last = omega (arith, cut.some_blocks) in
    let f : ℕ → List (Option ℕ) = piece bytes layout in
    let split : flat_map f (range_with_len 0 n) ≡ flat_map f (range_with_len 0 last) ++ f last =
    ap (λ m. flat_map f (range_with_len 0 m)) count ∙ flat_map_more_range f 0 last last (omega arith) in
    let whole : length (flat_map f (range_with_len 0 last)) ≡ last * layout.block_length =
    length-pieces f layout.block_length 0 last
    (λ j lo hi. length-piece bytes layout j cut is_open.long (omega (arith, hi, count))
    ∙ whole_part layout.block_length layout.recorded n j cut (omega (arith, hi, count))) in
    let end : length (f last) ≡ part_length layout last =
    length-piece bytes layout last cut is_open.long (omega (arith, count)) in
    let place = last_part layout.block_length layout.recorded n last cut (omega (arith, count)) in
    ap length split ∙ length-append (flat_map f (range_with_len 0 last)) (f last)
    ∙ (let sum : length (flat_map f (range_with_len 0 last)) + length (f last) ≡ plain_length layout =
    omega (arith, whole, end, place) in sum)

-- ---- bytes after the recorded length aren't read

-- a range that ends at a place is one of the bytes before it
pub range_of_front : (bytes : List ℕ) (i j n : ℕ) → j ≤ n → slice_range (take n bytes) i j ≡ slice_range bytes i j
range_of_front bytes i j n h =
    between_is (take n bytes) i j ∙ ap (λ xs. drop i xs) (take-take j n bytes h) ∙ sym (between_is bytes i j)

-- a part is one of the bytes up to the recorded length
pub part_of_front : (bytes : List ℕ) (layout : Layout) (i : ℕ)
    → part_at (take layout.recorded bytes) layout i ≡ part_at bytes layout i
unfolding part_at
part_of_front bytes layout i =
    let block : cipher_block (take layout.recorded bytes) layout i ≡ cipher_block bytes layout i =
    range_of_front bytes (block_start layout.block_length i) (block_end layout.block_length layout.recorded i) layout.recorded
    (omega arith) in
    rw block refl
