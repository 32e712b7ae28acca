-- Found objects without a foreign block show no more of a table's files than the committed ones.
use Rattle.std.specs.Prelude.{◌≡◌, ℕ, zero, suc, ◌+◌, ◌-◌, ◌*◌, ◌<◌, ◌≤◌, min, nat_lt, not, Bool, true, false, List, [], ◌∷◌, ◌++◌, length, map, take, replicate, Option, Some, None, is_none, IsSome, get_or, Result, Ok, Err, if◌then◌else◌, bytes_eq}
use Rattle.std.specs.List.{Contains, flat_map, range_with_len}
use Rattle.std.proofs.Common.{refl, ap, ◌∙◌, sym, subst, arith, inl, inr}
use Rattle.std.proofs.lemmas.Bool.{ltb-false, ltb-true, lt-ltb, cases_lt}
use Rattle.std.proofs.lemmas.List.{append-nil, length-append, length-take, length-drop}
use Rattle.std.proofs.lemmas.List.Elements.{All-from_recursion, Contains-get_or, recursion_from_All}
use Rattle.std.proofs.lemmas.Slice.Eq.{bytes_eq-Decides}
use Rattle.icb_base.specs.Contents.{KnowsNoMore}
use Rattle.icb_base.specs.Objects.{Objects, object_at}
use Rattle.icb_base.proofs.LawLemmas.{knows_itself}
use Rattle.icb_chain.specs.Ring.{Ring}
use Rattle.icb_meta.specs.declared.fields.Fields.{Fields}
use Rattle.icb_seal.specs.Block.{opened_block}
use Rattle.icb_stream.specs.Attached.{read_content}
use Rattle.icb_stream.specs.Content.{content, plaintext, with_gaps}
use Rattle.icb_stream.specs.Cut.{IsCut, block_count, has_cut, is_block_length}
use Rattle.icb_stream.specs.Layout.{Layout, blocks, cipher_block, part_at, part_length, plain_length}
use Rattle.icb_stream.specs.Opening.{IsOpen, block_length_in, first_part_of, header_of, layout_of, magic}
use Rattle.icb_stream.specs.declared.fault.StreamFault.{StreamFault}
use Rattle.icb_stream.specs.declared.fault.StreamFault.TheVariants.{BadLength, Block, BlockLength, Magic, Short}
use Rattle.icb_stream.proofs.AttachedLemmas.{length-read_content}
use Rattle.icb_stream.proofs.ContentLemmas.{length-content, length-piece, opened_part, piece}
use Rattle.icb_stream.proofs.CutLemmas.{cut_facts}
use Rattle.icb_table.specs.Contents.{of_object, opening_in, opening_key, plaintexts_in}
use Rattle.icb_table.specs.Foreign.{HasNoForeignBlock, IsBlockOf, Opens, SealedBlock, layout_in, sealed_at}
use Rattle.icb_table.specs.Known.{IsNoMore, shown_in}
use Rattle.icb_table.specs.Laws.{NoForeignShowsNoMore}
use Rattle.icb_table.specs.Listed.{Listed}
use Rattle.icb_table.specs.Table.{IsInTable, IsTable, Table}
use Rattle.icb_table.proofs.ForeignLemmas.{committed_is_own}
use Rattle.icb_table.proofs.KnownLemmas.{all_known, last_at, layout_from, opening_is}

-- ---- what is known

knows_append : (a b c d : List (Option ℕ)) → KnowsNoMore a b → KnowsNoMore c d → KnowsNoMore (a ++ c) (b ++ d)
knows_append [] [] c d p q = q
knows_append [] (y ∷ b) c d p q = absurd p
knows_append (None ∷ a) [] c d p q = absurd p
knows_append (Some x ∷ a) [] c d p q = absurd p
knows_append (None ∷ a) (y ∷ b) c d p q = knows_append a b c d p q
knows_append (Some x ∷ a) (y ∷ b) c d p q = (p.0, knows_append a b c d p.1 q)

knows_gaps : (n : ℕ) (known : List (Option ℕ)) → length known ≡ n → KnowsNoMore (replicate n None) known
knows_gaps zero [] e = tt
knows_gaps zero (k ∷ known) e = absurd (let g : ⊥ = omega (arith, e) in g)
knows_gaps (suc n) [] e = absurd (let g : ⊥ = omega (arith, e) in g)
knows_gaps (suc n) (k ∷ known) e = knows_gaps n known (omega (arith, e))

-- the same with a gap in the last place
knows_last : (a b : List (Option ℕ)) (n : ℕ) → length a ≡ suc n → KnowsNoMore a b
    → KnowsNoMore (take n a ++ None ∷ []) b
knows_last [] b n e p = absurd (let g : ⊥ = omega (arith, e) in g)
knows_last (None ∷ a) [] n e p = absurd p
knows_last (Some x ∷ a) [] n e p = absurd p
knows_last (None ∷ []) (y ∷ []) zero e p = tt
knows_last (Some x ∷ []) (y ∷ []) zero e p = tt
knows_last (None ∷ []) (y ∷ z ∷ b) zero e p = absurd p
knows_last (Some x ∷ []) (y ∷ z ∷ b) zero e p = absurd p.1
knows_last (None ∷ k ∷ a) (y ∷ b) zero e p = absurd (let g : ⊥ = omega (arith, e) in g)
knows_last (Some x ∷ k ∷ a) (y ∷ b) zero e p = absurd (let g : ⊥ = omega (arith, e) in g)
knows_last (None ∷ a) (y ∷ b) (suc n) e p = knows_last a b n (omega (arith, e)) p
knows_last (Some x ∷ a) (y ∷ b) (suc n) e p = (p.0, knows_last a b n (omega (arith, e)) p.1)

-- ---- open files

-- an object is read so, and is an open stream
pub record OpenAs (bytes : List ℕ) (f : Listed) (layout : Layout) : Type 0 where
  pub is_layout : layout ≡ layout_in bytes f
  pub is_open : IsOpen bytes layout

pub header_facts : (a b c : Bool) (e f g : StreamFault) (n m : ℕ)
    → (if not a then Err e else (if not b then Err f else (if not c then Err g else Ok n))) ≡ Ok m
    → (a ≡ true) × (c ≡ true) × (n ≡ m)
header_facts false b c e f g n m h = absurd (let z : ⊥ = cc in z)
header_facts true false c e f g n m h = absurd (let z : ⊥ = cc in z)
header_facts true true false e f g n m h = absurd (let z : ⊥ = cc in z)
header_facts true true true e f g n m h = (refl, refl, cc)

some_from : (part : Option (List ℕ)) → is_none part ≡ false → IsSome part
some_from None h = absurd (let z : ⊥ = cc in z)
some_from (Some p) h = refl

first_part_facts : (bytes : List ℕ) (f : Listed) (n : ℕ) (none : Bool) (layout : Layout)
    → is_none (part_at bytes (layout_of (opening_key f) f.recorded n) 0) ≡ none
    → (if none then Err (Block 0) else Ok (layout_of (opening_key f) f.recorded n)) ≡ Ok layout
    → (layout_of (opening_key f) f.recorded n ≡ layout) × (IsSome (part_at bytes layout 0))
first_part_facts bytes f n true layout p e = absurd (let z : ⊥ = cc in z)
first_part_facts bytes f n false layout p e =
    let is : layout_of (opening_key f) f.recorded n ≡ layout = cc in
    (is, subst (λ l. IsSome (part_at bytes l 0)) is (some_from _ p))

open_by : (bytes : List ℕ) (f : Listed) (low short : Bool) (header : Result ℕ StreamFault) (layout : Layout)
    → nat_lt (length bytes) f.recorded ≡ short → header_of bytes f.recorded ≡ header
    → (if low then Err (BadLength f.recorded) else (if short then Err (Short (length bytes))
    else first_part_of bytes (opening_key f) f.recorded header)) ≡ Ok layout → OpenAs bytes f layout
unfolding header_of
open_by bytes f true short header layout p q e = absurd (let z : ⊥ = cc in z)
open_by bytes f false true header layout p q e = absurd (let z : ⊥ = cc in z)
open_by bytes f false false (Err fault) layout p q e = absurd (let z : ⊥ = cc in z)
open_by bytes f false false (Ok n) layout p q e =
    let facts = header_facts (bytes_eq (take 4 bytes) magic) (is_block_length (block_length_in bytes))
    (has_cut (block_length_in bytes) f.recorded) (Magic (take 4 bytes)) (BlockLength (block_length_in bytes))
    (BadLength f.recorded) (block_length_in bytes) n q in
    let first = first_part_facts bytes f n (is_none (part_at bytes (layout_of (opening_key f) f.recorded n) 0)) layout refl e in
    let is : layout ≡ layout_in bytes f =
    sym first.0 ∙ ap (layout_of (opening_key f) f.recorded) (sym facts.2) in
    record {
      is_layout = is;
      is_open = subst (λ l. IsOpen bytes l) (sym is) (record {
        long = ltb-false _ _ p;
        begins = (bytes_eq-Decides (take 4 bytes) magic).0 facts.0;
        block_length = refl;
        cut = facts.1;
        first_part = subst (λ l. IsSome (part_at bytes l 0)) is first.1;
      });
    }

pub open_as : (bytes : List ℕ) (f : Listed) (layout : Layout) → layout_from f (Some bytes) ≡ Ok layout
    → OpenAs bytes f layout
unfolding layout_from
open_as bytes f layout e = open_by bytes f (nat_lt f.recorded 36) (nat_lt (length bytes) f.recorded)
    (header_of bytes f.recorded) layout refl refl e

-- ---- blocks that are the committed ones

-- each part that is there over the found bytes is there over the committed ones
unfoldable pub HasParts : List ℕ → List ℕ → Listed → Type 0
HasParts found committed f = (i : ℕ) (part : List ℕ) → part_at found (layout_in found f) i ≡ Some part
    → (part_at committed (layout_in committed f) i ≡ Some part)
    × (cipher_block committed (layout_in committed f) i ≡ cipher_block found (layout_in found f) i)

below_of : (b : Bool) (i n : ℕ) (found : Option (List ℕ)) (part : List ℕ) → nat_lt i n ≡ b
    → (if b then found else None) ≡ Some part → i < n
below_of true i n found part p e = ltb-true _ _ p
below_of false i n found part p e = absurd (let z : ⊥ = cc in z)

part_below : (bytes : List ℕ) (layout : Layout) (i : ℕ) (part : List ℕ) → part_at bytes layout i ≡ Some part
    → i < blocks layout
unfolding part_at
part_below bytes layout i part e = below_of (nat_lt i (blocks layout)) i (blocks layout) _ part refl e

part_from : (bytes : List ℕ) (layout : Layout) (i : ℕ) (part : List ℕ) → i < blocks layout
    → opened_block layout.key layout.prefix i (cipher_block bytes layout i) ≡ Some part
    → part_at bytes layout i ≡ Some part
unfolding part_at
part_from bytes layout i part lt e = rw (lt-ltb _ _ lt) e

pub has_parts : (committed found : Objects) (meta : Fields) (ring : Ring) (table : Table) (listed : List Listed)
    (f : Listed) (object bytes : List ℕ) → IsTable committed meta ring table → IsInTable committed meta ring f
    → HasNoForeignBlock committed found meta ring listed → Contains listed f
    → object_at committed f.path ≡ Some object → object_at found f.path ≡ Some bytes
    → IsOpen bytes (layout_in bytes f) → HasParts bytes object f
unfolding HasParts
has_parts committed found meta ring table listed f object bytes table_is in_table none is_listed held_there held is_open i part e =
    let layout : Layout = layout_in bytes f in
    let opened : opened_block f.key f.prefix i (cipher_block bytes layout i) ≡ Some part = opened_part bytes layout i part e in
    let block : SealedBlock = sealed_at bytes layout i in
    let is_block : IsBlockOf found f i block = record {
      object = bytes;
      held = held;
      long = is_open.long;
      begins = is_open.begins;
      cut = is_open.cut;
      within = part_below bytes layout i part e;
      is = refl;
    } in
    let opens : Opens block = let some : IsSome (opened_block f.key f.prefix i (cipher_block bytes layout i)) = rw opened refl in some in
    let own = committed_is_own committed found meta ring table f i block table_is in_table is_block
    (none f i block is_listed is_block opens) in
    let both : Some own.object ≡ Some object = sym own.held ∙ held_there in
    let same : own.object ≡ object = cc in
    let bytes_are : cipher_block bytes layout i ≡ cipher_block object (layout_in object f) i =
    ap (λ b. b.bytes) own.is ∙ ap (λ o. cipher_block o (layout_in o f) i) same in
    let lt : i < blocks (layout_in object f) = subst (λ o. i < blocks (layout_in o f)) same own.within in (
      part_from object (layout_in object f) i part lt
          (ap (opened_block f.key f.prefix i) (sym bytes_are) ∙ opened),
      sym bytes_are,
    )

-- ---- the same cut, or one block

pub block_0_length : (bytes : List ℕ) (layout : Layout) → layout.recorded ≤ length bytes
    → length (cipher_block bytes layout 0) ≡ min (36 + layout.block_length) layout.recorded - 8
block_0_length bytes layout long = simp (length-take, length-drop) (omega (arith, long))

pub one_block : (B L : ℕ) → IsCut B L (block_count B L) → L ≤ 36 + B → block_count B L ≡ 1
one_block B L cut h =
    let some = cut.some_blocks in
    let room = cut.last_room in
    elim (cases_lt 1 (block_count B L)) [
      | inl more ↦ absurd (two (block_count B L - 1) (omega (arith, more)) room)
      | inr few ↦ omega (arith, few, some)
    ]
  where
    two : (n : ℕ) → 1 ≤ n → 8 + n * (B + 28) + 28 ≤ L → ⊥
    two zero p q = let z : ⊥ = omega (arith, p) in z
    two (suc n) p q = let z : ⊥ = grind (arith, h, q) in z

-- ---- contents

piece_known : (size : ℕ) (one two : Option (List ℕ)) → ((part : List ℕ) → one ≡ Some part → two ≡ Some part)
    → length (with_gaps size two) ≡ size → KnowsNoMore (with_gaps size one) (with_gaps size two)
piece_known size None two h e = knows_gaps size (with_gaps size two) e
piece_known size (Some part) two h e =
    subst (λ o. KnowsNoMore (map Some part) (with_gaps size o)) (sym (h part refl)) (knows_itself (map Some part))

pieces_known : (bytes object : List ℕ) (layout : Layout) (a n : ℕ)
    → ((i : ℕ) (part : List ℕ) → part_at bytes layout i ≡ Some part → part_at object layout i ≡ Some part)
    → ((i : ℕ) → a ≤ i → i < a + n → length (piece object layout i) ≡ part_length layout i)
    → KnowsNoMore (flat_map (λ i. with_gaps (part_length layout i) (part_at bytes layout i)) (range_with_len a n))
    (flat_map (λ i. with_gaps (part_length layout i) (part_at object layout i)) (range_with_len a n))
pieces_known bytes object layout a zero parts sizes = tt
pieces_known bytes object layout a (suc n) parts sizes =
    knows_append (piece bytes layout a) (piece object layout a) _ _
    (piece_known (part_length layout a) (part_at bytes layout a) (part_at object layout a) (parts a)
    (sizes a (omega arith) (omega arith)))
    (pieces_known bytes object layout (a + 1) n parts
    (λ i lo hi. sizes i (omega (arith, lo)) (omega (arith, hi))))

content_known : (bytes object : List ℕ) (layout : Layout) → IsOpen object layout
    → ((i : ℕ) (part : List ℕ) → part_at bytes layout i ≡ Some part → part_at object layout i ≡ Some part)
    → KnowsNoMore (content bytes layout) (content object layout)
unfolding content
content_known bytes object layout is_open parts =
    let cut = cut_facts _ _ is_open.cut in
    pieces_known bytes object layout 0 (blocks layout) parts
    (λ i lo hi. length-piece object layout i cut is_open.long (omega (arith, hi)))

cond_is : {A : Type 0} (b : Bool) (one two : A) (c : Bool) → b ≡ c → (if b then one else two) ≡ (if c then one else two)
cond_is b one two c e = ap (λ d. if d then one else two) e

-- what a reader may know of bytes with the same layout, where the last part of the others is there
read_known_same : (bytes object : List ℕ) (layout : Layout) → IsOpen bytes layout → IsOpen object layout
    → ((i : ℕ) (part : List ℕ) → part_at bytes layout i ≡ Some part → part_at object layout i ≡ Some part)
    → is_none (part_at object layout (blocks layout - 1)) ≡ false
    → KnowsNoMore (read_content bytes layout) (read_content object layout)
unfolding read_content
read_known_same bytes object layout open_bytes open_object parts last =
    let known = content_known bytes object layout open_object parts in
    let whole : read_content object layout ≡ content object layout =
    cond_is (is_none (part_at object layout (blocks layout - 1))) _ (content object layout) false last in
    subst (KnowsNoMore (read_content bytes layout)) (sym whole)
    (by_last (is_none (part_at bytes layout (blocks layout - 1))) refl known)
  where
    short : List (Option ℕ)
    short = take (plain_length layout - 1) (content bytes layout) ++ None ∷ []

    by_last : (none : Bool) → is_none (part_at bytes layout (blocks layout - 1)) ≡ none
        → KnowsNoMore (content bytes layout) (content object layout)
        → KnowsNoMore (read_content bytes layout) (content object layout)
    by_last false e known =
        let is : read_content bytes layout ≡ content bytes layout =
        cond_is (is_none (part_at bytes layout (blocks layout - 1))) _ (content bytes layout) false e in
        subst (λ k. KnowsNoMore k (content object layout)) (sym is) known
    by_last true e known =
        let is : read_content bytes layout ≡ short =
        cond_is (is_none (part_at bytes layout (blocks layout - 1))) _ (content bytes layout) true e in
        let size = length-content bytes layout open_bytes in
        let gap : List (Option ℕ) = None ∷ [] in
        let counted : length short ≡ length (take (plain_length layout - 1) (content bytes layout)) + 1 =
        length-append (take (plain_length layout - 1) (content bytes layout)) gap in
        let total : length short ≡ plain_length layout =
        ap length (sym is) ∙ length-read_content bytes layout open_bytes in
        let long : length (content bytes layout) ≡ suc (plain_length layout - 1) =
        omega (arith, size, counted, total) in
        subst (λ k. KnowsNoMore k (content object layout)) (sym is)
        (knows_last (content bytes layout) (content object layout) (plain_length layout - 1) long known)

-- a stream of one block is known whole where that opens
one_content : (bytes : List ℕ) (layout : Layout) (part : List ℕ) → blocks layout ≡ 1
    → part_at bytes layout 0 ≡ Some part → read_content bytes layout ≡ map Some part
unfolding read_content content
one_content bytes layout part n e = rw (n, e) (append-nil (map Some part))

-- ---- one file

-- the found bytes show no more than the committed ones
shows_no_more : (f : Listed) (bytes object text : List ℕ) → IsOpen bytes (layout_in bytes f)
    → IsOpen object (layout_in object f) → plaintext object (layout_in object f) ≡ Some text
    → HasParts bytes object f
    → KnowsNoMore (read_content bytes (layout_in bytes f)) (read_content object (layout_in object f))
unfolding HasParts
shows_no_more f bytes object text open_bytes open_object whole parts =
    by_first (part_at bytes (layout_in bytes f) 0) refl open_bytes.first_part
  where
    one : Layout
    one = layout_in bytes f

    two : Layout
    two = layout_in object f

    same_cut : block_length_in bytes ≡ block_length_in object
        → KnowsNoMore (read_content bytes (layout_in bytes f)) (read_content object (layout_in object f))
    same_cut e =
        let layouts : layout_in object f ≡ layout_in bytes f = ap (layout_of (opening_key f) f.recorded) (sym e) in
        let cut = cut_facts (block_length_in object) f.recorded open_object.cut in
        let all = all_known (part_at object (layout_in object f)) (part_length (layout_in object f)) 0
        (blocks (layout_in object f)) text whole in
        let some = cut.some_blocks in
        let last : is_none (part_at object (layout_in object f) (blocks (layout_in object f) - 1)) ≡ false =
        last_at (part_at object (layout_in object f)) (blocks (layout_in object f)) (all.last (omega (arith, some))) in
        let known = read_known_same bytes object (layout_in bytes f) open_bytes
        (subst (λ l. IsOpen object l) layouts open_object)
        (λ i part p. subst (λ l. part_at object l i ≡ Some part) layouts (parts i part p).0)
        (subst (λ l. is_none (part_at object l (blocks l - 1)) ≡ false) layouts last) in
        subst (λ l. KnowsNoMore (read_content bytes (layout_in bytes f)) (read_content object l)) (sym layouts) known

    by_first : (first : Option (List ℕ)) → part_at bytes (layout_in bytes f) 0 ≡ first → IsSome first
        → KnowsNoMore (read_content bytes (layout_in bytes f)) (read_content object (layout_in object f))
    by_first None e some = absurd (let z : ⊥ = cc in z)
    by_first (Some part) e some =
        let own = parts 0 part e in
        let long_one = block_0_length bytes (layout_in bytes f) open_bytes.long in
        let long_two = block_0_length object (layout_in object f) open_object.long in
        let size : length (cipher_block object (layout_in object f) 0) ≡ length (cipher_block bytes (layout_in bytes f) 0) =
        ap length own.1 in
        let cut_one = cut_facts (block_length_in bytes) f.recorded open_bytes.cut in
        let cut_two = cut_facts (block_length_in object) f.recorded open_object.cut in
        let room = cut_one.long in
        elim (cases_lt (36 + block_length_in bytes) f.recorded) [
          | inl short ↦ same_cut (let e : block_length_in bytes ≡ block_length_in object =
              omega (arith, size, long_one, long_two, short, room) in e)
          | inr whole_block ↦ (let other : f.recorded ≤ 36 + block_length_in object =
              omega (arith, size, long_one, long_two, whole_block, room) in
              let blocks_one = one_block (block_length_in bytes) f.recorded cut_one whole_block in
              let blocks_two = one_block (block_length_in object) f.recorded cut_two other in
              let is_one = one_content bytes (layout_in bytes f) part blocks_one e in
              let is_two = one_content object (layout_in object f) part blocks_two own.0 in
              rw (is_one, is_two) (knows_itself (map Some part)))
        ]

-- ---- all files

-- the committed file has a plaintext
pub record Committed (f : Listed) (held : Option (List ℕ)) (opening : Result Layout StreamFault) : Type 0 where
  pub object : List ℕ
  pub layout : Layout
  pub text : List ℕ
  pub is_held : held ≡ Some object
  pub opens : opening ≡ Ok layout
  pub plain : plaintext object layout ≡ Some text

text_of : (o : Option (List ℕ)) → IsSome o → (text : List ℕ) × (o ≡ Some text)
text_of None h = absurd (let z : ⊥ = cc in z)
text_of (Some text) h = (text, refl)

pub committed_of : (f : Listed) (held : Option (List ℕ)) (opening : Result Layout StreamFault)
    → IsSome (of_object plaintext held opening) → Committed f held opening
committed_of f None opening h = absurd (let z : ⊥ = cc in z)
committed_of f (Some object) (Err e) h = absurd (let z : ⊥ = cc in z)
committed_of f (Some object) (Ok layout) h =
    let text = text_of (plaintext object layout) h in
    record { object = object; layout = layout; text = text.0; is_held = refl; opens = refl; plain = text.1 }

see : List ℕ → Layout → Option (List (Option ℕ))
see bytes layout = Some (read_content bytes layout)

-- what is found of a file, by its object and how that opens
found_by : (committed found : Objects) (meta : Fields) (ring : Ring) (table : Table) (listed : List Listed) (f : Listed)
    (held : Option (List ℕ)) (opening : Result Layout StreamFault)
    → IsTable committed meta ring table → HasNoForeignBlock committed found meta ring listed → Contains listed f
    → IsInTable committed meta ring f → Committed f (object_at committed f.path) (opening_in committed f)
    → object_at found f.path ≡ held → opening ≡ layout_from f held
    → IsNoMore (of_object see held opening) (of_object see (object_at committed f.path) (opening_in committed f))
unfolding see
found_by committed found meta ring table listed f None opening t none is_in in_table own h o = tt
found_by committed found meta ring table listed f (Some bytes) (Err e) t none is_in in_table own h o = tt
found_by committed found meta ring table listed f (Some bytes) (Ok layout) t none is_in in_table own h o =
    let here = open_as bytes f layout (sym o) in
    let own_opening : layout_from f (Some own.object) ≡ Ok own.layout =
    ap (layout_from f) (sym own.is_held) ∙ sym (opening_is committed f) ∙ own.opens in
    let there = open_as own.object f own.layout own_opening in
    let open_bytes : IsOpen bytes (layout_in bytes f) = subst (λ l. IsOpen bytes l) here.is_layout here.is_open in
    let open_object : IsOpen own.object (layout_in own.object f) =
    subst (λ l. IsOpen own.object l) there.is_layout there.is_open in
    let parts = has_parts committed found meta ring table listed f own.object bytes t in_table none is_in
    own.is_held h open_bytes in
    let known = shows_no_more f bytes own.object own.text open_bytes open_object
    (subst (λ l. plaintext own.object l ≡ Some own.text) there.is_layout own.plain) parts in
    let seen : of_object see (object_at committed f.path) (opening_in committed f)
    ≡ Some (read_content own.object (layout_in own.object f)) =
    ap (λ p. of_object see p (opening_in committed f)) own.is_held
    ∙ ap (of_object see (Some own.object)) own.opens ∙ ap (λ l. Some (read_content own.object l)) there.is_layout in
    subst (IsNoMore (Some (read_content bytes layout))) (sym seen)
    (subst (λ l. KnowsNoMore (read_content bytes l) (read_content own.object (layout_in own.object f)))
    (sym here.is_layout) known)

pub no_foreign_shows_no_more : NoForeignShowsNoMore
unfolding see
no_foreign_shows_no_more committed found meta ring table listed t are_whole none =
    recursion_from_All (λ f. IsNoMore (shown_in found f) (shown_in committed f)) listed (λ k d lt.
    let f : Listed = get_or listed k d in
    let both = All-from_recursion (λ g. IsInTable committed meta ring g × IsSome (plaintexts_in committed g)) listed
    are_whole k d lt in
    found_by committed found meta ring table listed f (object_at found f.path) (opening_in found f) t none
    (Contains-get_or listed k d lt) both.0
    (committed_of f (object_at committed f.path) (opening_in committed f) both.1) refl (opening_is found f))
