-- Where a file that found objects refuse differs from the committed one.
use Rattle.std.specs.Prelude.{◌≡◌, ◌≢◌, ℕ, zero, suc, ◌+◌, ◌-◌, ◌<◌, ◌≤◌, not, nat_lt, Bool, true, false, bytes_eq, List, ◌++◌, length, map, take, slice_range, Option, Some, None, is_none, IfSome, IsSome, IsSomeAnd, Result, Ok, Err, if◌then◌else◌}
use Rattle.std.specs.Int.{w32, from_le_bytes}
use Rattle.std.specs.List.{Contains, range_with_len}
use Rattle.std.specs.Option.{option_and_then, option_map}
use Rattle.std.proofs.Common.{refl, ap, ◌∙◌, sym, subst, arith, drop, inl, inr, take-take}
use Rattle.std.proofs.lemmas.Bool.{cases_lt, ltb-false, ltb-true}
use Rattle.icb_base.specs.Objects.{Objects, object_at}
use Rattle.icb_chain.specs.Ring.{Ring}
use Rattle.icb_meta.specs.declared.fields.Fields.{Fields}
use Rattle.icb_seal.specs.Block.{opened_block}
use Rattle.icb_stream.specs.Content.{joined, plaintext}
use Rattle.icb_stream.specs.Cut.{block_end, block_start, has_cut, is_block_length}
use Rattle.icb_stream.specs.Layout.{Layout, blocks, cipher_block, part_at}
use Rattle.icb_stream.specs.Opening.{IsOpen, block_length_in, first_part_of, header_of, layout_of, magic}
use Rattle.icb_stream.specs.declared.fault.StreamFault.{StreamFault}
use Rattle.icb_stream.specs.declared.fault.StreamFault.TheVariants.{BadLength, Block, BlockLength, Magic, Missing, Short}
use Rattle.icb_stream.proofs.ContentLemmas.{range_of_front}
use Rattle.icb_stream.proofs.CutLemmas.{cut_facts}
use Rattle.icb_table.specs.Contents.{opening_in, opening_key}
use Rattle.icb_table.specs.Differing.{Differs, DiffersAt, counted_bytes}
use Rattle.icb_table.specs.Foreign.{HasNoForeignBlock, layout_in}
use Rattle.icb_table.specs.Laws.{BlocksDiffer, OpeningsDiffer}
use Rattle.icb_table.specs.Listed.{Listed}
use Rattle.icb_table.specs.Table.{IsInTable, IsTable, Table}
use Rattle.icb_table.proofs.KnownLemmas.{layout_from, opening_is}
use Rattle.icb_table.proofs.ReductionLemmas.{Committed, HasParts, block_0_length, committed_of, has_parts, header_facts, one_block, open_as}

-- ---- the parts of a text that is there

-- the first part is there
first_there : (first rest : Option (List ℕ)) (text : List ℕ) → first ≡ None
    → option_and_then (λ bytes. option_map (λ more. bytes ++ more) rest) first ≡ Some text → ⊥
first_there None rest text none e = let never : ⊥ = cc in never
first_there (Some part) rest text none e = let never : ⊥ = cc in never

-- and so are the others
others_there : (first rest : Option (List ℕ)) (text : List ℕ)
    → option_and_then (λ bytes. option_map (λ more. bytes ++ more) rest) first ≡ Some text
    → (more : List ℕ) × (rest ≡ Some more)
others_there None rest text e = absurd (let never : ⊥ = cc in never)
others_there (Some part) None text e = absurd (let never : ⊥ = cc in never)
others_there (Some part) (Some more) text e = (more, refl)

-- where all parts are joined each is there
pub each_there : (parts : ℕ → Option (List ℕ)) (a n k : ℕ) (text : List ℕ)
    → joined (map parts (range_with_len a n)) ≡ Some text → k < n → parts (a + k) ≡ None → ⊥
each_there parts a zero k text e h none = let never : ⊥ = omega (arith, h) in never
each_there parts a (suc n) zero text e h none =
    let same : a + 0 ≡ a = omega arith in
    first_there (parts a) (joined (map parts (range_with_len (a + 1) n))) text (subst (λ (j : ℕ). parts j ≡ None) same none) e
each_there parts a (suc n) (suc k) text e h none =
    let rest = others_there (parts a) (joined (map parts (range_with_len (a + 1) n))) text e in
    let same : a + suc k ≡ a + 1 + k = omega arith in
    each_there parts (a + 1) n k rest.0 rest.1 (omega (arith, h)) (subst (λ (j : ℕ). parts j ≡ None) same none)

-- ---- bytes that begin with the same

front_is : (bytes : List ℕ) (n : ℕ) → slice_range bytes 0 n ≡ take n bytes
front_is bytes n = let same : n - 0 ≡ n = omega arith in ap (λ (k : ℕ). take k (drop 0 bytes)) same

magic_same : (n : ℕ) (one two : List ℕ) → 8 ≤ n → take n one ≡ take n two → take 4 one ≡ take 4 two
magic_same n one two h e = sym (take-take 4 n one (omega (arith, h))) ∙ ap (take 4) e ∙ take-take 4 n two (omega (arith, h))

block_length_same : (n : ℕ) (one two : List ℕ) → 8 ≤ n → take n one ≡ take n two → block_length_in one ≡ block_length_in two
unfolding block_length_in
block_length_same n one two h e =
    ap (from_le_bytes w32) (sym (range_of_front one 4 8 n h) ∙ ap (λ (bytes : List ℕ). slice_range bytes 4 8) e ∙ range_of_front two 4 8 n h)

part_same : (one two : List ℕ) (layout : Layout) (i : ℕ) → cipher_block one layout i ≡ cipher_block two layout i → part_at one layout i ≡ part_at two layout i
unfolding part_at
part_same one two layout i e = ap (λ (block : List ℕ). if nat_lt i (blocks layout) then opened_block layout.key layout.prefix i block else None) e

header_same : (one two : List ℕ) (recorded : ℕ) → take 4 one ≡ take 4 two → block_length_in one ≡ block_length_in two → header_of one recorded ≡ header_of two recorded
unfolding header_of
header_same one two recorded front size =
    ap (λ (four : List ℕ). if not (bytes_eq four magic) then Err (Magic four) else
    (if not (is_block_length (block_length_in one)) then Err (BlockLength (block_length_in one)) else
    (if not (has_cut (block_length_in one) recorded) then Err (BadLength recorded) else Ok (block_length_in one)))) front
    ∙ ap (λ (n : ℕ). if not (bytes_eq (take 4 two) magic) then Err (Magic (take 4 two)) else
    (if not (is_block_length n) then Err (BlockLength n) else
    (if not (has_cut n recorded) then Err (BadLength recorded) else Ok n))) size

first_part_same : (f : Listed) (one two : List ℕ) (header : Result ℕ StreamFault)
    → ((n : ℕ) → header ≡ Ok n → part_at one (layout_of (opening_key f) f.recorded n) 0 ≡ part_at two (layout_of (opening_key f) f.recorded n) 0)
    → first_part_of one (opening_key f) f.recorded header ≡ first_part_of two (opening_key f) f.recorded header
first_part_same f one two (Err e) h = refl
first_part_same f one two (Ok n) h =
    ap (λ (part : Option (List ℕ)). (let r : Result Layout StreamFault = if is_none part then Err (Block 0) else Ok (layout_of (opening_key f) f.recorded n) in r)) (h n refl)

header_says : (bytes : List ℕ) (recorded n : ℕ) → header_of bytes recorded ≡ Ok n → block_length_in bytes ≡ n
unfolding header_of
header_says bytes recorded n e =
    (header_facts (bytes_eq (take 4 bytes) magic) (is_block_length (block_length_in bytes)) (has_cut (block_length_in bytes) recorded)
    (Magic (take 4 bytes)) (BlockLength (block_length_in bytes)) (BadLength recorded) (block_length_in bytes) n e).2

-- bytes that are the same as far as they count with block 0 open the same
opens_same : (f : Listed) (one two : List ℕ) → 36 ≤ f.recorded → counted_bytes one (layout_in two f) 0 ≡ counted_bytes two (layout_in two f) 0
    → first_part_of one (opening_key f) f.recorded (header_of one f.recorded) ≡ first_part_of two (opening_key f) f.recorded (header_of two f.recorded)
opens_same f one two long same =
    let end : ℕ = block_end (block_length_in two) f.recorded 0 in
    let start : ℕ = block_start (block_length_in two) 0 in
    let room : 8 ≤ end = omega (arith, long) in
    let fronts : take end one ≡ take end two = sym (front_is one end) ∙ same ∙ front_is two end in
    ap (first_part_of one (opening_key f) f.recorded)
    (header_same one two f.recorded (magic_same end one two room fronts) (block_length_same end one two room fronts))
    ∙ first_part_same f one two (header_of two f.recorded) (λ n is.
    subst (λ (m : ℕ). part_at one (layout_of (opening_key f) f.recorded m) 0 ≡ part_at two (layout_of (opening_key f) f.recorded m) 0) (header_says two f.recorded n is)
    (part_same one two (layout_in two f) 0
    (sym (range_of_front one start end end (omega arith)) ∙ ap (λ (bytes : List ℕ). slice_range bytes start end) fronts ∙ range_of_front two start end end (omega arith))))

-- ---- openings

-- the tests of an opening that were passed
passed_tests : (low short : Bool) (recorded size : ℕ) (rest : Result Layout StreamFault) (layout : Layout)
    → (if low then Err (BadLength recorded) else (if short then Err (Short size) else rest)) ≡ Ok layout → (low ≡ false) × (rest ≡ Ok layout)
passed_tests true short recorded size rest layout e = absurd (let never : ⊥ = cc in never)
passed_tests false true recorded size rest layout e = absurd (let never : ⊥ = cc in never)
passed_tests false false recorded size rest layout e = (refl, e)

opened_tests : (f : Listed) (object : List ℕ) (layout : Layout) → layout_from f (Some object) ≡ Ok layout
    → (nat_lt f.recorded 36 ≡ false) × (first_part_of object (opening_key f) f.recorded (header_of object f.recorded) ≡ Ok layout)
unfolding layout_from
opened_tests f object layout e =
    passed_tests (nat_lt f.recorded 36) (nat_lt (length object) f.recorded) f.recorded (length object)
    (first_part_of object (opening_key f) f.recorded (header_of object f.recorded)) layout e

module _ (committed found : Objects) (f : Listed) (own : Committed f (object_at committed f.path) (opening_in committed f)) where
  own_opening : layout_from f (Some own.object) ≡ Ok own.layout
  own_opening = ap (layout_from f) (sym own.is_held) ∙ sym (opening_is committed f) ∙ own.opens

  own_open : IsOpen own.object (layout_in own.object f)
  own_open = let there = open_as own.object f own.layout own_opening in subst (λ (l : Layout). IsOpen own.object l) there.is_layout there.is_open

  own_plain : plaintext own.object (layout_in own.object f) ≡ Some own.text
  own_plain = let there = open_as own.object f own.layout own_opening in subst (λ (l : Layout). plaintext own.object l ≡ Some own.text) there.is_layout own.plain

  -- where the header is refused, or block 0, it is block 0 that differs
  differs_first : (bytes : List ℕ) (e : StreamFault) → object_at found f.path ≡ Some bytes
      → first_part_of bytes (opening_key f) f.recorded (header_of bytes f.recorded) ≡ Err e → DiffersAt committed found f 0
  differs_first bytes e held refused = record {
    object = own.object;
    held = own.is_held;
    within = let some = (cut_facts (block_length_in own.object) f.recorded own_open.cut).some_blocks in omega (arith, some);
    differs = subst (λ (o : Option (List ℕ)). IfSome o (λ b. counted_bytes b (layout_in own.object f) 0 ≢ counted_bytes own.object (layout_in own.object f) 0)) (sym held) (λ same.
        let tests = opened_tests f own.object own.layout own_opening in
        let both = opens_same f bytes own.object (ltb-false _ _ tests.0) same in
        let never : ⊥ = cc in never);
  }

  header_refused : (a b c : Bool) (front : List ℕ) (n m : ℕ) (e : StreamFault) → DiffersAt committed found f 0
      → (let r : Result ℕ StreamFault = if not a then Err (Magic front) else (if not b then Err (BlockLength n) else (if not c then Err (BadLength f.recorded) else Ok m)) in r) ≡ Err e
      → Differs committed found f e
  header_refused false b c front n m e d h = let is : Magic front ≡ e = cc in subst (Differs committed found f) is d
  header_refused true false c front n m e d h = let is : BlockLength n ≡ e = cc in subst (Differs committed found f) is d
  header_refused true true false front n m e d h = let is : BadLength f.recorded ≡ e = cc in subst (Differs committed found f) is d
  header_refused true true true front n m e d h = absurd (let never : ⊥ = cc in never)

  block_refused : (none : Bool) (layout : Layout) (e : StreamFault) → DiffersAt committed found f 0
      → (let r : Result Layout StreamFault = if none then Err (Block 0) else Ok layout in r) ≡ Err e → Differs committed found f e
  block_refused true layout e d h = let is : Block 0 ≡ e = cc in subst (Differs committed found f) is d
  block_refused false layout e d h = absurd (let never : ⊥ = cc in never)

  refused_by_header : (bytes : List ℕ) (header : Result ℕ StreamFault) (e : StreamFault) → header_of bytes f.recorded ≡ header → DiffersAt committed found f 0
      → first_part_of bytes (opening_key f) f.recorded header ≡ Err e → Differs committed found f e
  unfolding header_of
  refused_by_header bytes (Err fault) e is d h =
      let same : (let r : Result ℕ StreamFault = Err fault in r) ≡ Err e = cc in
      header_refused (bytes_eq (take 4 bytes) magic) (is_block_length (block_length_in bytes)) (has_cut (block_length_in bytes) f.recorded)
      (take 4 bytes) (block_length_in bytes) (block_length_in bytes) e d (is ∙ same)
  refused_by_header bytes (Ok n) e is d h =
      block_refused (is_none (part_at bytes (layout_of (opening_key f) f.recorded n) 0)) (layout_of (opening_key f) f.recorded n) e d h

  held_differs : (bytes : List ℕ) (e : StreamFault) (short : Bool) → object_at found f.path ≡ Some bytes → nat_lt (length bytes) f.recorded ≡ short
      → (if short then Err (Short (length bytes)) else first_part_of bytes (opening_key f) f.recorded (header_of bytes f.recorded)) ≡ Err e
      → Differs committed found f e
  held_differs bytes e true held is h =
      let told : Short (length bytes) ≡ e = cc in
      subst (Differs committed found f) told (subst (λ (o : Option (List ℕ)). IsSomeAnd o (λ b. (length bytes ≡ length b) × (length bytes < f.recorded))) (sym held) (refl, ltb-true _ _ is))
  held_differs bytes e false held is h =
      refused_by_header bytes (header_of bytes f.recorded) e refl (differs_first bytes e held h) h

  found_differs : (low : Bool) (held : Option (List ℕ)) (e : StreamFault) → nat_lt f.recorded 36 ≡ low → object_at found f.path ≡ held → layout_from f held ≡ Err e
      → Differs committed found f e
  unfolding layout_from
  found_differs true held e is there h = absurd (let tests = opened_tests f own.object own.layout own_opening in let never : ⊥ = cc in never)
  found_differs false None e is there h =
      let missing : (let r : Result Layout StreamFault = Err Missing in r) ≡ Err e = rw is at h in
      let told : Missing ≡ e = cc in
      subst (Differs committed found f) told there
  found_differs false (Some bytes) e is there h =
      held_differs bytes e (nat_lt (length bytes) f.recorded) there refl (rw is at h)

pub openings_differ : OpeningsDiffer
openings_differ committed found f e there h =
    found_differs committed found f (committed_of f (object_at committed f.path) (opening_in committed f) there)
    (nat_lt f.recorded 36) (object_at found f.path) e refl refl (sym (opening_is found f) ∙ h)

-- ---- blocks

-- where both are cut the same the block differs
same_cut_differs : (committed found : Objects) (f : Listed) (own : Committed f (object_at committed f.path) (opening_in committed f)) (bytes : List ℕ) (i : ℕ)
    → object_at found f.path ≡ Some bytes → block_length_in bytes ≡ block_length_in own.object → suc i < blocks (layout_in bytes f)
    → part_at bytes (layout_in bytes f) (suc i) ≡ None → DiffersAt committed found f (suc i)
same_cut_differs committed found f own bytes i held e within gone =
    let L : Layout = layout_in own.object f in
    let layouts : layout_in bytes f ≡ L = ap (layout_of (opening_key f) f.recorded) e in
    let inside : suc i < blocks L = subst (λ (l : Layout). suc i < blocks l) layouts within in
    let none : part_at bytes L (suc i) ≡ None = subst (λ (l : Layout). part_at bytes l (suc i) ≡ None) layouts gone in
    record {
      object = own.object;
      held = own.is_held;
      within = inside;
      differs = subst (λ (o : Option (List ℕ)). IfSome o (λ b. counted_bytes b L (suc i) ≢ counted_bytes own.object L (suc i))) (sym held) (λ same.
          let at : 0 + suc i ≡ suc i = omega arith in
          each_there (part_at own.object L) 0 (blocks L) (suc i) own.text (own_plain committed found f own) inside
          (ap (part_at own.object L) at ∙ sym (part_same bytes own.object L (suc i) same) ∙ none));
    }

some_part : (part : Option (List ℕ)) → IsSome part → part ≡ None → ⊥
some_part part some none = let never : ⊥ = cc in never

block_differs : (committed found : Objects) (meta : Fields) (ring : Ring) (table : Table) (listed : List Listed) (f : Listed)
    (own : Committed f (object_at committed f.path) (opening_in committed f)) (bytes : List ℕ) (number : ℕ)
    → IsTable committed meta ring table → HasNoForeignBlock committed found meta ring listed → Contains listed f → IsInTable committed meta ring f
    → object_at found f.path ≡ Some bytes → IsOpen bytes (layout_in bytes f) → (first : Option (List ℕ)) → part_at bytes (layout_in bytes f) 0 ≡ first
    → number < blocks (layout_in bytes f) → part_at bytes (layout_in bytes f) number ≡ None → DiffersAt committed found f number
unfolding HasParts
block_differs committed found meta ring table listed f own bytes zero t none is_in in_table held is_open first e within gone =
    absurd (some_part (part_at bytes (layout_in bytes f) 0) is_open.first_part gone)
block_differs committed found meta ring table listed f own bytes (suc i) t none is_in in_table held is_open None e within gone =
    absurd (some_part (part_at bytes (layout_in bytes f) 0) is_open.first_part e)
block_differs committed found meta ring table listed f own bytes (suc i) t none is_in in_table held is_open (Some part) e within gone =
    let open_own = own_open committed found f own in
    let parts = has_parts committed found meta ring table listed f own.object bytes t in_table none is_in own.is_held held is_open in
    let same = (parts 0 part e).1 in
    let long_one = block_0_length bytes (layout_in bytes f) is_open.long in
    let long_two = block_0_length own.object (layout_in own.object f) open_own.long in
    let size : length (cipher_block own.object (layout_in own.object f) 0) ≡ length (cipher_block bytes (layout_in bytes f) 0) = ap length same in
    let cut = cut_facts (block_length_in bytes) f.recorded is_open.cut in
    let room = cut.long in
    elim (cases_lt (36 + block_length_in bytes) f.recorded) [
      | inl short ↦ same_cut_differs committed found f own bytes i held
          (let lengths : block_length_in bytes ≡ block_length_in own.object = omega (arith, size, long_one, long_two, short, room) in lengths) within gone
      | inr whole_block ↦ absurd (let one = one_block (block_length_in bytes) f.recorded cut whole_block in let never : ⊥ = omega (arith, one, within) in never)
    ]

pub blocks_differ : BlocksDiffer
blocks_differ committed found meta ring table listed f bytes layout number t none is_in in_table there held opens within gone =
    let here = open_as bytes f layout (ap (layout_from f) (sym held) ∙ sym (opening_is found f) ∙ opens) in
    block_differs committed found meta ring table listed f (committed_of f (object_at committed f.path) (opening_in committed f) there) bytes number
    t none is_in in_table held (subst (λ (l : Layout). IsOpen bytes l) here.is_layout here.is_open)
    (part_at bytes (layout_in bytes f) 0) refl (subst (λ (l : Layout). number < blocks l) here.is_layout within)
    (subst (λ (l : Layout). part_at bytes l number ≡ None) here.is_layout gone)
