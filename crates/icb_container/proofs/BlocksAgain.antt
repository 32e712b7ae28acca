-- Blocks that were written are read again, one by one.
use Rattle.std.proofs.Common.{◌≡◌, ℕ, zero, suc, ◌+◌, ◌-◌, ◌^◌, ◌<◌, ◌≤◌, eqb, true, false, List, [], ◌∷◌, ◌++◌, length, drop, Option, Some, None, Result, Ok, refl, sym, ap, subst, ◌∙◌, arith, append_assoc, length-append}
use Rattle.std.specs.Prelude.{pos}
use Rattle.std.specs.List.{AllZip, flat_map}
use Rattle.std.specs.Str.{bytes_eq}
use Rattle.std.proofs.lemmas.Bool.{eq-eqb, le-ltb, ne_eqb}
use Rattle.std.proofs.lemmas.List.{append-nil, drop_at, take_at}
use Rattle.std.proofs.lemmas.Slice.Eq.{bytes_eq-Decides}
use Rattle.icb_schema.specs.Shape.{Shape, arrays_take_bytes, shape, takes_bytes}
use Rattle.icb_avro.specs.declared.value.Value.{Value}
use Rattle.icb_avro.specs.Reading.{Read, items_at, value_at}
use Rattle.icb_avro.specs.Spelling.{SpellAll, Spells}
use Rattle.icb_avro.specs.Writing.{written_long}
use Rattle.icb_avro.proofs.Complete.{Again, long_again, value_again}
use Rattle.icb_avro.proofs.WrittenIsSpelled.{long_spells}
use Rattle.icb_container.specs.declared.block.Block.{Block}
use Rattle.icb_container.specs.Wrong.{Wrong, ◌>>=◌}
use Rattle.icb_container.specs.Blocks.{Head, Part, State, answered, behind, head_at, marked, max_block, natural_at, next_of, part_of, records_at}
use Rattle.icb_container.specs.Content.{blocks_of}
use Rattle.icb_container.specs.Written.{written_block}
use Rattle.icb_container.specs.Input.{AreRecords}
use Rattle.icb_container.proofs.TakesBytes.{records_take}

-- ---- records

pub items_again : {A : Type 0} (Spell : A → List ℕ → Type 0) (item : List ℕ → Read A) → Again Spell item → (xs : List A) (all more : List ℕ) → SpellAll Spell xs all → items_at item (length xs) (all ++ more) ≡ Ok (xs, more)
unfolding items_at
items_again Spell item again [] all more h = rw h refl
items_again Spell item again (x ∷ xs) all more h =
    let e : all ++ more ≡ h.0 ++ (h.1 ++ more) = ap (λ (t : List ℕ). t ++ more) h.2 ∙ append_assoc h.0 h.1 more in
    rw (e, again x h.0 (h.1 ++ more) h.3, items_again Spell item again xs h.1 more h.4) refl

-- ---- a block

natural_again : (end n : ℕ) (more : List ℕ) → n < 2 ^ 63 → natural_at end (written_long (pos n) ++ more) ≡ Ok (n, more)
unfolding natural_at
natural_again end n more h = rw (long_again (pos n) (written_long (pos n)) more (long_spells (pos n) (omega arith))) refl

abbrev head_given : Block → List ℕ → Head
head_given b more = record { count = b.count; size = length b.bytes; rest = b.bytes ++ more }

head_again : (end : ℕ) (b : Block) (more : List ℕ) → b.count ≤ length b.bytes → length b.bytes ≤ max_block → 16 ≤ length more
    → head_at end (written_long (pos b.count) ++ (written_long (pos (length b.bytes)) ++ (b.bytes ++ more))) ≡ Ok (head_given b more)
unfolding head_at
head_again end b more count size room =
    let a : length (b.bytes ++ more) ≡ length b.bytes + length more = length-append b.bytes more in
    rw (
      natural_again end b.count (written_long (pos (length b.bytes)) ++ (b.bytes ++ more)) (omega arith),
      natural_again end (length b.bytes) (b.bytes ++ more) (omega arith),
      le-ltb max_block (length b.bytes) size,
      le-ltb (length b.bytes) b.count count,
      le-ltb (length (b.bytes ++ more)) (length b.bytes + 16) (omega arith),
    ) refl

-- the block that is read
abbrev pub part_given : State → Block → List Value → Part
part_given s b records = record {
  first = s.first;
  count = b.count;
  place = s.place + (length (written_long (pos b.count)) + length (written_long (pos (length b.bytes))));
  bytes = b.bytes;
  records = records;
}

-- where a reader stands behind it
abbrev pub behind_given : State → Block → State
behind_given s b = record {
  schema = s.schema;
  marker = s.marker;
  place = s.place + length (written_block s.marker b);
  first = s.first + b.count;
  block = suc s.block;
}

same_bytes : (xs : List ℕ) → bytes_eq xs xs ≡ true
same_bytes xs = (bytes_eq-Decides xs xs).1 refl

-- the bytes are the records, and no byte more
data_again : (s : Shape) (b : Block) (records : List Value) → arrays_take_bytes s ≡ true → AreRecords s b records → items_at (value_at s) b.count b.bytes ≡ Ok (records, [])
data_again s b records arrays is =
    let read : items_at (value_at s) (length records) (b.bytes ++ []) ≡ Ok (records, []) = items_again (Spells s) (value_at s) (value_again s arrays) records b.bytes [] is.spelled in
    rw is.count (subst (λ (l : List ℕ). items_at (value_at s) (length records) l ≡ Ok (records, [])) (append-nil b.bytes) read)

-- the steps from a block's count on, in a file of `end` bytes
step_again : (s : State) (end : ℕ) (b : Block) (records : List Value) (rest : List ℕ) (p q : ℕ) → takes_bytes (shape s.schema) ≡ true → arrays_take_bytes (shape s.schema) ≡ true → length s.marker ≡ 16
    → AreRecords (shape s.schema) b records → end - length (b.bytes ++ (s.marker ++ rest)) ≡ p → p + length b.bytes + 16 ≡ q
    → (head_at end (written_long (pos b.count) ++ (written_long (pos (length b.bytes)) ++ (b.bytes ++ (s.marker ++ rest))))
    >>= (λ head. (records_at (shape s.schema) end head >>= (λ vs. marked s head (part_of s end head vs, behind s end head))) >>= answered))
    ≡ Ok (
      Some (record { first = s.first; count = b.count; place = p; bytes = b.bytes; records = records }),
      record { schema = s.schema; marker = s.marker; place = q; first = s.first + b.count; block = suc s.block },
    )
step_again s end b records rest p q takes arrays size is from to =
    let more : length records ≤ length b.bytes = records_take (shape s.schema) takes records b.bytes is.spelled in
    let a : length (s.marker ++ rest) ≡ length s.marker + length rest = length-append s.marker rest in
    let few : b.count ≤ length b.bytes = omega (arith, is.count) in
    rw (
      head_again end b (s.marker ++ rest) few is.within (omega arith),
      take_at b.bytes (s.marker ++ rest) (length b.bytes) refl,
      drop_at b.bytes (s.marker ++ rest) (length b.bytes) refl,
      take_at s.marker rest 16 size,
      data_again (shape s.schema) b records arrays is,
      same_bytes s.marker,
      from,
      to,
    ) refl

-- a step that isn't at the end of the file
goes_on : (s : State) (file all : List ℕ) (answer : Result (Option Part × State) Wrong) → eqb s.place (length file) ≡ false → drop s.place file ≡ all
    → (head_at (length file) all >>= (λ head. (records_at (shape s.schema) (length file) head >>= (λ vs. marked s head (part_of s (length file) head vs, behind s (length file) head))) >>= answered)) ≡ answer
    → next_of s file ≡ answer
unfolding next_of
goes_on s file all answer far from is = rw (far, from) is

block_parts : (marker : List ℕ) (b : Block) (rest : List ℕ) → written_block marker b ++ rest ≡ written_long (pos b.count) ++ (written_long (pos (length b.bytes)) ++ (b.bytes ++ (marker ++ rest)))
block_parts marker b rest =
    let count : List ℕ = written_long (pos b.count) in
    let number : List ℕ = written_long (pos (length b.bytes)) in
    append_assoc ((count ++ number) ++ b.bytes) marker rest ∙ append_assoc (count ++ number) b.bytes (marker ++ rest) ∙ append_assoc count number (b.bytes ++ (marker ++ rest))

block_size : (marker : List ℕ) (b : Block) → length (written_block marker b) ≡ length (written_long (pos b.count)) + length (written_long (pos (length b.bytes))) + length b.bytes + length marker
block_size marker b =
    let count : List ℕ = written_long (pos b.count) in
    let number : List ℕ = written_long (pos (length b.bytes)) in
    omega (arith, length-append ((count ++ number) ++ b.bytes) marker, length-append (count ++ number) b.bytes, length-append count number)

-- a reader before a block that was written reads it
pub next_again : (s : State) (file before : List ℕ) (b : Block) (records : List Value) (rest : List ℕ) → takes_bytes (shape s.schema) ≡ true → arrays_take_bytes (shape s.schema) ≡ true → length s.marker ≡ 16
    → file ≡ before ++ (written_block s.marker b ++ rest) → length before ≡ s.place → AreRecords (shape s.schema) b records → next_of s file ≡ Ok (Some (part_given s b records), behind_given s b)
next_again s file before b records rest takes arrays size whole place is =
    let count : List ℕ = written_long (pos b.count) in
    let number : List ℕ = written_long (pos (length b.bytes)) in
    let all : List ℕ = count ++ (number ++ (b.bytes ++ (s.marker ++ rest))) in
    let from : drop s.place file ≡ all = ap (drop s.place) whole ∙ drop_at before (written_block s.marker b ++ rest) s.place place ∙ block_parts s.marker b rest in
    let a : length file ≡ length before + length (written_block s.marker b ++ rest) = ap length whole ∙ length-append before (written_block s.marker b ++ rest) in
    let c : length (written_block s.marker b ++ rest) ≡ length (written_block s.marker b) + length rest = length-append (written_block s.marker b) rest in
    let d = block_size s.marker b in
    let e : length (b.bytes ++ (s.marker ++ rest)) ≡ length b.bytes + length (s.marker ++ rest) = length-append b.bytes (s.marker ++ rest) in
    let f : length (s.marker ++ rest) ≡ length s.marker + length rest = length-append s.marker rest in
    let far : eqb s.place (length file) ≡ false = ne_eqb s.place (length file) (λ same. omega arith) in
    goes_on s file all _ far from
    (step_again s (length file) b records rest (s.place + (length count + length number)) (s.place + length (written_block s.marker b)) takes arrays size is (omega arith) (omega arith))

-- ---- all blocks

-- the blocks that are read, one by one
abbrev pub parts_given : State → List Block → List (List Value) → List Part
parts_given s [] records = []
parts_given s (b ∷ blocks) [] = []
parts_given s (b ∷ blocks) (vs ∷ more) = part_given s b vs ∷ parts_given (behind_given s b) blocks more

-- at the end of the file there is no block
pub ends_again : (s : State) (file : List ℕ) → s.place ≡ length file → next_of s file ≡ Ok (None, s)
unfolding next_of
ends_again s file e = rw (eq-eqb s.place (length file) e) refl

pub blocks_again : (most : ℕ) (s : State) (file before : List ℕ) (blocks : List Block) (records : List (List Value)) → takes_bytes (shape s.schema) ≡ true → arrays_take_bytes (shape s.schema) ≡ true → length s.marker ≡ 16
    → file ≡ before ++ flat_map (written_block s.marker) blocks → length before ≡ s.place → length blocks < most → AllZip (AreRecords (shape s.schema)) blocks records
    → blocks_of most s file ≡ Ok (parts_given s blocks records)
unfolding blocks_of
blocks_again zero s file before blocks records takes arrays size whole place most are = absurd (let f : ⊥ = omega (arith, most) in f)
blocks_again (suc more) s file before [] [] takes arrays size whole place most are =
    let a : length file ≡ length before = ap length (whole ∙ append-nil before) in
    rw (ends_again s file (omega arith)) refl
blocks_again (suc more) s file before [] (vs ∷ records) takes arrays size whole place most are = absurd are
blocks_again (suc more) s file before (b ∷ blocks) [] takes arrays size whole place most are = absurd are
blocks_again (suc more) s file before (b ∷ blocks) (vs ∷ records) takes arrays size whole place most are =
    let rest : List ℕ = flat_map (written_block s.marker) blocks in
    let grown : file ≡ (before ++ written_block s.marker b) ++ rest = whole ∙ sym (append_assoc before (written_block s.marker b) rest) in
    let now : length (before ++ written_block s.marker b) ≡ s.place + length (written_block s.marker b) = length-append before (written_block s.marker b) ∙ ap (λ (n : ℕ). n + length (written_block s.marker b)) place in
    rw (
      next_again s file before b vs rest takes arrays size whole place are.0,
      blocks_again more (behind_given s b) file (before ++ written_block s.marker b) blocks records takes arrays size grown now (omega (arith, most)) are.1,
    ) refl

-- their records are those that were given
pub records_given : (s : State) (blocks : List Block) (records : List (List Value)) → AllZip (AreRecords (shape s.schema)) blocks records
    → flat_map (λ part. part.records) (parts_given s blocks records) ≡ flat_map (λ block. block) records
records_given s [] [] are = refl
records_given s [] (vs ∷ records) are = absurd are
records_given s (b ∷ blocks) [] are = absurd are
records_given s (b ∷ blocks) (vs ∷ records) are = ap (λ (more : List Value). vs ++ more) (records_given (behind_given s b) blocks records are.1)

-- each block takes a byte, its marker
pub blocks_take : (marker : List ℕ) (blocks : List Block) → length marker ≡ 16 → length blocks ≤ length (flat_map (written_block marker) blocks)
blocks_take marker [] size = omega arith
blocks_take marker (b ∷ blocks) size = omega (arith, size, blocks_take marker blocks size, block_size marker b, length-append (written_block marker b) (flat_map (written_block marker) blocks))
