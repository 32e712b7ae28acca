-- A block that was read into a stream's room has the part of the object.
use Rattle.std.proofs.Common.{◌≡◌, ℕ, ◌-◌, ◌<◌, ◌≤◌, List, ◌++◌, length, take, drop, Option, Some, None, Result, Ok, Err, refl, ap, sym, ◌∙◌, arith, length-drop}
use Rattle.std.specs.Prelude.{slice_range, IfSome}
use Rattle.std.proofs.lemmas.Bool.{lt-ltb, cond-true}
use Rattle.std.proofs.lemmas.List.{drop-append-le, take-append-le, take_at}
use Rattle.icb_base.specs.Objects.{Objects, object_at, part_of}
use Rattle.icb_seal.specs.Block.{opened_block}
use Rattle.icb_stream.specs.Belongs.{HeldBlock}
use Rattle.icb_stream.specs.Cut.{block_size, block_start, part_size}
use Rattle.icb_stream.specs.Layout.{Layout, blocks, part_at}
use Rattle.icb_stream.specs.Progress.{Loads, OpensTo}
use Rattle.icb_stream.specs.declared.fault.StreamFault.{StreamFault}
use Rattle.icb_stream.specs.declared.fault.StreamFault.TheVariants.{BadLength, Block, BlockLength, Magic, Missing, NoMemory, Short, Store}

-- what a fact on the object of a store gives, it gives there
pub of_object : (known : Option Objects) (path : List ℕ) (P Q : List ℕ → Type 0)
    → ((object : List ℕ) → P object → Q object)
    → IfSome known (λ files. IfSome (object_at files path) P)
    → IfSome known (λ files. IfSome (object_at files path) Q)
of_object None path P Q more h = tt
of_object (Some files) path P Q more h = by_object (object_at files path) h
  where
    by_object : (o : Option (List ℕ)) → IfSome o P → IfSome o Q
    by_object None p = tt
    by_object (Some object) p = more object p

-- the plaintext of a block that was opened in the front of a room
pub part_in_room : (block rest : List ℕ) (size : ℕ) → length block ≡ size → 28 ≤ size
    → take (size - 28) (drop 12 (block ++ rest)) ≡ slice_range block 12 (size - 16)
part_in_room block rest size e room =
    let n : size - 28 ≡ size - 16 - 12 = omega arith in
    ap (λ xs. take (size - 28) xs) (drop-append-le 12 block rest (omega (arith, e, room)))
    ∙ take-append-le (size - 28) (drop 12 block) rest (simp length-drop (omega (arith, e)))
    ∙ ap (λ m. take m (drop 12 block)) n

-- part i of an object is what its bytes at that place open to
part_is : (object : List ℕ) (layout : Layout) (i : ℕ) → i < blocks layout
    → part_at object layout i ≡ opened_block layout.key layout.prefix i
    (part_of (block_start layout.block_length i) (block_size layout.block_length layout.recorded i) object)
unfolding part_at
part_is object layout i lt = cond-true _ _ _ (lt-ltb i (blocks layout) lt)

-- what the opening in the room gives
abbrev pub OpensPart : Option Objects → List ℕ → Layout → ℕ → List ℕ → Result (Unit {0}) StreamFault → Type 0
OpensPart known path layout number plain r = IfSome known (λ files. IfSome (object_at files path)
    (λ object. layout.recorded ≤ length object → OpensTo (opened_block layout.key layout.prefix number
    (part_of (block_start layout.block_length number)
    (block_size layout.block_length layout.recorded number) object)) number plain r))

-- the block is held
pub loaded : (known : Option Objects) (path : List ℕ) (layout : Layout) (number : ℕ) (room seen rest : List ℕ)
    (len : ℕ) → number < blocks layout → seen ≡ take len (room ++ rest) → length room ≡ len
    → OpensPart known path layout number
    (take (part_size layout.block_length layout.recorded number) (drop 12 room)) (Ok tt)
    → IfSome known (λ files. IfSome (object_at files path) (λ object. layout.recorded ≤ length object
    → Loads object layout number (Some (record {
      number = number;
      part = take (part_size layout.block_length layout.recorded number) (drop 12 seen);
    })) (Ok tt)))
loaded known path layout number room seen rest len lt e size =
    let same : seen ≡ room = e ∙ take_at room rest len size in
    of_object known path _ _ (λ object h long. (
      refl,
      part_is object layout number lt ∙ h long
          ∙ ap (λ xs. Some (take (part_size layout.block_length layout.recorded number) (drop 12 xs))) (sym same),
    ))

-- or it isn't
pub load_refused : (known : Option Objects) (path : List ℕ) (layout : Layout) (number : ℕ) (plain : List ℕ)
    (now : Option HeldBlock) (fault : StreamFault) → number < blocks layout
    → OpensPart known path layout number plain (Err fault)
    → IfSome known (λ files. IfSome (object_at files path) (λ object. layout.recorded ≤ length object
    → Loads object layout number now (Err fault)))
load_refused known path layout number plain now fault lt =
    of_object known path _ _ (λ object h long. by_fault object fault (h long))
  where
    by_fault : (object : List ℕ) (f : StreamFault)
        → OpensTo (opened_block layout.key layout.prefix number
        (part_of (block_start layout.block_length number)
        (block_size layout.block_length layout.recorded number) object)) number plain (Err f)
        → Loads object layout number now (Err f)
    by_fault object (Block other) (name, none) = (name, part_is object layout number lt ∙ none)
    by_fault object Store h = tt
    by_fault object (BadLength n) h = absurd h
    by_fault object Missing h = absurd h
    by_fault object (Short n) h = absurd h
    by_fault object (Magic found) h = absurd h
    by_fault object (BlockLength n) h = absurd h
    by_fault object NoMemory h = absurd h
