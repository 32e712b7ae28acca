-- Laws of the steps, and of readers of which less is known.
use Rattle.std.specs.Prelude.{◌≡◌, ℕ, List, Option, Some, Result, Ok}
use Rattle.icb_base.specs.declared.reading.ReadAt as reading
use Rattle.icb_container.specs.declared.block.Block.{Block}
use Rattle.icb_container.specs.declared.fault.ContainerFault.{ContainerFault}
use Rattle.icb_container.specs.Answers.{Counts, Opens, ReadsNext, Skips}
use Rattle.icb_container.specs.Blocks.{Part, State, count_of, next_of, skipped_of}
use Rattle.icb_container.specs.Known.{ForEachFile}
use Rattle.icb_container.specs.Less.{LessIsKnown, SayTheSame, said, with_state}
use Rattle.icb_container.specs.Opened.{Opened, state_of}

-- Where a block is read, passing over it gives its count and goes to the same place.
abbrev pub SkippingIsReading : Type 0
SkippingIsReading = (s t : State) (file : List ℕ) (part : Part)
    → next_of s file ≡ Ok (Some part, t) → skipped_of s file ≡ Ok (Some part.count, t)

-- Where a block is passed over, its count is told before it.
abbrev pub CountIsTold : Type 0
CountIsTold = (s t : State) (file : List ℕ) (count : ℕ)
    → skipped_of s file ≡ Ok (Some count, t) → count_of s file ≡ Ok (Some count, s)

-- Two readers: of `x` less is known than of `y`.
module _ {L M F G : Type 0} (less : reading.Ghosts L F) (more : reading.Ghosts M G) where
  -- ---- what is answered over less is an answer over more

  -- of opening
  abbrev pub OpensOverMore : Type 0
  OpensOverMore = (x : L) (y : M) → LessIsKnown (less.content x) (more.content y)
      → (answer : Result Opened (ContainerFault F))
      → ForEachFile (less.content x) (Opens answer) → ForEachFile (more.content y) (Opens answer)

  -- of the next block
  abbrev pub ReadsOverMore : Type 0
  ReadsOverMore = (x : L) (y : M) → LessIsKnown (less.content x) (more.content y)
      → (answer : Result (Option Block) (ContainerFault F)) (old new : Opened)
      → ForEachFile (less.content x) (ReadsNext answer old new)
      → ForEachFile (more.content y) (ReadsNext answer old new)

  -- of passing over a block
  abbrev pub SkipsOverMore : Type 0
  SkipsOverMore = (x : L) (y : M) → LessIsKnown (less.content x) (more.content y)
      → (answer : Result (Option ℕ) (ContainerFault F)) (old new : Opened)
      → ForEachFile (less.content x) (Skips answer old new)
      → ForEachFile (more.content y) (Skips answer old new)

  -- of telling a count
  abbrev pub CountsOverMore : Type 0
  CountsOverMore = (x : L) (y : M) → LessIsKnown (less.content x) (more.content y)
      → (answer : Result (Option ℕ) (ContainerFault F)) (c : Opened)
      → ForEachFile (less.content x) (Counts answer c)
      → ForEachFile (more.content y) (Counts answer c)

  -- ---- a call over less says of the file what the call over more says, but where a fault of its
  -- reader or want of memory ended one of both

  -- the container that is opened
  abbrev pub OpensAlike : Type 0
  OpensAlike = (x : L) (y : M) (all : List (Option ℕ)) → more.content y all
      → LessIsKnown (less.content x) (more.content y)
      → (r : Result Opened (ContainerFault F)) (q : Result Opened (ContainerFault G))
      → ForEachFile (less.content x) (Opens r) → ForEachFile (more.content y) (Opens q)
      → SayTheSame (said state_of r) (said state_of q)

  -- the next block, where both containers stand at the same place before, and then again
  abbrev pub ReadsAlike : Type 0
  ReadsAlike = (x : L) (y : M) (all : List (Option ℕ)) → more.content y all
      → LessIsKnown (less.content x) (more.content y)
      → (r : Result (Option Block) (ContainerFault F))
      → (q : Result (Option Block) (ContainerFault G))
      → (c d e f : Opened) → state_of c ≡ state_of e
      → ForEachFile (less.content x) (ReadsNext r c d)
      → ForEachFile (more.content y) (ReadsNext q e f)
      → SayTheSame (said (with_state d) r) (said (with_state f) q)

  -- the block that is passed over, likewise
  abbrev pub SkipsAlike : Type 0
  SkipsAlike = (x : L) (y : M) (all : List (Option ℕ)) → more.content y all
      → LessIsKnown (less.content x) (more.content y)
      → (r : Result (Option ℕ) (ContainerFault F)) (q : Result (Option ℕ) (ContainerFault G))
      → (c d e f : Opened) → state_of c ≡ state_of e
      → ForEachFile (less.content x) (Skips r c d)
      → ForEachFile (more.content y) (Skips q e f)
      → SayTheSame (said (with_state d) r) (said (with_state f) q)

  -- the count that is told
  abbrev pub CountsAlike : Type 0
  CountsAlike = (x : L) (y : M) (all : List (Option ℕ)) → more.content y all
      → LessIsKnown (less.content x) (more.content y)
      → (r : Result (Option ℕ) (ContainerFault F)) (q : Result (Option ℕ) (ContainerFault G))
      → (c e : Opened) → state_of c ≡ state_of e
      → ForEachFile (less.content x) (Counts r c)
      → ForEachFile (more.content y) (Counts q e)
      → SayTheSame (said (with_state c) r) (said (with_state e) q)
