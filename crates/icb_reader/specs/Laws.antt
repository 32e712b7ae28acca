-- Laws of readers of which less is known. Each is the contract of a function of `src/laws.rt`.
use Rattle.std.specs.Prelude.{◌≡◌, ℕ, ℤ, List, Option, Result}
use Rattle.icb_base.specs.declared.reading.ReadAt as reading
use Rattle.icb_container.specs.Known.{ForEachFile}
use Rattle.icb_container.specs.Less.{LessIsKnown, SayTheSame}
use Rattle.icb_fields.specs.Fields.{Row}
use Rattle.icb_reader.specs.declared.fault.RecordsFault.{RecordsFault}
use Rattle.icb_reader.specs.declared.records.Records.{Records}
use Rattle.icb_reader.specs.Answers.{OpensRecords, ReadsRecord, reading_of}
use Rattle.icb_reader.specs.Less.{said, with_reading}

-- Two readers: of `x` less is known than of `y`.
module _ {L M F G : Type 0} (less : reading.Ghosts L F) (more : reading.Ghosts M G) where
  -- what is answered of opening over less is an answer over more
  abbrev pub OpensOverMore : Type 0
  OpensOverMore = (x : L) (y : M) → LessIsKnown (less.content x) (more.content y)
      → (answer : Result Records (RecordsFault F))
      → ForEachFile (less.content x) (OpensRecords answer)
      → ForEachFile (more.content y) (OpensRecords answer)

  -- A call of opening over less says of the file what the call over more says, but where a fault of
  -- its reader or want of memory ended one of both.
  abbrev pub OpensAlike : Type 0
  OpensAlike = (x : L) (y : M) (all : List (Option ℕ)) → more.content y all
      → LessIsKnown (less.content x) (more.content y)
      → (r : Result Records (RecordsFault F)) (q : Result Records (RecordsFault G))
      → ForEachFile (less.content x) (OpensRecords r)
      → ForEachFile (more.content y) (OpensRecords q)
      → SayTheSame (said reading_of r) (said reading_of q)

-- The same two, over which records are made to something.
module _ {A L M F G : Type 0} (make : Row → Result A ℤ) (less : reading.Ghosts L F)
    (more : reading.Ghosts M G) where
  -- what is answered of the next record over less is an answer over more
  abbrev pub NextOverMore : Type 0
  NextOverMore = (x : L) (y : M) → LessIsKnown (less.content x) (more.content y)
      → (answer : Result (Option A) (RecordsFault F)) (old new : Records)
      → ForEachFile (less.content x) (ReadsRecord make answer old new)
      → ForEachFile (more.content y) (ReadsRecord make answer old new)

  -- A call for the next record says the same as one over more, likewise, where both stand at the
  -- same place before, and then again.
  abbrev pub NextAlike : Type 0
  NextAlike = (x : L) (y : M) (all : List (Option ℕ)) → more.content y all
      → LessIsKnown (less.content x) (more.content y)
      → (r : Result (Option A) (RecordsFault F)) (q : Result (Option A) (RecordsFault G))
      → (c d e f : Records) → reading_of c ≡ reading_of e
      → ForEachFile (less.content x) (ReadsRecord make r c d)
      → ForEachFile (more.content y) (ReadsRecord make q e f)
      → SayTheSame (said (with_reading d) r) (said (with_reading f) q)
