-- The laws of the shared words. Their proofs are in `proofs/LawLemmas.antt` and
-- `proofs/CallLemmas.antt`, which crates above cite.
use Rattle.std.specs.Prelude.{ℕ, ◌+◌, ◌≤◌, ◌≡◌, Bool, IsTrue, List, [], ◌++◌, length, take, drop}
use Rattle.std.specs.Prelude.{Option, None}
use Rattle.icb_base.specs.Calls.{DrawsText, PutsPath, ReadsPath, TakesText, WritesText}
use Rattle.icb_base.specs.Causes.{Blames, Rose}
use Rattle.icb_base.specs.Contents.{FillsKnown, HasPart, KnowsNoMore}
use Rattle.icb_base.specs.Counts.{CountsOnly, IsRaised, MayBeRaised}
use Rattle.icb_base.specs.Objects.{Grows, Objects, object_at, with_object}
use Rattle.icb_base.specs.Transfers.{WroteFront}
use Rattle.icb_base.specs.declared.storage.Store as store
use Rattle.icb_base.specs.declared.transfer.Draws as draws
use Rattle.icb_base.specs.declared.transfer.Sink as sink
use Rattle.icb_base.specs.declared.transfer.Source as source

-- a count that rose late in a call rose in the call
abbrev pub RoseSince : Type 0
RoseSince = (before mid now : ℕ) → before ≤ mid → Rose mid now → Rose before now

-- a count that stays is blamed on no fault
abbrev pub BlamesAtRest : Type 0
BlamesAtRest = (count : ℕ) → Blames ⊥ count count

-- a fault of the second of two calls, where the first one had none, is the fault of both
abbrev pub BlamesTwice : Type 0
BlamesTwice = (fault : Bool) (before mid now : ℕ) → Blames ⊥ before mid
    → Blames (IsTrue fault) mid now → Blames (IsTrue fault) before now

-- a store that did nothing only grew
abbrev pub GrowsAtRest : Type 0
GrowsAtRest = (files : Objects) → Grows files files

-- a store that only grew twice only grew
abbrev pub GrowsTwice : Type 0
GrowsTwice = (before mid now : Objects) → Grows before mid → Grows mid now → Grows before now

-- a put where nothing was held lets a store grow
abbrev pub PutGrows : Type 0
PutGrows = (files : Objects) (path bytes : List ℕ) → object_at files path ≡ None
    → Grows files (with_object files path bytes)

-- a call that raised one path's number counted on that path only
abbrev pub RaisedOnly : Type 0
RaisedOnly = (files : Objects) (path : List ℕ) (more : ℕ) (before now : List ℕ → ℕ)
    → IsRaised files path more before now → CountsOnly path more before now

-- and so did a call that may have raised it
abbrev pub MayRaiseOnly : Type 0
MayRaiseOnly = (files : Objects) (path : List ℕ) (most : ℕ) (before now : List ℕ → ℕ)
    → MayBeRaised files path most before now → CountsOnly path most before now

-- no call counts on a path only
abbrev pub CountedAtRest : Type 0
CountedAtRest =
    (path : List ℕ) (most : ℕ) (counts : List ℕ → ℕ) → CountsOnly path most counts counts

-- calls on one path twice are calls on that path only
abbrev pub CountedTwice : Type 0
CountedTwice = (path : List ℕ) (m n : ℕ) (before mid now : List ℕ → ℕ)
    → CountsOnly path m before mid → CountsOnly path n mid now → CountsOnly path (m + n) before now

-- a front of the second text behind the whole first one is a front of both
abbrev pub FrontsJoin : Type 0
FrontsJoin = (now : Option (List ℕ)) (before first second : List ℕ)
    → WroteFront now (before ++ first) second → WroteFront now before (first ++ second)

-- a file that fills what is known has as many bytes as places are spoken of
abbrev pub FilledHasLength : Type 0
FilledHasLength = (known : List (Option ℕ)) (file : List ℕ) → FillsKnown known file
    → length known ≡ length file

-- and each part that was read is the file's part
abbrev pub FilledHasPart : Type 0
FilledHasPart = (known : List (Option ℕ)) (file part : List ℕ) (at : ℕ) → FillsKnown known file
    → HasPart known at part → part ≡ take (length part) (drop at file)

-- what fills all that is known fills less of it
abbrev pub FillsLess : Type 0
FillsLess = (known all : List (Option ℕ)) (file : List ℕ) → KnowsNoMore known all
    → FillsKnown all file → FillsKnown known file

-- what is known is known of itself
abbrev pub KnowsItself : Type 0
KnowsItself = (known : List (Option ℕ)) → KnowsNoMore known known

-- what knows no more than something that knows no more than a third knows no more than the third
abbrev pub KnowsThrough : Type 0
KnowsThrough = (known more all : List (Option ℕ)) → KnowsNoMore known more → KnowsNoMore more all
    → KnowsNoMore known all

-- no call reads any path, where the store keeps what it keeps at rest
abbrev pub ReadsAtRest : {Self : Type 0} → store.Ghosts Self → Type 0
ReadsAtRest {Self} of = (path : List ℕ) (calls bytes : ℕ) (x : Self) → of.keeps x x
    → ReadsPath of path calls bytes ⊥ x x

-- calls that read a path, and then more calls that read it, read it
abbrev pub ReadsTwice : {Self : Type 0} → store.Ghosts Self → Type 0
ReadsTwice {Self} of = (path : List ℕ) (m n k l : ℕ) (fault : Bool) (x y z : Self)
    → (of.keeps x y → of.keeps y z → of.keeps x z) → ReadsPath of path m k ⊥ x y
    → ReadsPath of path n l (IsTrue fault) y z
    → ReadsPath of path (m + n) (k + l) (IsTrue fault) x z

-- calls that read a path read it under wider bounds
abbrev pub ReadsWithin : {Self : Type 0} → store.Ghosts Self → Type 0
ReadsWithin {Self} of = (path : List ℕ) (m n k l : ℕ) (fault : Bool) (x y : Self) → m ≤ n → k ≤ l
    → ReadsPath of path m k (IsTrue fault) x y → ReadsPath of path n l (IsTrue fault) x y

-- no call puts nothing, where the store keeps what it keeps at rest
abbrev pub PutsAtRest : {Self : Type 0} → store.Ghosts Self → Type 0
PutsAtRest {Self} of =
    (path object : List ℕ) (x : Self) → of.keeps x x → PutsPath of path object ⊥ ⊥ ⊥ x x

-- no call writes the empty text
abbrev pub WritesAtRest : {Self : Type 0} → sink.Ghosts Self → Type 0
WritesAtRest {Self} of = (x : Self) → WritesText of [] ⊥ x x

-- a text that is written whole, and then a second one, are one text
abbrev pub WritesTwice : {Self : Type 0} → sink.Ghosts Self → Type 0
WritesTwice {Self} of = (one two : List ℕ) (fault : Bool) (x y z : Self) → WritesText of one ⊥ x y
    → WritesText of two (IsTrue fault) y z → WritesText of (one ++ two) (IsTrue fault) x z

-- a first text whose write failed is a failed write of both texts
abbrev pub WritesFailed : {Self : Type 0} → sink.Ghosts Self → Type 0
WritesFailed {Self} of = (one two : List ℕ) (x y : Self) → WritesText of one (Unit {0}) x y
    → WritesText of (one ++ two) (Unit {0}) x y

-- no call takes the empty text
abbrev pub TakesAtRest : {Self : Type 0} → source.Ghosts Self → Type 0
TakesAtRest {Self} of = (x : Self) → TakesText of [] ⊥ x x

-- a text that is taken, and then a second one, are one text
abbrev pub TakesTwice : {Self : Type 0} → source.Ghosts Self → Type 0
TakesTwice {Self} of = (one two : List ℕ) (fault : Bool) (x y z : Self) → TakesText of one ⊥ x y
    → TakesText of two (IsTrue fault) y z → TakesText of (one ++ two) (IsTrue fault) x z

-- a text that wasn't taken for a fault is the failed taking of any text
abbrev pub TakesFailed : {Self : Type 0} → source.Ghosts Self → Type 0
TakesFailed {Self} of = (one two : List ℕ) (x y : Self) → TakesText of one (Unit {0}) x y
    → TakesText of two (Unit {0}) x y

-- no call draws the empty text
abbrev pub DrawsAtRest : {Self : Type 0} → draws.Ghosts Self → Type 0
DrawsAtRest {Self} of = (x : Self) → DrawsText of [] ⊥ x x

-- a text that is drawn, and then a second one, are one text
abbrev pub DrawsTwice : {Self : Type 0} → draws.Ghosts Self → Type 0
DrawsTwice {Self} of = (one two : List ℕ) (fault : Bool) (x y z : Self) → DrawsText of one ⊥ x y
    → DrawsText of two (IsTrue fault) y z → DrawsText of (one ++ two) (IsTrue fault) x z

-- a text that wasn't drawn for a fault is the failed drawing of any text
abbrev pub DrawsFailed : {Self : Type 0} → draws.Ghosts Self → Type 0
DrawsFailed {Self} of = (one two : List ℕ) (x y : Self) → DrawsText of one (Unit {0}) x y
    → DrawsText of two (Unit {0}) x y
