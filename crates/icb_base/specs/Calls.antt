-- What calls of a function do to the store, the sink, the source and the draws that it is given,
-- one record for each. The fault is a proposition: that the function answers this object's fault.
use Rattle.std.specs.Prelude.{ℕ, ◌≡◌, ◌⊎◌, List, ◌++◌, Some, None, IfSome, IsSome}
use Rattle.icb_base.specs.Causes.{Blames}
use Rattle.icb_base.specs.Counts.{CountsOnly}
use Rattle.icb_base.specs.Objects.{object_at, with_object}
use Rattle.icb_base.specs.Transfers.{DrewSome, TookFront, TookSome, WroteFront}
use Rattle.icb_base.specs.declared.storage.Store as store
use Rattle.icb_base.specs.declared.transfer.Draws as draws
use Rattle.icb_base.specs.declared.transfer.Sink as sink
use Rattle.icb_base.specs.declared.transfer.Source as source

-- calls that read a store, all for one path: at most so many, which move at most so many bytes
pub record ReadsPath {Self : Type 0} (of : store.Ghosts Self) (path : List ℕ) (calls bytes : ℕ)
    (fault : Type 0) (before now : Self) : Type 0 where
  pub same : of.held now ≡ of.held before
  pub count : Blames fault (of.faults before) (of.faults now)
  pub asks : IfSome (of.held before) (λ _. CountsOnly path calls (of.asked before) (of.asked now))
  pub moves : IfSome (of.held before) (λ _. CountsOnly path bytes (of.moved before) (of.moved now))
  pub kept : of.keeps before now

-- at most one put of an object: it is done, it finds the path taken, it fails and leaves the old
-- state or the whole object, or else none was made
pub record PutsPath {Self : Type 0} (of : store.Ghosts Self) (path object : List ℕ)
    (is_done is_taken fault : Type 0) (before now : Self) : Type 0 where
  pub count : Blames fault (of.faults before) (of.faults now)
  pub done : is_done → IfSome (of.held before) (λ files.
      (object_at files path ≡ None) × (of.held now ≡ Some (with_object files path object)))
  pub taken : is_taken → IfSome (of.held before) (λ files.
      IsSome (object_at files path) × (of.held now ≡ Some files))
  pub failed : fault → IfSome (of.held before) (λ files. (of.held now ≡ Some files)
      ⊎ ((object_at files path ≡ None) × (of.held now ≡ Some (with_object files path object))))
  pub none : (is_done → ⊥) → (is_taken → ⊥) → (fault → ⊥) → of.held now ≡ of.held before
  pub asks : IfSome (of.held before) (λ _. CountsOnly path 1 (of.asked before) (of.asked now))
  pub moves : IfSome (of.held before) (λ _. CountsOnly path 1 (of.moved before) (of.moved now))
  pub kept : of.keeps before now

-- a text is written to a sink, or where the sink failed a front of it
pub record WritesText {Self : Type 0} (of : sink.Ghosts Self) (text : List ℕ)
    (fault : Type 0) (before now : Self) : Type 0 where
  pub count : Blames fault (of.faults before) (of.faults now)
  pub front : IfSome (of.written before) (λ bytes. WroteFront (of.written now) bytes text)
  pub whole : (fault → ⊥) → IfSome (of.written before) (λ bytes.
      of.written now ≡ Some (bytes ++ text))

-- these bytes are taken from the front of a source, or where the source failed some bytes
pub record TakesText {Self : Type 0} (of : source.Ghosts Self) (text : List ℕ)
    (fault : Type 0) (before now : Self) : Type 0 where
  pub count : Blames fault (of.faults before) (of.faults now)
  pub front : IfSome (of.left before) (λ left. TookSome left (of.left now))
  pub whole : (fault → ⊥) → IfSome (of.left before) (λ left. TookFront left text (of.left now))

-- these bytes are drawn, or where the generator failed some bytes, perhaps none
pub record DrawsText {Self : Type 0} (of : draws.Ghosts Self) (text : List ℕ)
    (fault : Type 0) (before now : Self) : Type 0 where
  pub count : Blames fault (of.faults before) (of.faults now)
  pub more : IfSome (of.drawn before) (λ drawn. DrewSome drawn (of.drawn now))
  pub whole : (fault → ⊥) → IfSome (of.drawn before) (λ drawn.
      of.drawn now ≡ Some (drawn ++ text))
