-- What each call of a store answers and changes, by what the store shows before and after. These
-- are the clauses of `Store` and `Remover`, which the stores of this crate keep.
use Rattle.std.specs.Prelude.{ℕ, ◌≤◌, ◌≡◌, List, length, Bool, Option, Result, IfOk, IfSome}
use Rattle.std.specs.Prelude.{option_map}
use Rattle.icb_base.specs.Causes.{HasCause}
use Rattle.icb_base.specs.Counts.{IsCounted, Uncounts}
use Rattle.icb_base.specs.Objects.{Objects, object_at, Puts, Reads, Removes}
use Rattle.icb_base.specs.declared.storage.Failed.{Failed}
use Rattle.icb_base.specs.declared.storage.Put.{Put}

-- what a store holds, where it tells it, what it counted for each path, and how often it failed
pub record Shown : Type 0 where
  pub held : Option Objects
  pub asked : List ℕ → ℕ
  pub moved : List ℕ → ℕ
  pub faults : ℕ

-- a size is answered, and one call is counted
pub record AnswersSize (path : List ℕ) (result : Result (Option ℕ) Failed)
    (before now : Shown) : Type 0 where
  pub size : IfSome before.held (λ files.
      IfOk result (λ size. size ≡ option_map length (object_at files path)))
  pub same : now.held ≡ before.held
  pub counted : IfSome before.held (λ files. IsCounted files path 1 result before.asked now.asked)
  pub moved_none : IfSome before.held
      (λ files. IsCounted files path 0 result before.moved now.moved)
  pub cause : HasCause before.faults now.faults result

-- a part is read from a place on, and one call and all bytes of the buffer are counted
pub record AnswersRead (path : List ℕ) (at : ℕ) (out out_now : List ℕ)
    (result : Result (Option ℕ) Failed) (before now : Shown) : Type 0 where
  pub count : IfOk result (λ answer. IfSome answer (λ n. n ≤ length out_now))
  pub read : IfSome before.held (λ files. IfOk result (Reads (object_at files path) at out out_now))
  pub same : now.held ≡ before.held
  pub counted : IfSome before.held (λ files. IsCounted files path 1 result before.asked now.asked)
  pub moved : IfSome before.held (λ files.
      IsCounted files path (length out) result before.moved now.moved)
  pub cause : HasCause before.faults now.faults result

-- an object is put where none is held, and one call is counted where one is
pub record AnswersPut (path bytes : List ℕ) (result : Result Put Failed)
    (before now : Shown) : Type 0 where
  pub puts : IfSome before.held (λ files. Puts files path bytes now.held result)
  pub counted : IfSome before.held (λ files. IsCounted files path 1 result before.asked now.asked)
  pub moved_one : IfSome before.held (λ files. IsCounted files path 1 result before.moved now.moved)
  pub cause : HasCause before.faults now.faults result

-- an object is taken away, and its numbers with it
pub record AnswersRemoval (path : List ℕ) (result : Result Bool Failed)
    (before now : Shown) : Type 0 where
  pub removes : IfSome before.held (λ files. Removes files path now.held result)
  pub counted : IfSome before.held (λ files. Uncounts files path 1 now.held before.asked now.asked)
  pub moved_none : IfSome before.held
      (λ files. Uncounts files path 0 now.held before.moved now.moved)
  pub cause : HasCause before.faults now.faults result
