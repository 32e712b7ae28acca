-- What a source gives, a sink takes and draws fill, where each tells its bytes.
use Rattle.std.specs.Prelude.{ℕ, ◌<◌, ◌≤◌, ◌≡◌, List, [], ◌++◌, length, take, drop, Option, Some}
use Rattle.std.specs.Prelude.{Result, Ok, Err}
use Rattle.icb_base.specs.declared.storage.Failed.{Failed}

-- a read takes a front of what is left, none of it only at the end of input or for an empty buffer;
-- a failed one takes nothing
abbrev pub TakesFront : List ℕ → List ℕ → List ℕ → Option (List ℕ) → Result ℕ Failed → Type 0
TakesFront left before after now (Ok count) =
    (count ≤ length left) × (after ≡ take count left ++ drop count before)
    × (now ≡ Some (drop count left)) × (count ≡ 0 → 0 < length before → left ≡ [])
TakesFront left before after now (Err failed) = (now ≡ Some left) × (after ≡ before)

-- a front of a text was written behind what was there, and the rest of it wasn't
pub record WroteFront (now : Option (List ℕ)) (before text : List ℕ) : Type 0 where
  pub front : List ℕ
  pub missing : List ℕ
  pub whole : front ++ missing ≡ text
  pub is : now ≡ Some (before ++ front)

-- these bytes were taken from the front of what was left
pub record TookFront (left taken : List ℕ) (now : Option (List ℕ)) : Type 0 where
  pub rest : List ℕ
  pub whole : taken ++ rest ≡ left
  pub is : now ≡ Some rest

-- some front of what was left was taken
pub record TookSome (left : List ℕ) (now : Option (List ℕ)) : Type 0 where
  pub taken : List ℕ
  pub took : TookFront left taken now

-- some bytes were drawn behind those that were drawn before
pub record DrewSome (drawn : List ℕ) (now : Option (List ℕ)) : Type 0 where
  pub more : List ℕ
  pub is : now ≡ Some (drawn ++ more)

-- a write appends the whole piece, a failed one a front of it
abbrev pub Writes : List ℕ → List ℕ → Option (List ℕ) → Result (Unit {0}) Failed → Type 0
Writes before piece now (Ok _) = now ≡ Some (before ++ piece)
Writes before piece now (Err failed) = WroteFront now before piece

-- a fill draws as many bytes as the buffer has room for, a failed one draws nothing
abbrev pub Fills : List ℕ → List ℕ → List ℕ → Option (List ℕ) → Result (Unit {0}) Failed → Type 0
Fills drawn before after now (Ok _) = now ≡ Some (drawn ++ after)
Fills drawn before after now (Err failed) = (now ≡ Some drawn) × (after ≡ before)
