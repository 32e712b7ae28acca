-- Reading words step by step: each step gives a value or the position of a word that has no place.
use Rattle.std.specs.Prelude.{ℕ, ◌≡◌, List, Option, slice_get, option_and_then, ok_or, Result, Ok}
use Rattle.std.specs.Prelude.{Err}
use Rattle.icb_words.specs.declared.words.WordFault.{WordFault}
use Rattle.icb_words.specs.declared.words.WordFault.TheVariants.{NoPlace, NoMemory}

-- the next step, where this one gave a value
infixl 10 ◌>>=◌
abbrev pub ◌>>=◌ : {A B : Type 0} → Result A ℕ → (A → Result B ℕ) → Result B ℕ
Ok x >>= next = next x
Err at >>= next = Err at

-- what the word at a place is read as, or that place where there is no word or it isn't in the form
abbrev pub word_as : {A : Type 0} → (List ℕ → Option A) → List (List ℕ) → ℕ → Result A ℕ
word_as read words at = ok_or (option_and_then read (slice_get words at)) at

-- what was read of the words is what they are, unless memory ran out
abbrev pub IsReadingOf : {A : Type 0} → Result A ℕ → Result A WordFault → Type 0
IsReadingOf meaning (Ok value) = meaning ≡ Ok value
IsReadingOf meaning (Err (NoPlace word)) = meaning ≡ Err word
IsReadingOf meaning (Err NoMemory) = Unit {0}
