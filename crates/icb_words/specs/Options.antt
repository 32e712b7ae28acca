-- The options of a command: the words behind its positional ones, in pairs of a name and a value,
-- in any order, each name once (ours; README.md of this crate).
use Rattle.std.specs.Prelude.{ℕ, ◌+◌, ◌-◌, ◌%◌, ◌^◌, ◌==◌, min, Bool, false, ◌&&◌, not}
use Rattle.std.specs.Prelude.{if◌then◌else◌, List, [], ◌∷◌, length, take, drop, bytes_eq, find}
use Rattle.std.specs.Prelude.{slice_index_or, Option, Some, None, is_some, is_none, option_map}
use Rattle.std.specs.Prelude.{option_and_then, ok_or, Result, Ok, Err}
use Rattle.std.specs.List.{range_with_len}
use Rattle.icb_words.specs.Forms.{is_in_form}
use Rattle.icb_words.specs.declared.forms.ValueForm.{ValueForm}

-- the options that a command has: the name of each, and the form of its value
abbrev pub Options : Type 0
Options = List (List ℕ × ValueForm)

-- the form of the value of the option with this name, if the command has it
abbrev pub form_of : Options → List ℕ → Option ValueForm
form_of options name =
    option_map (λ option. option.1) (find (λ option. bytes_eq option.0 name) options)

-- the value that an option has in pairs of a name and a value, if it is given
abbrev pub value_of : List ℕ → List (List ℕ) → Option (List ℕ)
value_of name [] = None
value_of name (given ∷ []) = None
value_of name (given ∷ value ∷ pairs) =
    if bytes_eq given name then Some value else value_of name pairs

-- a name has a place where the command has the option and no earlier pair gives it
abbrev pub is_new_name : Options → List (List ℕ) → List ℕ → Bool
is_new_name options earlier name = is_some (form_of options name) && is_none (value_of name earlier)

-- a value has a place where it is in the form of the option whose name stands before it
abbrev pub is_value : Option ValueForm → List ℕ → Bool
is_value (Some form) value = is_in_form form value
is_value None value = false

-- whether the word with this number has a place among the pairs: the first, third and so on as a
-- name, the others as values
abbrev pub has_place : Options → List (List ℕ) → ℕ → Bool
has_place options pairs i =
    if i % 2 == 0 then is_new_name options (take i pairs) (slice_index_or pairs i [])
    else is_value (form_of options (slice_index_or pairs (i - 1) [])) (slice_index_or pairs i [])

-- the first word that has no place among the pairs, if there is one
unfoldable pub misplaced : Options → List (List ℕ) → Option ℕ
misplaced options pairs =
    find (λ i. not (has_place options pairs i)) (range_with_len 0 (length pairs))

-- a word's position, as far as 32 bits tell it
abbrev pub position : ℕ → ℕ
position at = min at (2 ^ 32 - 1)

-- the pairs behind the first words, where each word has a place among them; else the position of
-- the first that has none, and where the last value isn't there the number of words
abbrev pub pairs_unless : ℕ → List (List ℕ) → Option ℕ → Result (List (List ℕ)) ℕ
pairs_unless first words (Some i) = Err (position (first + i))
pairs_unless first words None =
    if length (drop first words) % 2 == 0 then Ok (drop first words)
    else Err (position (length words))

-- the words behind the first ones as pairs of a name and a value
abbrev pub pairs_from : Options → ℕ → List (List ℕ) → Result (List (List ℕ)) ℕ
pairs_from options first words = pairs_unless first words (misplaced options (drop first words))

-- what the value of an option is read as, if it is given
abbrev pub given : {A : Type 0} → (List ℕ → Option A) → List ℕ → List (List ℕ) → Option A
given read name pairs = option_and_then read (value_of name pairs)

-- of an option that the command needs: the number of words where it isn't given
abbrev pub needed : {A : Type 0} → List (List ℕ) → Option A → Result A ℕ
needed words value = ok_or value (position (length words))
