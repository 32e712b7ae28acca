-- What is read in order, and why no more is (ours).
use Rattle.std.specs.Prelude.{ℕ, suc, List, [], ◌∷◌, ◌++◌, Option, Some, None, Result, Ok, Err}
use Rattle.icb_table.specs.Listed.{Listed}
use Rattle.icb_table.specs.Why.{Why}

-- the file that isn't read further, and why
pub record Stop : Type 0 where
  pub file : Listed
  pub why : Why

-- what is read, in order, and where it isn't all, why no more is
pub record Trace (A : Type 0) : Type 0 where
  pub items : List A
  pub stop : Option Stop

-- all of it is read
abbrev pub whole : {A : Type 0} → List A → Trace A
whole items = record { items = items; stop = None }

-- one item is read
abbrev pub one : {A : Type 0} → A → Trace A
one item = whole (item ∷ [])

-- nothing is read, as the reading ended before or there is no more
abbrev pub ended : {A : Type 0} → Option Stop → Trace A
ended stop = record { items = []; stop = stop }

-- nothing is read of this file
abbrev pub stopped : {A : Type 0} → Listed → Why → Trace A
stopped file why = ended (Some (record { file = file; why = why }))

-- an item of a file, or why it isn't read
abbrev pub read_of : {A : Type 0} → Listed → Result A Why → Trace A
read_of file (Ok item) = one item
read_of file (Err why) = stopped file why

-- items, and what is read behind them, where nothing stopped there
abbrev pub behind : {A : Type 0} → List A → Option Stop → Trace A → Trace A
behind items None more = record { items = items ++ more.items; stop = more.stop }
behind items (Some stop) more = record { items = items; stop = Some stop }

-- what is read first, and then more
abbrev pub then_read : {A : Type 0} → Trace A → Trace A → Trace A
then_read first more = behind first.items first.stop more

-- what is read for each item, one after another
unfoldable pub each_in : {A B : Type 0} → (A → Trace B) → List A → Trace B
each_in read [] = whole []
each_in read (item ∷ items) = then_read (read item) (each_in read items)

-- what is read for each item that is read
abbrev pub through : {A B : Type 0} → (A → Trace B) → Trace A → Trace B
through read items = then_read (each_in read items.items) (ended items.stop)

-- the items with their positions, from this one on
unfoldable pub numbered_from : {A : Type 0} → ℕ → List A → List (ℕ × A)
numbered_from n [] = []
numbered_from n (item ∷ items) = (n, item) ∷ numbered_from (suc n) items

-- what is read, with positions from 0 on
abbrev pub numbered : {A : Type 0} → Trace A → Trace (ℕ × A)
numbered read = record { items = numbered_from 0 read.items; stop = read.stop }
