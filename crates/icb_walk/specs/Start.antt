-- Where a walk begins: at the list of a snapshot, or it is refused.
use Rattle.std.specs.Prelude.{ℕ, ℤ, ◌≡◌, ◌⊎◌, List, None, Result, Ok, Err}
use Rattle.icb_base.specs.KeyMetadata.{KeyRecord}
use Rattle.icb_chain.specs.declared.fault.ChainFault.TheVariants as chain
use Rattle.icb_meta.specs.Ids.{resolved}
use Rattle.icb_table.specs.Listed.{Listed, listed}
use Rattle.icb_table.specs.Snapshots.{Refused, ◌>>=◌, or_refused}
use Rattle.icb_table.specs.Snapshots as refused
use Rattle.icb_table.specs.Why.{Unread}
use Rattle.icb_table.specs.Why as why
use Rattle.icb_walk.specs.Causes.{what_of}
use Rattle.icb_walk.specs.Judged.{listing}
use Rattle.icb_walk.specs.declared.fault.TreeFault.{TreeFault}
use Rattle.icb_walk.specs.declared.fault.TreeFault.TheVariants as fault
use Rattle.icb_walk.specs.declared.fault.What.{What}
use Rattle.icb_walk.specs.declared.open_list.Rows.TheVariants as place
use Rattle.icb_walk.specs.declared.walk.Walk.{Walk}

-- the list that a snapshot names, by its key metadata
abbrev pub list_at : List ℕ → ℤ → List ℕ → KeyRecord → Result Listed Refused
list_at location id list opened =
    or_refused (refused.bad_list id list why.outside_table) (resolved location list)
    >>= (λ path. or_refused (refused.bad_list id list why.no_length) opened.length_told
    >>= (λ recorded. Ok (listed path opened recorded)))

-- a refusal is the first one of a snapshot's list, or no memory was left
abbrev pub IsFirst : {A : Type 0} → Result A Refused → TreeFault → Type 0
IsFirst r (fault.NoSnapshot id) = r ≡ Err (refused.no_snapshot id)
IsFirst r (fault.PlainList id) = r ≡ Err (refused.plain_list id)
IsFirst r (fault.Chain chain.NoMemory) = ⊥
IsFirst r (fault.Chain e) = r ≡ Err (refused.no_key e)
IsFirst r (fault.BadList id list what) =
    (e : Unread) × (r ≡ Err (refused.bad_list id list e)) × (what ≡ what_of e)
IsFirst r (fault.At path c) = ⊥
IsFirst r fault.Store = ⊥
IsFirst r fault.NoMemory = Unit {0}

-- a call finds what the definition gives, seen by `view`, or refuses
abbrev pub Finds : {A B : Type 0} → (A → B) → Result A TreeFault → Result B Refused → Type 0
Finds view (Ok x) r = r ≡ Ok (view x)
Finds view (Err e) r = IsFirst r e

-- the list of a snapshot isn't read, or no memory was left to say so
abbrev pub IsBadList : ℤ → List ℕ → What → TreeFault → Type 0
IsBadList id list what e = (e ≡ fault.BadList id list what) ⊎ (e ≡ fault.NoMemory)

-- a walk stands before a list in a table at a location, and has opened nothing
pub record StandsBefore (location : List ℕ) (list : Result Listed Refused)
    (w : Walk) : Type 0 where
  pub same_location : w.location ≡ location
  pub is_list : list ≡ Ok (listing w.list)
  pub unopened : w.rows ≡ place.Before
  pub none_open : w.manifest ≡ None

-- a walk begins before a snapshot's list, or is refused
abbrev pub Starts : List ℕ → Result Listed Refused → Result Walk TreeFault → Type 0
Starts location list (Ok w) = StandsBefore location list w
Starts location list (Err e) = IsFirst list e
