-- The keys that a chain keeps: those that it opened last.
use Rattle.std.specs.Prelude.{◌≡◌, ◌⊎◌, ℕ, List, ◌∷◌, take, bytes_eq}
use Rattle.std.specs.Prelude.{Option, Result, Ok, Err}
use Rattle.std.specs.List.{AllByRecursion}
use Rattle.std.specs.Map.{lookup, remove_entry}
use Rattle.icb_chain.specs.Opening.{KeyTable, ◌>>=◌, kek_of, list_entry, or_refused}
use Rattle.icb_chain.specs.Ring.{Ring}
use Rattle.icb_chain.specs.declared.fault.ChainFault.{ChainFault}
use Rattle.icb_chain.specs.declared.fault.ChainFault.TheVariants as fault

-- ids and their keys, the most recently used first, and how many there may be
pub record Kept : Type 0 where
  pub pairs : List (List ℕ × List ℕ)
  pub capacity : ℕ

-- the key of an id
abbrev pub kept_key : List ℕ → Kept → Option (List ℕ)
kept_key id kept = lookup (bytes_eq id) kept.pairs

-- the key of an id was used: its pair is the first, and the others follow in their order, at most
-- as many as there may be
abbrev pub used : List ℕ → List ℕ → Kept → Kept
used id key kept = record kept {
  pairs = take kept.capacity ((id, key) ∷ remove_entry (bytes_eq id) kept.pairs);
}

-- each key that is kept is the one that the table and the keyring give
abbrev pub IsSound : KeyTable → Ring → Kept → Type 0
IsSound table ring kept =
    AllByRecursion (λ pair. kek_of table ring pair.0 ≡ Ok pair.1) kept.pairs

-- the id of the sealer of a list entry, and its key, or the first refusal of their look-ups
unfoldable pub sealer_key : KeyTable → Ring → List ℕ → Result (List ℕ × List ℕ) ChainFault
sealer_key table ring id = do
  e ← or_refused (fault.NoKey id) (list_entry table id)
  by ← or_refused (fault.KeyRefused id) e.by
  key ← kek_of table ring by
  Ok (by, key)

-- the key of a sealer was used, where there is one
abbrev pub sealer_used : Result (List ℕ × List ℕ) ChainFault → Kept → Kept
sealer_used (Ok sealer) kept = used sealer.0 sealer.1 kept
sealer_used (Err refused) kept = kept

-- what is kept behind the look-up of a list entry is this; where memory was wanting it may also be
-- as before
abbrev pub Keeps : {A : Type 0} → Result A ChainFault → Kept → Kept → Kept → Type 0
Keeps (Ok opened) behind old new = new ≡ behind
Keeps (Err (fault.NoKey id)) behind old new = new ≡ behind
Keeps (Err (fault.KeyRefused id)) behind old new = new ≡ behind
Keeps (Err fault.NoMemory) behind old new = (new ≡ behind) ⊎ (new ≡ old)
