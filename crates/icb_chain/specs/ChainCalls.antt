-- What a chain's calls answer, and what its parts are seen as.
use Rattle.std.specs.Prelude.{◌≡◌, ℕ, List, map, Result, Ok, Err}
use Rattle.lru.specs.LruCache.{LruCache}
use Rattle.icb_chain.specs.Kept.{Kept}
use Rattle.icb_chain.specs.declared.fault.ChainFault.{ChainFault}
use Rattle.icb_chain.specs.declared.fault.ChainFault.TheVariants as fault
use Rattle.icb_chain.specs.declared.opening.Refusal.{Refusal}
use Rattle.icb_chain.specs.declared.opening.Refusal.TheVariants as refusal

-- a call answers what the table and the keyring give, where no memory was wanting
abbrev pub Opens : {A : Type 0} → Result A ChainFault → Result A ChainFault → Type 0
Opens (Ok key) opened = opened ≡ Ok key
Opens (Err (fault.NoKey id)) opened = opened ≡ Err (fault.NoKey id)
Opens (Err (fault.KeyRefused id)) opened = opened ≡ Err (fault.KeyRefused id)
Opens (Err fault.NoMemory) opened = Unit {0}

-- a refusal is the one that opening gives, or memory was wanting
abbrev pub Refuses : {A : Type 0} → Refusal → Result A ChainFault → Type 0
Refuses (refusal.NoKey id) opened = opened ≡ Err (fault.NoKey id.now)
Refuses (refusal.KeyRefused id) opened = opened ≡ Err (fault.KeyRefused id.now)
Refuses refusal.NoMemory opened = Unit {0}

-- a fault is a refusal's, or no memory was left for its id
abbrev pub IsFault : Refusal → ChainFault → Type 0
IsFault refused fault.NoMemory = Unit {0}
IsFault (refusal.NoKey id) (fault.NoKey other) = other ≡ id.now
IsFault (refusal.NoKey id) (fault.KeyRefused other) = ⊥
IsFault (refusal.KeyRefused id) (fault.KeyRefused other) = other ≡ id.now
IsFault (refusal.KeyRefused id) (fault.NoKey other) = ⊥
IsFault refusal.NoMemory (fault.NoKey other) = ⊥
IsFault refusal.NoMemory (fault.KeyRefused other) = ⊥

-- the keys that the code's own cache keeps
abbrev pub kept_of : {K : Type 0} → (K → List ℕ) → LruCache K (List ℕ) → Kept
kept_of bytes cache = record {
  pairs = map (λ e. (bytes e.0, e.1)) cache.entries;
  capacity = cache.cap;
}
