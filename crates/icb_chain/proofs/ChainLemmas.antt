-- Faults of opening.
use Rattle.std.proofs.Common.{◌≡◌, List, ℕ, Result, Ok, Err, ap, sym, ◌∙◌}
use Rattle.std.proofs.Common.{Some, None, refl, inl, inr}
use Rattle.icb_base.specs.KeyMetadata.{KeyRecord}
use Rattle.icb_meta.specs.declared.records.KeyEntry.{KeyEntry}
use Rattle.icb_chain.specs.ChainCalls.{IsFault, Opens, Refuses}
use Rattle.icb_chain.specs.Kept.{Keeps, Kept, sealer_key, sealer_used, used}
use Rattle.icb_chain.specs.Opening.{KeyTable, ◌>>=◌, kek_of, list_entry, list_key_of, opened_metadata, or_refused}
use Rattle.icb_chain.specs.Ring.{Ring}
use Rattle.icb_chain.specs.declared.fault.ChainFault.{ChainFault}
use Rattle.icb_chain.specs.declared.fault.ChainFault.TheVariants as fault
use Rattle.icb_chain.specs.declared.opening.Refusal.{Refusal}
use Rattle.icb_chain.specs.declared.opening.Refusal.TheVariants as refusal

-- a refusal's fault is answered
pub fault_opens : {A : Type 0} (r : Refusal) (f : ChainFault) (opened : Result A ChainFault) → Refuses r opened → IsFault r f → Opens (Err f) opened
fault_opens r fault.NoMemory opened h is = tt
fault_opens (refusal.NoKey id) (fault.NoKey other) opened h is = h ∙ ap (λ (x : List ℕ). Err (fault.NoKey x)) (sym is)
fault_opens (refusal.NoKey id) (fault.KeyRefused other) opened h is = absurd is
fault_opens (refusal.KeyRefused id) (fault.KeyRefused other) opened h is = h ∙ ap (λ (x : List ℕ). Err (fault.KeyRefused x)) (sym is)
fault_opens (refusal.KeyRefused id) (fault.NoKey other) opened h is = absurd is
fault_opens refusal.NoMemory (fault.NoKey other) opened h is = absurd is
fault_opens refusal.NoMemory (fault.KeyRefused other) opened h is = absurd is

-- a fault is handed on
pub fault_handed : {A B : Type 0} (f : ChainFault) (opened : Result A ChainFault) (next : A → Result B ChainFault) → Opens (Err f) opened → Opens (Err f) (opened >>= next)
fault_handed (fault.NoKey id) opened next h = rw h refl
fault_handed (fault.KeyRefused id) opened next h = rw h refl
fault_handed fault.NoMemory opened next h = tt

-- no list entry has the id
pub no_list_entry : (table : KeyTable) (ring : Ring) (id : List ℕ) → list_entry table id ≡ None → list_key_of table ring id ≡ Err (fault.NoKey id)
unfolding list_key_of
no_list_entry table ring id h = rw h refl

-- what comes behind the sealer of a list entry
pub list_steps : (table : KeyTable) (ring : Ring) (id : List ℕ) (e : KeyEntry) (by : List ℕ) → list_entry table id ≡ Some e → e.by ≡ Some by
    → list_key_of table ring id ≡ (kek_of table ring by >>= (λ key. or_refused (fault.KeyRefused id) (opened_metadata key e)))
unfolding list_key_of
list_steps table ring id e by h b = rw (h, b) refl

-- ---- what is kept behind the look-up of a list entry

-- no key is used where no list entry has the id
pub none_used : (table : KeyTable) (ring : Ring) (id : List ℕ) (kept : Kept) → list_entry table id ≡ None → sealer_used (sealer_key table ring id) kept ≡ kept
unfolding sealer_key
none_used table ring id kept h = rw h refl

-- the sealer's key is used where it opens
pub opened_used : (table : KeyTable) (ring : Ring) (id : List ℕ) (e : KeyEntry) (by key : List ℕ) (old new : Kept) → list_entry table id ≡ Some e → e.by ≡ Some by
    → kek_of table ring by ≡ Ok key → new ≡ used by key old → new ≡ sealer_used (sealer_key table ring id) old
unfolding sealer_key
opened_used table ring id e by key old new h b k is = rw (h, b, k) is

-- none is where it is refused
refused_used : (table : KeyTable) (ring : Ring) (id : List ℕ) (e : KeyEntry) (by : List ℕ) (f : ChainFault) (kept : Kept) → list_entry table id ≡ Some e → e.by ≡ Some by
    → kek_of table ring by ≡ Err f → sealer_used (sealer_key table ring id) kept ≡ kept
unfolding sealer_key
refused_used table ring id e by f kept h b k = rw (h, b, k) refl

-- what is kept is this, whatever the fault
pub keeps_behind : (f : ChainFault) (behind old new : Kept) → new ≡ behind → Keeps {A = KeyRecord} (Err f) behind old new
keeps_behind (fault.NoKey id) behind old new h = h
keeps_behind (fault.KeyRefused id) behind old new h = h
keeps_behind fault.NoMemory behind old new h = inl h

-- a fault of the sealer is handed on
pub keeps_handed : (table : KeyTable) (ring : Ring) (id : List ℕ) (e : KeyEntry) (by : List ℕ) (f : ChainFault) (old new : Kept) → list_entry table id ≡ Some e
    → e.by ≡ Some by → Opens (Err f) (kek_of table ring by) → new ≡ old → Keeps {A = KeyRecord} (Err f) (sealer_used (sealer_key table ring id) old) old new
keeps_handed table ring id e by (fault.NoKey other) old new h b k same = same ∙ sym (refused_used table ring id e by (fault.NoKey other) old h b k)
keeps_handed table ring id e by (fault.KeyRefused other) old new h b k same = same ∙ sym (refused_used table ring id e by (fault.KeyRefused other) old h b k)
keeps_handed table ring id e by fault.NoMemory old new h b k same = inr same
