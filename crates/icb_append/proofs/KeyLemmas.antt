-- The keys of a table to which a list's key was added.
use Rattle.std.proofs.Common.{◌≡◌, ℕ, List, [], ◌∷◌, ◌++◌, Bool, true, false, ◌||◌, Option, Some, None, is_none, option_and_then, if◌then◌else◌, Result, Ok, Err, refl, sym, ap, ◌∙◌, subst}
use Rattle.std.specs.Prelude.{bytes_eq, length, codes}
use Rattle.std.specs.List.{list_any}
use Rattle.std.proofs.lemmas.Slice.Eq.{bytes_eq-Decides}
use Rattle.icb_base.specs.KeyMetadata.{KeyRecord}
use Rattle.icb_keymeta.specs.Decoded.{key_metadata_of}
use Rattle.icb_keymeta.specs.Encoded.{encoded}
use Rattle.icb_seal.specs.Block.{sealed_cipher_block, unwrapped}
use Rattle.icb_seal.proofs.BlockLemmas.{unwrapped_from_sealed}
use Rattle.icb_meta.specs.Forms.{entry_named, text_named}
use Rattle.icb_meta.specs.Answers.{IsNextKeyId}
use Rattle.icb_meta.specs.Ids.{is_taken, is_text, names_key}
use Rattle.icb_meta.specs.declared.fields.Fields.{Fields}
use Rattle.icb_meta.specs.declared.fields.State.{State}
use Rattle.icb_meta.specs.declared.records.Snapshot.{Snapshot}
use Rattle.icb_edits.specs.Snapshots.{snapshot_fields}
use Rattle.icb_edits.specs.Values.{in_order, ordered}
use Rattle.icb_meta.specs.declared.records.KeyEntry.{KeyEntry}
use Rattle.icb_chain.specs.Opening.{KeyTable, ◌>>=◌, is_scheme_1, kek_of, list_key_of, opened_metadata, or_refused, seals_key, table_of}
use Rattle.icb_chain.specs.Ring.{Ring}
use Rattle.icb_chain.specs.declared.fault.ChainFault.{ChainFault}
use Rattle.icb_chain.specs.declared.fault.ChainFault.TheVariants as fault
use Rattle.icb_append.specs.Committing.{IsListEntry}
use Rattle.icb_append.specs.declared.reading.Wrapper.{Wrapper}
use Rattle.icb_append.proofs.CommitLemmas.{new_key}

-- ---- entries by their ids

-- the first, or else the second
abbrev or_else : {A : Type 0} → Option A → Option A → Option A
or_else None second = second
or_else (Some x) second = Some x

named_more : (id : List ℕ) (es more : List KeyEntry) → entry_named id (es ++ more) ≡ or_else (entry_named id es) (entry_named id more)
named_more id [] more = refl
named_more id (e ∷ es) more = by_first (bytes_eq e.id id) (named_more id es more)
  where
    by_first : (b : Bool) → entry_named id (es ++ more) ≡ or_else (entry_named id es) (entry_named id more)
        → (if b then Some e else entry_named id (es ++ more)) ≡ or_else (if b then Some e else entry_named id es) (entry_named id more)
    by_first true h = refl
    by_first false h = h

first_false : (a b : Bool) → (a || b) ≡ false → a ≡ false
first_false true b h = absurd (let g : ⊥ = cc in g)
first_false false b h = refl

second_false : (a b : Bool) → (a || b) ≡ false → b ≡ false
second_false true b h = absurd (let g : ⊥ = cc in g)
second_false false b h = h

-- what holds of none holds not of the one that is named
named_none : (id : List ℕ) (p : KeyEntry → Bool) (es : List KeyEntry) (e : KeyEntry) → list_any p es ≡ false → entry_named id es ≡ Some e → p e ≡ false
named_none id p [] e none h = absurd (let g : ⊥ = cc in g)
named_none id p (x ∷ es) e none h = by_first (bytes_eq x.id id) (named_none id p es e (second_false (p x) (list_any p es) none)) h
  where
    by_first : (b : Bool) → (entry_named id es ≡ Some e → p e ≡ false) → (if b then Some x else entry_named id es) ≡ Some e → p e ≡ false
    by_first true later is = let same : x ≡ e = cc in subst (λ y. p y ≡ false) same (first_false (p x) (list_any p es) none)
    by_first false later is = later is

differ_back : (a b : List ℕ) → bytes_eq a b ≡ false → bytes_eq b a ≡ false
differ_back a b h = by_test (bytes_eq b a) refl
  where
    by_test : (t : Bool) → bytes_eq b a ≡ t → bytes_eq b a ≡ false
    by_test true is = let other : bytes_eq a b ≡ true = (bytes_eq-Decides a b).1 (sym ((bytes_eq-Decides b a).0 is)) in absurd (let g : ⊥ = cc in g)
    by_test false is = is

no_kek : (t : KeyTable) (ring : Ring) (id : List ℕ) → entry_named id t.entries ≡ None → kek_of t ring id ≡ Err (fault.NoKey id)
unfolding kek_of
no_kek t ring id h = rw h refl

-- the next key id is named by no entry
new_name : (state : State) (id : List ℕ) → IsNextKeyId state id → list_any (names_key id) state.entries ≡ false
new_name state id is =
    second_false (is_text id (text_named (codes "encryption.key-id") state.properties)) (list_any (names_key id) state.entries)
    (subst (λ x. is_taken state.entries (text_named (codes "encryption.key-id") state.properties) x ≡ false) (sym is.2) is.3)

-- ---- with one more entry

module _ (table : KeyTable) (ring : Ring) (n : KeyEntry) (new : list_any (names_key n.id) table.entries ≡ false)
    (unnamed : entry_named n.id table.entries ≡ None) where
  abbrev pub now : KeyTable
  now = record { master = table.master; entries = table.entries ++ n ∷ [] }

  -- an entry that is there is named as it was
  named_old : (id : List ℕ) (e : KeyEntry) → entry_named id table.entries ≡ Some e → entry_named id now.entries ≡ Some e
  named_old id e was = named_more id table.entries (n ∷ []) ∙ ap (λ o. or_else o (entry_named id (n ∷ []))) was

  -- none is named by an id that isn't the new one
  named_other : (id : List ℕ) → bytes_eq n.id id ≡ false → entry_named id now.entries ≡ entry_named id table.entries
  named_other id other =
      named_more id table.entries (n ∷ []) ∙ ap (λ o. or_else (entry_named id table.entries) o) alone ∙ no_else (entry_named id table.entries)
    where
      alone : entry_named id (n ∷ []) ≡ None
      alone = rw other refl

      no_else : (o : Option KeyEntry) → or_else o None ≡ o
      no_else None = refl
      no_else (Some x) = refl

  named_new : entry_named n.id now.entries ≡ Some n
  named_new = named_more n.id table.entries (n ∷ []) ∙ ap (λ o. or_else o (entry_named n.id (n ∷ []))) unnamed ∙ alone
    where
      alone : entry_named n.id (n ∷ []) ≡ Some n
      alone = rw ((bytes_eq-Decides n.id n.id).1 refl) refl

  -- the sealer of an entry that doesn't name the new one stays
  sealer_by : (by : Option (List ℕ)) → is_text n.id by ≡ false
      → option_and_then (λ x. entry_named x now.entries) by ≡ option_and_then (λ x. entry_named x table.entries) by
  sealer_by None h = refl
  sealer_by (Some by) h = named_other by (differ_back by n.id h)

  seals_old : (id : List ℕ) (e : KeyEntry) → entry_named id table.entries ≡ Some e → seals_key now e ≡ seals_key table e
  seals_old id e was =
      ap is_none (sealer_by e.by (second_false (bytes_eq e.id n.id) (is_text n.id e.by) (named_none id (names_key n.id) table.entries e new was)))

  -- the new one seals no key-encryption key, where its sealer is there
  seals_new : (by : List ℕ) (sealer : KeyEntry) → n.by ≡ Some by → entry_named by table.entries ≡ Some sealer → seals_key now n ≡ false
  seals_new by sealer is was =
      ap (λ o. is_none (option_and_then (λ x. entry_named x now.entries) o)) is ∙ ap is_none (named_old by sealer was)

  -- ---- key-encryption keys

  kek_old : (id : List ℕ) (e : KeyEntry) → entry_named id table.entries ≡ Some e → kek_of now ring id ≡ kek_of table ring id
  unfolding kek_of
  kek_old id e was = rw (was, named_old id e was, seals_old id e was) refl

  kek_none : (t : KeyTable) (id : List ℕ) → entry_named id t.entries ≡ None → kek_of t ring id ≡ Err (fault.NoKey id)
  unfolding kek_of
  kek_none t id h = rw h refl

  kek_list : (t : KeyTable) (id : List ℕ) (e : KeyEntry) → entry_named id t.entries ≡ Some e → seals_key t e ≡ false → kek_of t ring id ≡ Err (fault.NoKey id)
  unfolding kek_of
  kek_list t id e was seals = rw (was, seals) refl

  module _ (by : List ℕ) (sealer : KeyEntry) (is_by : n.by ≡ Some by) (is_sealer : entry_named by table.entries ≡ Some sealer) where
    kek_by_name : (id : List ℕ) (b : Bool) → bytes_eq n.id id ≡ b → entry_named id table.entries ≡ None → kek_of now ring id ≡ kek_of table ring id
    kek_by_name id true is was =
        let same : n.id ≡ id = (bytes_eq-Decides n.id id).0 is in
        kek_list now id n (subst (λ x. entry_named x now.entries ≡ Some n) same named_new) (seals_new by sealer is_by is_sealer) ∙ sym (kek_none table id was)
    kek_by_name id false is was = kek_none now id (named_other id is ∙ was) ∙ sym (kek_none table id was)

    kek_by : (id : List ℕ) (o : Option KeyEntry) → entry_named id table.entries ≡ o → kek_of now ring id ≡ kek_of table ring id
    kek_by id None was = kek_by_name id (bytes_eq n.id id) refl was
    kek_by id (Some e) was = kek_old id e was

    -- each key-encryption key opens as it did
    pub keks_stay : (id : List ℕ) → kek_of now ring id ≡ kek_of table ring id
    keks_stay id = kek_by id (entry_named id table.entries) refl

    -- ---- keys of lists

    behind_by : {A : Type 0} (id : List ℕ) (o : Option (List ℕ)) (f : List ℕ → Result A ChainFault)
        → (or_refused (fault.KeyRefused id) o >>= (λ x. kek_of now ring x >>= f)) ≡ (or_refused (fault.KeyRefused id) o >>= (λ x. kek_of table ring x >>= f))
    behind_by id None f = refl
    behind_by id (Some x) f = ap (λ r. r >>= f) (keks_stay x)

    list_none : (t : KeyTable) (id : List ℕ) → entry_named id t.entries ≡ None → list_key_of t ring id ≡ Err (fault.NoKey id)
    unfolding list_key_of
    list_none t id h = rw h refl

    list_key : (t : KeyTable) (id : List ℕ) (e : KeyEntry) → entry_named id t.entries ≡ Some e → seals_key t e ≡ true → list_key_of t ring id ≡ Err (fault.NoKey id)
    unfolding list_key_of
    list_key t id e was seals = rw (was, seals) refl

    list_at : (t : KeyTable) (id : List ℕ) (e : KeyEntry) → entry_named id t.entries ≡ Some e → seals_key t e ≡ false
        → list_key_of t ring id ≡ (or_refused (fault.KeyRefused id) e.by >>= (λ x. kek_of t ring x >>= (λ key. or_refused (fault.KeyRefused id) (opened_metadata key e))))
    unfolding list_key_of
    list_at t id e was seals = rw (was, seals) refl

    list_old : (id : List ℕ) (e : KeyEntry) (b : Bool) → seals_key table e ≡ b → entry_named id table.entries ≡ Some e → list_key_of now ring id ≡ list_key_of table ring id
    list_old id e true seals was = list_key now id e (named_old id e was) (seals_old id e was ∙ seals) ∙ sym (list_key table id e was seals)
    list_old id e false seals was =
        list_at now id e (named_old id e was) (seals_old id e was ∙ seals)
        ∙ behind_by id e.by (λ key. or_refused (fault.KeyRefused id) (opened_metadata key e))
        ∙ sym (list_at table id e was seals)

    list_by : (id : List ℕ) (o : Option KeyEntry) → bytes_eq n.id id ≡ false → entry_named id table.entries ≡ o → list_key_of now ring id ≡ list_key_of table ring id
    list_by id None other was = list_none now id (named_other id other ∙ was) ∙ sym (list_none table id was)
    list_by id (Some e) other was = list_old id e (seals_key table e) refl was

    -- each list's key but the new one opens as it did
    pub lists_stay : (id : List ℕ) → bytes_eq n.id id ≡ false → list_key_of now ring id ≡ list_key_of table ring id
    lists_stay id other = list_by id (entry_named id table.entries) other refl

    -- the key that a list had isn't the new one
    pub list_is_other : (id : List ℕ) (opened : KeyRecord) → list_key_of table ring id ≡ Ok opened → bytes_eq n.id id ≡ false
    list_is_other id opened h = by_test (bytes_eq n.id id) refl
      where
        by_test : (b : Bool) → bytes_eq n.id id ≡ b → bytes_eq n.id id ≡ false
        by_test true is =
            let same : n.id ≡ id = (bytes_eq-Decides n.id id).0 is in
            let none = list_none table id (subst (λ x. entry_named x table.entries ≡ None) same unnamed) in
            absurd (let g : ⊥ = cc in g)
        by_test false is = is

    -- the new one opens to what it holds
    pub new_opens : (key nonce : List ℕ) (list : KeyRecord) → kek_of table ring by ≡ Ok key → length nonce ≡ 12
        → sealed_cipher_block key nonce n.id (encoded list) ≡ Some n.sealed → key_metadata_of (encoded list) ≡ Ok list → n.properties ≡ []
        → list_key_of now ring n.id ≡ Ok list
    new_opens key nonce list opens size sealed reads plain =
        let back : unwrapped key n.id n.sealed ≡ Some (encoded list) = unwrapped_from_sealed key nonce n.id (encoded list) n.sealed size sealed in
        let scheme : is_scheme_1 n ≡ true = rw plain refl in
        let holds : opened_metadata key n ≡ Some list = rw (scheme, back, reads) refl in
        list_at now n.id n named_new (seals_new by sealer is_by is_sealer)
        ∙ ap (λ o. or_refused (fault.KeyRefused n.id) o >>= (λ x. kek_of now ring x >>= (λ k. or_refused (fault.KeyRefused n.id) (opened_metadata k n)))) is_by
        ∙ ap (λ r. r >>= (λ k. or_refused (fault.KeyRefused n.id) (opened_metadata k n))) (keks_stay by ∙ opens)
        ∙ ap (or_refused (fault.KeyRefused n.id)) holds

-- ---- with the key of an append's list

nothing_in_order : in_order [] ≡ []
unfolding in_order
nothing_in_order = refl

-- the entry that seals a key-encryption key that opens is there
sealer_there : (table : KeyTable) (ring : Ring) (id key : List ℕ) → kek_of table ring id ≡ Ok key → (e : KeyEntry) × (entry_named id table.entries ≡ Some e)
sealer_there table ring id key h = by_entry (entry_named id table.entries) refl
  where
    by_entry : (o : Option KeyEntry) → entry_named id table.entries ≡ o → (e : KeyEntry) × (entry_named id table.entries ≡ Some e)
    by_entry None was = absurd (let none = no_kek table ring id was in let g : ⊥ = cc in g)
    by_entry (Some e) was = (e, was)

module _ (meta : Fields) (ring : Ring) (wrapper : Wrapper) (nonce : List ℕ) (list : KeyRecord) (entry : KeyEntry) (s : Snapshot) (now_ms : ℕ)
    (is : IsListEntry meta wrapper nonce list entry) (opens : kek_of (table_of meta.state) ring wrapper.id ≡ Ok wrapper.key) where
  abbrev was_table : KeyTable
  was_table = table_of meta.state

  abbrev now_table : KeyTable
  now_table = table_of (snapshot_fields meta s entry now_ms).state

  abbrev added : KeyEntry
  added = ordered entry

  is_new : list_any (names_key entry.id) was_table.entries ≡ false
  is_new = new_name meta.state entry.id is.id

  is_unnamed : entry_named entry.id was_table.entries ≡ None
  is_unnamed = new_key meta.state entry.id is.id

  pub keys_of_commit_stay : (id : List ℕ) → kek_of now_table ring id ≡ kek_of was_table ring id
  keys_of_commit_stay =
      let sealer = sealer_there was_table ring wrapper.id wrapper.key opens in
      keks_stay was_table ring added is_new is_unnamed wrapper.id sealer.0 is.by sealer.1

  pub lists_of_commit_stay : (id : List ℕ) (opened : KeyRecord) → list_key_of was_table ring id ≡ Ok opened → list_key_of now_table ring id ≡ Ok opened
  lists_of_commit_stay id opened h =
      let sealer = sealer_there was_table ring wrapper.id wrapper.key opens in
      lists_stay was_table ring added is_new is_unnamed wrapper.id sealer.0 is.by sealer.1 id
      (list_is_other was_table ring added is_new is_unnamed wrapper.id sealer.0 is.by sealer.1 id opened h) ∙ h

  pub own_list_opens : list_key_of now_table ring entry.id ≡ Ok list
  own_list_opens =
      let sealer = sealer_there was_table ring wrapper.id wrapper.key opens in
      new_opens was_table ring added is_new is_unnamed wrapper.id sealer.0 is.by sealer.1 wrapper.key nonce list opens is.size is.sealed is.reads_back (ap in_order is.plain ∙ nothing_in_order)
