-- The keys of a table whose master was replaced.
use Rattle.std.proofs.Common.{◌≡◌, ℕ, nat_lt, List, [], ◌∷◌, take, drop, length, Bool, true, false, Option, Some, None, is_none, option_map, option_and_then, unwrap_or, if◌then◌else◌, Result, Ok, Err, bytes_eq, refl, sym, ap, ◌∙◌, subst, arith}
use Rattle.std.specs.Result.{result_ok}
use Rattle.std.proofs.lemmas.Slice.Eq.{bytes_eq-Decides}
use Rattle.std.proofs.lemmas.Bool.Decides.{nat_tests}
use Rattle.icb_base.specs.KeyMetadata.{is_key_length}
use Rattle.icb_seal.specs.Block.{sealed_cipher_block, unwrapped}
use Rattle.icb_seal.proofs.BlockLemmas.{unwrapped_from_sealed}
use Rattle.icb_meta.specs.Forms.{entry_named}
use Rattle.icb_meta.specs.declared.records.KeyEntry.{KeyEntry}
use Rattle.icb_chain.specs.Opening.{KeyTable, ◌>>=◌, or_refused, is_scheme_1, kek_of, list_key_of, master_of, opened_key, opened_metadata, seals_key}
use Rattle.icb_chain.specs.Ring.{Ring, as_key, key_named}
use Rattle.icb_chain.specs.declared.fault.ChainFault.{ChainFault}
use Rattle.icb_chain.specs.declared.fault.ChainFault.TheVariants as fault
use Rattle.icb_rotate.specs.Keys.{put_first, rewrapped, rewrapped_entry, rotated, sealed_again, sealed_by}
use Rattle.icb_rotate.specs.Laws.{KeysStay, OnlyMaster}
use Rattle.icb_rotate.specs.declared.keys.Master.{Master}

some_same : {A : Type 0} (x y : A) → Some x ≡ Some y → x ≡ y
some_same x y e = ap (λ o. unwrap_or o x) e

-- ---- one entry

-- an entry that holds what another held, sealed by a master
pub record IsSealedAgain (table : KeyTable) (ring : Ring) (master : Master) (e n : KeyEntry) : Type 0 where
  pub nonce : List ℕ
  pub size : length nonce ≡ 12
  pub bytes : List ℕ
  pub opens : kek_of table ring e.id ≡ Ok bytes
  pub sealed : sealed_cipher_block master.key nonce e.id bytes ≡ Some n.sealed
  pub id : n.id ≡ e.id
  pub by : n.by ≡ Some master.id
  pub properties : n.properties ≡ e.properties

module _ (table : KeyTable) (ring : Ring) (master : Master) where
  by_seal : (nonce bytes : List ℕ) (e n : KeyEntry) (o : Option (List ℕ)) → length nonce ≡ 12 → kek_of table ring e.id ≡ Ok bytes
      → sealed_cipher_block master.key nonce e.id bytes ≡ o
      → option_map (λ sealed. sealed_by master sealed e) o ≡ Some n
      → IsSealedAgain table ring master e n
  by_seal nonce bytes e n None size opens s h = absurd (let g : ⊥ = cc in g)
  by_seal nonce bytes e n (Some sealed) size opens s h =
      let is : sealed_by master sealed e ≡ n = some_same _ n h in
      record {
        nonce = nonce;
        size = size;
        bytes = bytes;
        opens = opens;
        sealed = s ∙ ap (λ (x : KeyEntry). Some x.sealed) is;
        id = ap (λ (x : KeyEntry). x.id) (sym is);
        by = ap (λ (x : KeyEntry). x.by) (sym is);
        properties = ap (λ (x : KeyEntry). x.properties) (sym is);
      }

  by_key : (nonce : List ℕ) (e n : KeyEntry) (r : Result (List ℕ) ChainFault) → length nonce ≡ 12 → kek_of table ring e.id ≡ r
      → option_and_then (λ bytes. sealed_again master nonce bytes e) (result_ok r) ≡ Some n → IsSealedAgain table ring master e n
  by_key nonce e n (Ok bytes) size opens h = by_seal nonce bytes e n (sealed_cipher_block master.key nonce e.id bytes) size opens refl h
  by_key nonce e n (Err f) size opens h = absurd (let g : ⊥ = cc in g)

  twelve : (drawn : List ℕ) → nat_lt (length drawn) 12 ≡ false → length (take 12 drawn) ≡ 12
  twelve drawn h = grind (arith, nat_tests)

  by_nonce : (drawn : List ℕ) (e n : KeyEntry) (b : Bool) → nat_lt (length drawn) 12 ≡ b
      → option_and_then (λ nonce. option_and_then (λ bytes. sealed_again master nonce bytes e) (result_ok (kek_of table ring e.id))) (if b then None else Some (take 12 drawn)) ≡ Some n
      → IsSealedAgain table ring master e n
  by_nonce drawn e n true size h = absurd (let g : ⊥ = cc in g)
  by_nonce drawn e n false size h = by_key (take 12 drawn) e n (kek_of table ring e.id) (twelve drawn size) refl h

  pub is_sealed_again : (drawn : List ℕ) (e n : KeyEntry) → rewrapped_entry table ring master drawn e ≡ Some n → IsSealedAgain table ring master e n
  is_sealed_again drawn e n h = by_nonce drawn e n (nat_lt (length drawn) 12) refl h

  -- ---- entries by their names

  pub first_of : (o : Option KeyEntry) (rest : Option (List KeyEntry)) (ns : List KeyEntry) → put_first o rest ≡ Some ns
      → (n : KeyEntry) × (more : List KeyEntry) × (o ≡ Some n) × (rest ≡ Some more) × (ns ≡ n ∷ more)
  first_of None rest ns h = absurd (let g : ⊥ = cc in g)
  first_of (Some n) None ns h = absurd (let g : ⊥ = cc in g)
  first_of (Some n) (Some more) ns h = (n, more, refl, refl, sym (some_same (n ∷ more) ns h))

  -- what an entry became
  abbrev pub BecameOf : Bool → KeyEntry → Option KeyEntry → Type 0
  BecameOf true e now = (n : KeyEntry) × (now ≡ Some n) × IsSealedAgain table ring master e n
  BecameOf false e now = now ≡ Some e

  abbrev pub Became : Option KeyEntry → Option KeyEntry → Type 0
  Became None now = now ≡ None
  Became (Some e) now = BecameOf (seals_key table e) e now

  became_first : (id : List ℕ) (e n : KeyEntry) (es more : List KeyEntry) (b : Bool) → bytes_eq e.id id ≡ b → n.id ≡ e.id
      → Became (Some e) (Some n) → Became (entry_named id es) (entry_named id more)
      → Became (if b then Some e else entry_named id es) (entry_named id (n ∷ more))
  became_first id e n es more true is same here later = rw (ap (λ x. bytes_eq x id) same ∙ is) here
  became_first id e n es more false is same here later = rw (ap (λ x. bytes_eq x id) same ∙ is) later

  named_by : (id : List ℕ) (e : KeyEntry) (es : List KeyEntry) (drawn : List ℕ) (ns : List KeyEntry) (b : Bool) → seals_key table e ≡ b
      → ((left : List ℕ) (more : List KeyEntry) → rewrapped table ring master es left ≡ Some more → Became (entry_named id es) (entry_named id more))
      → (if b then put_first (rewrapped_entry table ring master drawn e) (rewrapped table ring master es (drop 12 drawn)) else put_first (Some e) (rewrapped table ring master es drawn)) ≡ Some ns
      → Became (entry_named id (e ∷ es)) (entry_named id ns)
  named_by id e es drawn ns true seals later h =
      let f = first_of (rewrapped_entry table ring master drawn e) (rewrapped table ring master es (drop 12 drawn)) ns h in
      let again = is_sealed_again drawn e f.0 f.2 in
      let here : Became (Some e) (Some f.0) = subst (λ b. BecameOf b e (Some f.0)) (sym seals) (f.0, refl, again) in
      subst (λ l. Became (entry_named id (e ∷ es)) (entry_named id l)) (sym f.4)
      (became_first id e f.0 es f.1 (bytes_eq e.id id) refl again.id here (later (drop 12 drawn) f.1 f.3))
  named_by id e es drawn ns false seals later h =
      let f = first_of (Some e) (rewrapped table ring master es drawn) ns h in
      let here : Became (Some e) (Some e) = subst (λ b. BecameOf b e (Some e)) (sym seals) refl in
      let same : e ≡ f.0 = some_same e f.0 f.2 in
      subst (λ l. Became (entry_named id (e ∷ es)) (entry_named id l)) (sym (f.4 ∙ ap (λ x. x ∷ f.1) (sym same)))
      (became_first id e e es f.1 (bytes_eq e.id id) refl refl here (later drawn f.1 f.3))

  pub became_named : (id : List ℕ) (es : List KeyEntry) (drawn : List ℕ) (ns : List KeyEntry) → rewrapped table ring master es drawn ≡ Some ns
      → Became (entry_named id es) (entry_named id ns)
  unfolding rewrapped
  became_named id [] drawn ns h = ap (entry_named id) (sym (some_same [] ns h))
  became_named id (e ∷ es) drawn ns h =
      named_by id e es drawn ns (seals_key table e) refl (λ left more is. became_named id es left more is) h

  -- ---- what an entry that opens is

  named_first : (id : List ℕ) (x e : KeyEntry) (rest : Option KeyEntry) (b : Bool) → bytes_eq x.id id ≡ b → (rest ≡ Some e → e.id ≡ id)
      → (if b then Some x else rest) ≡ Some e → e.id ≡ id
  named_first id x e rest true is later h = ap (λ (y : KeyEntry). y.id) (sym (some_same x e h)) ∙ (bytes_eq-Decides x.id id).0 is
  named_first id x e rest false is later h = later h

  named_id : (id : List ℕ) (es : List KeyEntry) (e : KeyEntry) → entry_named id es ≡ Some e → e.id ≡ id
  named_id id [] e h = absurd (let g : ⊥ = cc in g)
  named_id id (x ∷ es) e h = named_first id x e (entry_named id es) (bytes_eq x.id id) refl (λ k. named_id id es e k) h

  abbrev pub IsOpened : KeyEntry → List ℕ → Type 0
  IsOpened e bytes = (is_scheme_1 e ≡ true) × (as_key bytes ≡ Some bytes)

  by_length : (e : KeyEntry) (id found bytes : List ℕ) (b : Bool) → is_key_length (length found) ≡ b → is_scheme_1 e ≡ true
      → or_refused (fault.KeyRefused id) (if b then Some found else None) ≡ Ok bytes → IsOpened e bytes
  by_length e id found bytes true size scheme h =
      let same : found ≡ bytes = ap (λ (r : Result (List ℕ) ChainFault). unwrap_or (result_ok r) found) h in
      (scheme, subst (λ x. as_key x ≡ Some x) same (rw size refl))
  by_length e id found bytes false size scheme h = absurd (let g : ⊥ = cc in g)

  by_bytes : (e : KeyEntry) (id bytes : List ℕ) (o : Option (List ℕ)) → is_scheme_1 e ≡ true
      → or_refused (fault.KeyRefused id) (option_and_then as_key o) ≡ Ok bytes → IsOpened e bytes
  by_bytes e id bytes None scheme h = absurd (let g : ⊥ = cc in g)
  by_bytes e id bytes (Some found) scheme h = by_length e id found bytes (is_key_length (length found)) refl scheme h

  by_scheme : (e : KeyEntry) (id bytes : List ℕ) (o : Option (List ℕ)) (b : Bool) → is_scheme_1 e ≡ b
      → or_refused (fault.KeyRefused id) (option_and_then as_key (if b then o else None)) ≡ Ok bytes → IsOpened e bytes
  by_scheme e id bytes o true scheme h = by_bytes e id bytes o scheme h
  by_scheme e id bytes o false scheme h = absurd (let g : ⊥ = cc in g)

  by_ring : (e : KeyEntry) (id by bytes : List ℕ) (o : Option (List ℕ))
      → (or_refused (fault.NoKey by) o >>= (λ m. or_refused (fault.KeyRefused id) (opened_key m e))) ≡ Ok bytes → IsOpened e bytes
  by_ring e id by bytes None h = absurd (let g : ⊥ = cc in g)
  by_ring e id by bytes (Some m) h = by_scheme e id bytes (unwrapped m e.id e.sealed) (is_scheme_1 e) refl h

  by_master : (e : KeyEntry) (id bytes : List ℕ) (o : Option (List ℕ))
      → (or_refused (fault.KeyRefused id) o >>= (λ by. or_refused (fault.NoKey by) (key_named by ring) >>= (λ m. or_refused (fault.KeyRefused id) (opened_key m e)))) ≡ Ok bytes → IsOpened e bytes
  by_master e id bytes None h = absurd (let g : ⊥ = cc in g)
  by_master e id bytes (Some by) h = by_ring e id by bytes (key_named by ring) h

  by_entry : (id bytes : List ℕ) (e : KeyEntry) (b : Bool)
      → (or_refused (fault.NoKey id) (if b then Some e else None) >>= (λ x. or_refused (fault.KeyRefused id) (master_of table x) >>= (λ by. or_refused (fault.NoKey by) (key_named by ring) >>= (λ m. or_refused (fault.KeyRefused id) (opened_key m x))))) ≡ Ok bytes
      → IsOpened e bytes
  by_entry id bytes e true h = by_master e id bytes (master_of table e) h
  by_entry id bytes e false h = absurd (let g : ⊥ = cc in g)

  is_opened : (id bytes : List ℕ) (e : KeyEntry) → entry_named id table.entries ≡ Some e → kek_of table ring id ≡ Ok bytes → IsOpened e bytes
  unfolding kek_of
  is_opened id bytes e was h = by_entry id bytes e (seals_key table e) (rw was at h)

  -- ---- all keys

  module _ (ring_now : Ring) (ns : List KeyEntry) (new : entry_named master.id table.entries ≡ None)
      (known : key_named master.id ring_now ≡ Some master.key)
      (same : (id : List ℕ) → Became (entry_named id table.entries) (entry_named id ns)) where
    became_some : (s : KeyEntry) (b : Bool) (now : Option KeyEntry) → BecameOf b s now → is_none now ≡ false
    became_some s true now h = rw h.1 refl
    became_some s false now h = rw h refl

    by_sealer : (o now : Option KeyEntry) → Became o now → is_none o ≡ false → is_none now ≡ false
    by_sealer None now h some = absurd (let g : ⊥ = cc in g)
    by_sealer (Some s) now h some = became_some s (seals_key table s) now h

    by_name : (by : Option (List ℕ)) → is_none (option_and_then (λ x. entry_named x table.entries) by) ≡ false
        → is_none (option_and_then (λ x. entry_named x ns) by) ≡ false
    by_name None some = absurd (let g : ⊥ = cc in g)
    by_name (Some by) some = by_sealer (entry_named by table.entries) (entry_named by ns) (same by) some

    list_stays : (e : KeyEntry) → seals_key table e ≡ false → seals_key (rotated master ns) e ≡ false
    list_stays e h = by_name e.by h

    none_now : entry_named master.id ns ≡ None
    none_now = subst (λ o. Became o (entry_named master.id ns)) new (same master.id)

    key_stays : (e n : KeyEntry) → IsSealedAgain table ring master e n → seals_key (rotated master ns) n ≡ true
    key_stays e n again = rw (again.by, none_now) refl

    scheme_stays : (e n : KeyEntry) → IsSealedAgain table ring master e n → is_scheme_1 e ≡ true → is_scheme_1 n ≡ true
    scheme_stays e n again h = rw again.properties h

    opened_now : (e n : KeyEntry) (again : IsSealedAgain table ring master e n) → IsOpened e again.bytes → opened_key master.key n ≡ Some again.bytes
    opened_now e n again h =
        let back : unwrapped master.key e.id n.sealed ≡ Some again.bytes = unwrapped_from_sealed master.key again.nonce e.id again.bytes n.sealed again.size again.sealed in
        rw (scheme_stays e n again h.0, again.id, back) h.1

    kek_now : (id : List ℕ) (e n : KeyEntry) (again : IsSealedAgain table ring master e n) → entry_named id ns ≡ Some n → IsOpened e again.bytes
        → kek_of (rotated master ns) ring_now id ≡ Ok again.bytes
    unfolding kek_of
    kek_now id e n again is h = rw (is, key_stays e n again, again.by, known, opened_now e n again h) refl

    kek_none : (t : KeyTable) (r : Ring) (id : List ℕ) → entry_named id t.entries ≡ None → kek_of t r id ≡ Err (fault.NoKey id)
    unfolding kek_of
    kek_none t r id h = rw h refl

    kek_list : (t : KeyTable) (r : Ring) (id : List ℕ) (e : KeyEntry) → entry_named id t.entries ≡ Some e → seals_key t e ≡ false → kek_of t r id ≡ Err (fault.NoKey id)
    unfolding kek_of
    kek_list t r id e was seals = rw (was, seals) refl

    kek_some : (id : List ℕ) (e : KeyEntry) (b : Bool) → seals_key table e ≡ b → entry_named id table.entries ≡ Some e
        → BecameOf b e (entry_named id ns) → kek_of (rotated master ns) ring_now id ≡ kek_of table ring id
    kek_some id e true seals was h =
        let name = named_id id table.entries e was in
        let old : kek_of table ring id ≡ Ok h.2.bytes = subst (λ x. kek_of table ring x ≡ Ok h.2.bytes) name h.2.opens in
        kek_now id e h.0 h.2 h.1 (is_opened id h.2.bytes e was old) ∙ sym old
    kek_some id e false seals was h =
        kek_list (rotated master ns) ring_now id e h (list_stays e seals) ∙ sym (kek_list table ring id e was seals)

    kek_by : (id : List ℕ) (o : Option KeyEntry) → entry_named id table.entries ≡ o → Became o (entry_named id ns)
        → kek_of (rotated master ns) ring_now id ≡ kek_of table ring id
    kek_by id None was h = kek_none (rotated master ns) ring_now id h ∙ sym (kek_none table ring id was)
    kek_by id (Some e) was h = kek_some id e (seals_key table e) refl was h

    pub keks_stay : (id : List ℕ) → kek_of (rotated master ns) ring_now id ≡ kek_of table ring id
    keks_stay id = kek_by id (entry_named id table.entries) refl (same id)

    behind_by : {A : Type 0} (e : KeyEntry) (id : List ℕ) (by : Option (List ℕ)) (f : List ℕ → Result A ChainFault)
        → (or_refused (fault.KeyRefused id) by >>= (λ x. kek_of (rotated master ns) ring_now x >>= f))
        ≡ (or_refused (fault.KeyRefused id) by >>= (λ x. kek_of table ring x >>= f))
    behind_by e id None f = refl
    behind_by e id (Some by) f = ap (λ r. r >>= f) (keks_stay by)

    list_none : (t : KeyTable) (r : Ring) (id : List ℕ) → entry_named id t.entries ≡ None → list_key_of t r id ≡ Err (fault.NoKey id)
    unfolding list_key_of
    list_none t r id h = rw h refl

    list_key : (t : KeyTable) (r : Ring) (id : List ℕ) (e : KeyEntry) → entry_named id t.entries ≡ Some e → seals_key t e ≡ true → list_key_of t r id ≡ Err (fault.NoKey id)
    unfolding list_key_of
    list_key t r id e was seals = rw (was, seals) refl

    list_at : (t : KeyTable) (r : Ring) (id : List ℕ) (e : KeyEntry) → entry_named id t.entries ≡ Some e → seals_key t e ≡ false
        → list_key_of t r id ≡ (or_refused (fault.KeyRefused id) e.by >>= (λ x. kek_of t r x >>= (λ key. or_refused (fault.KeyRefused id) (opened_metadata key e))))
    unfolding list_key_of
    list_at t r id e was seals = rw (was, seals) refl

    list_some : (id : List ℕ) (e : KeyEntry) (b : Bool) → seals_key table e ≡ b → entry_named id table.entries ≡ Some e
        → BecameOf b e (entry_named id ns) → list_key_of (rotated master ns) ring_now id ≡ list_key_of table ring id
    list_some id e true seals was h =
        list_key (rotated master ns) ring_now id h.0 h.1 (key_stays e h.0 h.2) ∙ sym (list_key table ring id e was seals)
    list_some id e false seals was h =
        list_at (rotated master ns) ring_now id e h (list_stays e seals)
        ∙ behind_by e id e.by (λ key. or_refused (fault.KeyRefused id) (opened_metadata key e))
        ∙ sym (list_at table ring id e was seals)

    list_by : (id : List ℕ) (o : Option KeyEntry) → entry_named id table.entries ≡ o → Became o (entry_named id ns)
        → list_key_of (rotated master ns) ring_now id ≡ list_key_of table ring id
    list_by id None was h = list_none (rotated master ns) ring_now id h ∙ sym (list_none table ring id was)
    list_by id (Some e) was h = list_some id e (seals_key table e) refl was h

    pub lists_stay : (id : List ℕ) → list_key_of (rotated master ns) ring_now id ≡ list_key_of table ring id
    lists_stay id = list_by id (entry_named id table.entries) refl (same id)

pub keys_stay : KeysStay
keys_stay table ring ring_now master entries h known = record {
  keys = keks_stay table ring master ring_now entries h.new known (λ id. became_named table ring master id table.entries h.drawn entries h.sealed);
  lists = lists_stay table ring master ring_now entries h.new known (λ id. became_named table ring master id table.entries h.drawn entries h.sealed);
}

pub only_master : OnlyMaster
only_master master = rw ((bytes_eq-Decides master.id master.id).1 refl) refl
