-- What using a key does to the keys that are kept.
use Rattle.std.proofs.Common.{◌≡◌, ◌-◌, ◌<◌, ◌≤◌, ℕ, zero, suc, Bool, true, false, cond, List, [], ◌∷◌, length, map, take, Option, Some, None, refl, sym, ap, subst, ◌∙◌, arith}
use Rattle.std.specs.Prelude.{bytes_eq, option_map, is_some, MatchOption, Ok}
use Rattle.std.specs.List.{AllByRecursion}
use Rattle.std.specs.Option.{option_map_or}
use Rattle.std.specs.Map.{lookup, lookup_entry, remove_entry}
use Rattle.std.proofs.lemmas.List.{take_all, length-take}
use Rattle.std.proofs.lemmas.Slice.Eq.{bytes_eq-Decides}
use Rattle.lru.specs.LruCache.{LruCache, lru_cache, promoted, put_entries}
use Rattle.icb_chain.specs.ChainCalls.{kept_of}
use Rattle.icb_chain.specs.Kept.{IsSound, Kept, kept_key, used}
use Rattle.icb_chain.specs.Opening.{KeyTable, kek_of}
use Rattle.icb_chain.specs.Ring.{Ring}

-- ---- entries seen as pairs

abbrev pub pair_by : {K V : Type 0} → (K → List ℕ) → K × V → List ℕ × V
pair_by bytes e = (bytes e.0, e.1)

abbrev pub test_by : {K : Type 0} → (K → List ℕ) → (List ℕ → Bool) → K → Bool
test_by bytes look k = look (bytes k)

module _ {K V : Type 0} (bytes : K → List ℕ) (look : List ℕ → Bool) where
  map_cond : (b : Bool) (xs ys : List (K × V)) → map (pair_by bytes) (cond b xs ys) ≡ cond b (map (pair_by bytes) xs) (map (pair_by bytes) ys)
  map_cond true xs ys = refl
  map_cond false xs ys = refl

  pub remove_seen : (es : List (K × V)) → map (pair_by bytes) (remove_entry (test_by bytes look) es) ≡ remove_entry look (map (pair_by bytes) es)
  remove_seen [] = refl
  remove_seen (e ∷ es) = map_cond ((test_by bytes look) e.0) es (e ∷ remove_entry (test_by bytes look) es)
      ∙ ap (λ (rest : List (List ℕ × V)). cond ((test_by bytes look) e.0) (map (pair_by bytes) es) ((pair_by bytes) e ∷ rest)) (remove_seen es)

  option_cond : (b : Bool) (e : K × V) (o : Option (K × V)) → option_map (pair_by bytes) (cond b (Some e) o) ≡ cond b (Some ((pair_by bytes) e)) (option_map (pair_by bytes) o)
  option_cond true e o = refl
  option_cond false e o = refl

  pub entry_seen : (es : List (K × V)) → option_map (pair_by bytes) (lookup_entry (test_by bytes look) es) ≡ lookup_entry look (map (pair_by bytes) es)
  entry_seen [] = refl
  entry_seen (e ∷ es) = option_cond ((test_by bytes look) e.0) e (lookup_entry (test_by bytes look) es)
      ∙ ap (λ (o : Option (List ℕ × V)). cond ((test_by bytes look) e.0) (Some ((pair_by bytes) e)) o) (entry_seen es)

  pub value_seen : (es : List (K × V)) → lookup (test_by bytes look) es ≡ lookup look (map (pair_by bytes) es)
  value_seen [] = refl
  value_seen (e ∷ es) = ap (λ (o : Option V). cond ((test_by bytes look) e.0) (Some e.1) o) (value_seen es)

  pub take_seen : (n : ℕ) (es : List (K × V)) → map (pair_by bytes) (take n es) ≡ take n (map (pair_by bytes) es)
  take_seen zero es = refl
  take_seen (suc n) [] = refl
  take_seen (suc n) (e ∷ es) = ap (λ (rest : List (List ℕ × V)). (pair_by bytes) e ∷ rest) (take_seen n es)

-- ---- pairs

same_id : (id other : List ℕ) → bytes_eq id other ≡ true → other ≡ id
same_id id other h = sym ((bytes_eq-Decides id other).0 h)

module _ {V : Type 0} (id : List ℕ) where
  -- the entry that is found has the id, and its value is the one that is looked up
  pub found_pair : (ps : List (List ℕ × V)) (p : List ℕ × V) → lookup_entry (bytes_eq id) ps ≡ Some p → (p.0 ≡ id) × (lookup (bytes_eq id) ps ≡ Some p.1)
  found_pair [] p h = absurd cc
  found_pair (q ∷ ps) p h = (elim (bytes_eq id q.0) as (λ (b : Bool). bytes_eq id q.0 ≡ b → (p.0 ≡ id) × (lookup (bytes_eq id) (q ∷ ps) ≡ Some p.1)) [
    | true ↦ λ t. let e : Some q ≡ Some p = rw t at h in let same : q ≡ p = cc in
        (subst (λ (r : List ℕ × V). r.0 ≡ id) same (same_id id q.0 t), rw t (ap (λ (r : List ℕ × V). Some r.1) same))
    | false ↦ λ t. let e : lookup_entry (bytes_eq id) ps ≡ Some p = rw t at h in let inner = found_pair ps p e in (inner.0, rw t inner.1)
  ]) refl

  pub found_none : (ps : List (List ℕ × V)) → lookup_entry (bytes_eq id) ps ≡ None → (lookup (bytes_eq id) ps ≡ None) × (remove_entry (bytes_eq id) ps ≡ ps)
  found_none [] h = (refl, refl)
  found_none (q ∷ ps) h = (elim (bytes_eq id q.0) as (λ (b : Bool). bytes_eq id q.0 ≡ b → (lookup (bytes_eq id) (q ∷ ps) ≡ None) × (remove_entry (bytes_eq id) (q ∷ ps) ≡ q ∷ ps)) [
    | true ↦ λ t. let e : Some q ≡ None = rw t at h in absurd cc
    | false ↦ λ t. let e : lookup_entry (bytes_eq id) ps ≡ None = rw t at h in let inner = found_none ps e in
        (rw t inner.0, rw t (ap (λ (rest : List (List ℕ × V)). q ∷ rest) inner.1))
  ]) refl

  pub found_shorter : (ps : List (List ℕ × V)) (p : List ℕ × V) → lookup_entry (bytes_eq id) ps ≡ Some p → suc (length (remove_entry (bytes_eq id) ps)) ≡ length ps
  found_shorter [] p h = absurd cc
  found_shorter (q ∷ ps) p h = (elim (bytes_eq id q.0) as (λ (b : Bool). bytes_eq id q.0 ≡ b → suc (length (remove_entry (bytes_eq id) (q ∷ ps))) ≡ length (q ∷ ps)) [
    | true ↦ λ t. rw t refl
    | false ↦ λ t. let e : lookup_entry (bytes_eq id) ps ≡ Some p = rw t at h in rw t (ap suc (found_shorter ps p e))
  ]) refl

  -- ---- what holds of each pair

  module _ (P : List ℕ × V → Type 0) where
    pub all_removed : (ps : List (List ℕ × V)) → AllByRecursion P ps → AllByRecursion P (remove_entry (bytes_eq id) ps)
    all_removed [] h = h
    all_removed (q ∷ ps) h = (elim (bytes_eq id q.0) as (λ (b : Bool). AllByRecursion P (cond b ps (q ∷ remove_entry (bytes_eq id) ps))) [
      | true ↦ h.1
      | false ↦ (h.0, all_removed ps h.1)
    ])

    pub all_taken : (n : ℕ) (ps : List (List ℕ × V)) → AllByRecursion P ps → AllByRecursion P (take n ps)
    all_taken zero ps h = tt
    all_taken (suc n) [] h = tt
    all_taken (suc n) (q ∷ ps) h = (h.0, all_taken n ps h.1)

    pub all_found : (ps : List (List ℕ × V)) (v : V) → AllByRecursion P ps → lookup (bytes_eq id) ps ≡ Some v → P (id, v)
    all_found [] v all h = absurd cc
    all_found (q ∷ ps) v all h = (elim (bytes_eq id q.0) as (λ (b : Bool). bytes_eq id q.0 ≡ b → P (id, v)) [
      | true ↦ λ t. let e : Some q.1 ≡ Some v = rw t at h in let same : q.1 ≡ v = cc in
          subst (λ (w : V). P (id, w)) same (subst (λ (i : List ℕ). P (i, q.1)) (same_id id q.0 t) all.0)
      | false ↦ λ t. let e : lookup (bytes_eq id) ps ≡ Some v = rw t at h in all_found ps v all.1 e
    ]) refl

-- ---- using a key

-- a pair that is there goes first
pub used_found : (id key : List ℕ) (kept : Kept) (p : List ℕ × List ℕ) → length kept.pairs ≤ kept.capacity → lookup_entry (bytes_eq id) kept.pairs ≡ Some p
    → (id, key) ∷ remove_entry (bytes_eq id) kept.pairs ≡ take kept.capacity ((id, key) ∷ remove_entry (bytes_eq id) kept.pairs)
used_found id key kept p fits h =
    let shorter = found_shorter id kept.pairs p h in
    sym (take_all kept.capacity ((id, key) ∷ remove_entry (bytes_eq id) kept.pairs) (omega arith))

-- a pair that isn't there goes first, and the last one goes where there is no room
pub used_new : (id key : List ℕ) (kept : Kept) → 0 < kept.capacity → lookup_entry (bytes_eq id) kept.pairs ≡ None
    → (id, key) ∷ take (kept.capacity - 1) kept.pairs ≡ take kept.capacity ((id, key) ∷ remove_entry (bytes_eq id) kept.pairs)
used_new id key kept room h =
    let whole = (found_none id kept.pairs h).1 in
    let size : kept.capacity ≡ suc (kept.capacity - 1) = omega arith in
    rw whole (subst (λ (n : ℕ). (id, key) ∷ take (kept.capacity - 1) kept.pairs ≡ take n ((id, key) ∷ kept.pairs)) (sym size) refl)

-- ---- the cache

module _ {K : Type 0} (bytes : K → List ℕ) where
  abbrev pub seen : LruCache K (List ℕ) → Kept
  seen c = kept_of bytes c

  abbrev pub by_bytes : List ℕ → K → Bool
  by_bytes id = test_by bytes (bytes_eq id)

  -- what a look-up leaves, by what it finds
  abbrev pub Promotes : LruCache K (List ℕ) → List ℕ → Option (List ℕ) → List (K × List ℕ) → Type 0
  Promotes c id None es = map (pair_by bytes) es ≡ (seen c).pairs
  Promotes c id (Some key) es = map (pair_by bytes) es ≡ (used id key (seen c)).pairs

  entry_at : (c : LruCache K (List ℕ)) (id : List ℕ) (o : Option (K × List ℕ)) → lookup_entry (by_bytes id) c.entries ≡ o
      → lookup_entry (bytes_eq id) (seen c).pairs ≡ option_map (pair_by bytes) o
  entry_at c id o h = sym (entry_seen bytes (bytes_eq id) c.entries) ∙ ap (λ (p : Option (K × List ℕ)). option_map (pair_by bytes) p) h

  size_seen : (es : List (K × List ℕ)) → length (map (pair_by bytes) es) ≡ length es
  size_seen [] = refl
  size_seen (e ∷ es) = ap suc (size_seen es)

  -- an entry that is found goes first, with this value
  first_seen : (c : LruCache K (List ℕ)) (id key : List ℕ) (e : K × List ℕ) → length c.entries ≤ c.cap → lookup_entry (by_bytes id) c.entries ≡ Some e
      → map (pair_by bytes) ((e.0, key) ∷ remove_entry (by_bytes id) c.entries) ≡ (used id key (seen c)).pairs
  first_seen c id key e fits h =
      let at = entry_at c id (Some e) h in
      let p = found_pair id (seen c).pairs (bytes e.0, e.1) at in
      ap (λ (rest : List (List ℕ × List ℕ)). (bytes e.0, key) ∷ rest) (remove_seen bytes (bytes_eq id) c.entries)
      ∙ ap (λ (i : List ℕ). (i, key) ∷ remove_entry (bytes_eq id) (seen c).pairs) p.0
      ∙ used_found id key (seen c) (bytes e.0, e.1) (omega (arith, size_seen c.entries)) at

  promoted_cases : (c : LruCache K (List ℕ)) (id : List ℕ) (o : Option (K × List ℕ)) → length c.entries ≤ c.cap → lookup_entry (by_bytes id) c.entries ≡ o
      → Promotes c id (lookup (bytes_eq id) (seen c).pairs) (option_map_or (λ e. e ∷ remove_entry (by_bytes id) c.entries) o c.entries)
  promoted_cases c id None fits h =
      let none = (found_none id (seen c).pairs (entry_at c id None h)).0 in rw none refl
  promoted_cases c id (Some e) fits h =
      let p = found_pair id (seen c).pairs (bytes e.0, e.1) (entry_at c id (Some e) h) in
      rw p.1 (first_seen c id e.1 e fits h)

  pub promoted_seen : (c : LruCache K (List ℕ)) (id : List ℕ) → length c.entries ≤ c.cap
      → Promotes c id (lookup (bytes_eq id) (seen c).pairs) (promoted (by_bytes id) c.entries)
  promoted_seen c id fits = promoted_cases c id (lookup_entry (by_bytes id) c.entries) fits refl

  put_cases : (c : LruCache K (List ℕ)) (k : K) (key : List ℕ) (o : Option (K × List ℕ)) → length c.entries ≤ c.cap → 0 < c.cap
      → lookup_entry (by_bytes (bytes k)) c.entries ≡ o
      → map (pair_by bytes) (option_map_or (λ e. (e.0, key) ∷ remove_entry (by_bytes (bytes k)) c.entries) o ((k, key) ∷ take (c.cap - 1) c.entries))
      ≡ (used (bytes k) key (seen c)).pairs
  put_cases c k key None fits room h =
      ap (λ (rest : List (List ℕ × List ℕ)). (bytes k, key) ∷ rest) (take_seen bytes (bytes_eq []) (c.cap - 1) c.entries)
      ∙ used_new (bytes k) key (seen c) room (entry_at c (bytes k) None h)
  put_cases c k key (Some e) fits room h = first_seen c (bytes k) key e fits h

  pub put_seen : (c : LruCache K (List ℕ)) (k : K) (key : List ℕ) → length c.entries ≤ c.cap → 0 < c.cap
      → map (pair_by bytes) (put_entries (λ a b. bytes_eq (bytes a) (bytes b)) c k key) ≡ (used (bytes k) key (seen c)).pairs
  put_seen c k key fits room = put_cases c k key (lookup_entry (by_bytes (bytes k)) c.entries) fits room refl

-- ---- the chain

none_is : (o : Option (List ℕ)) → is_some o ≡ false → o ≡ None
none_is None h = refl
none_is (Some x) h = absurd cc

some_is : (o : Option (List ℕ)) → is_some o ≡ true → (x : List ℕ) × (o ≡ Some x)
some_is None h = absurd cc
some_is (Some x) h = (x, refl)

first_key : (id key : List ℕ) (kept : Kept) → 0 < kept.capacity → lookup (bytes_eq id) (used id key kept).pairs ≡ Some key
first_key id key kept room =
    let size : kept.capacity ≡ suc (kept.capacity - 1) = omega arith in
    subst (λ (n : ℕ). lookup (bytes_eq id) (take n ((id, key) ∷ remove_entry (bytes_eq id) kept.pairs)) ≡ Some key) (sym size)
    (rw ((bytes_eq-Decides id id).1 refl) refl)

module _ {K : Type 0} (bytes : K → List ℕ) where
  -- no key of the id is kept
  pub absent_key : (c : LruCache K (List ℕ)) (id asked : List ℕ) (kept : Kept) → kept_of bytes c ≡ kept → asked ≡ id
      → is_some (lookup (by_bytes bytes asked) c.entries) ≡ false → None ≡ kept_key id kept
  absent_key c id asked kept view same none =
      rw (← view, ← same) (sym (sym (value_seen bytes (bytes_eq asked) c.entries) ∙ none_is (lookup (by_bytes bytes asked) c.entries) none))

  with_pairs : (c new : LruCache K (List ℕ)) (es : List (K × List ℕ)) (after : Kept) → new ≡ lru_cache es c.cap
      → map (pair_by bytes) es ≡ after.pairs → c.cap ≡ after.capacity → kept_of bytes new ≡ after
  with_pairs c new es after n p size = rw (n, p, size) refl

  pub absent_kept : (c new : LruCache K (List ℕ)) (asked : List ℕ) (kept : Kept) → kept_of bytes c ≡ kept
      → is_some (lookup (by_bytes bytes asked) c.entries) ≡ false → length c.entries ≤ c.cap
      → new ≡ lru_cache (promoted (by_bytes bytes asked) c.entries) c.cap → kept_of bytes new ≡ kept
  absent_kept c new asked kept view none fits n =
      let gone : lookup (bytes_eq asked) (seen bytes c).pairs ≡ None = sym (value_seen bytes (bytes_eq asked) c.entries) ∙ none_is (lookup (by_bytes bytes asked) c.entries) none in
      let same : map (pair_by bytes) (promoted (by_bytes bytes asked) c.entries) ≡ (seen bytes c).pairs =
      subst (λ (o : Option (List ℕ)). Promotes bytes c asked o (promoted (by_bytes bytes asked) c.entries)) gone (promoted_seen bytes c asked fits) in
      with_pairs c new (promoted (by_bytes bytes asked) c.entries) (kept_of bytes c) n same refl ∙ view

  -- the key of the id is kept
  pub record IsFound (c : LruCache K (List ℕ)) (id : List ℕ) : Type 0 where
    pub key : List ℕ
    pub was : lookup (bytes_eq id) (kept_of bytes c).pairs ≡ Some key
    pub now_first : lookup (by_bytes bytes id) (promoted (by_bytes bytes id) c.entries) ≡ Some key
    pub pairs : map (pair_by bytes) (promoted (by_bytes bytes id) c.entries) ≡ (used id key (kept_of bytes c)).pairs

  found : (c : LruCache K (List ℕ)) (id : List ℕ) → length c.entries ≤ c.cap → 0 < c.cap → is_some (lookup (by_bytes bytes id) c.entries) ≡ true → IsFound c id
  found c id fits room there =
      let s = some_is (lookup (by_bytes bytes id) c.entries) there in
      let l : lookup (bytes_eq id) (seen bytes c).pairs ≡ Some s.0 = sym (value_seen bytes (bytes_eq id) c.entries) ∙ s.1 in
      let p : map (pair_by bytes) (promoted (by_bytes bytes id) c.entries) ≡ (used id s.0 (seen bytes c)).pairs =
      subst (λ (o : Option (List ℕ)). Promotes bytes c id o (promoted (by_bytes bytes id) c.entries)) l (promoted_seen bytes c id fits) in
      record {
        key = s.0;
        was = l;
        now_first = value_seen bytes (bytes_eq id) (promoted (by_bytes bytes id) c.entries)
            ∙ ap (λ (ps : List (List ℕ × List ℕ)). lookup (bytes_eq id) ps) p ∙ first_key id s.0 (seen bytes c) room;
        pairs = p;
      }

  pub found_key : (c new : LruCache K (List ℕ)) (id a b : List ℕ) (kept : Kept) (r : Option (List ℕ)) → kept_of bytes c ≡ kept → a ≡ id → b ≡ id
      → is_some (lookup (by_bytes bytes a) c.entries) ≡ true → length c.entries ≤ c.cap → 0 < c.cap
      → new ≡ lru_cache (promoted (by_bytes bytes a) c.entries) c.cap → r ≡ lookup (by_bytes bytes b) new.entries → r ≡ kept_key id kept
  found_key c new id a b kept r view e f there fits room n h =
      let k = found c id fits room (subst (λ (x : List ℕ). is_some (lookup (by_bytes bytes x) c.entries) ≡ true) e there) in
      rw (h, n, f, e, ← view) (k.now_first ∙ sym k.was)

  pub found_kept : (c new : LruCache K (List ℕ)) (id a b : List ℕ) (kept : Kept) (r : Option (List ℕ)) → kept_of bytes c ≡ kept → a ≡ id → b ≡ id
      → is_some (lookup (by_bytes bytes a) c.entries) ≡ true → length c.entries ≤ c.cap → 0 < c.cap
      → new ≡ lru_cache (promoted (by_bytes bytes a) c.entries) c.cap → r ≡ lookup (by_bytes bytes b) new.entries
      → MatchOption r (kept_of bytes new ≡ kept) (λ key. kept_of bytes new ≡ used id key kept)
  found_kept c new id a b kept r view e f there fits room n h =
      let k = found c id fits room (subst (λ (x : List ℕ). is_some (lookup (by_bytes bytes x) c.entries) ≡ true) e there) in
      let n2 : new ≡ lru_cache (promoted (by_bytes bytes id) c.entries) c.cap = subst (λ (x : List ℕ). new ≡ lru_cache (promoted (by_bytes bytes x) c.entries) c.cap) e n in
      let value : r ≡ Some k.key = h ∙ subst (λ (x : List ℕ). lookup (by_bytes bytes x) new.entries ≡ lookup (by_bytes bytes id) new.entries) (sym f) refl
      ∙ ap (λ (d : LruCache K (List ℕ)). lookup (by_bytes bytes id) d.entries) n2 ∙ k.now_first in
      let after : kept_of bytes new ≡ used id k.key (kept_of bytes c) = with_pairs c new (promoted (by_bytes bytes id) c.entries) (used id k.key (kept_of bytes c)) n2 k.pairs refl in
      let last : kept_of bytes new ≡ used id k.key kept = after ∙ ap (λ (q : Kept). used id k.key q) view in
      rw value last

  -- a key that was put is kept
  pub put_kept : (c new : LruCache K (List ℕ)) (k : K) (id key : List ℕ) (kept : Kept) → kept_of bytes c ≡ kept → bytes k ≡ id → length c.entries ≤ c.cap → 0 < c.cap
      → new ≡ lru_cache (put_entries (λ a b. bytes_eq (bytes a) (bytes b)) c k key) c.cap → kept_of bytes new ≡ used id key kept
  put_kept c new k id key kept view e fits room n =
      with_pairs c new (put_entries (λ a b. bytes_eq (bytes a) (bytes b)) c k key) (used (bytes k) key (kept_of bytes c)) n (put_seen bytes c k key fits room) refl
      ∙ ap (λ (i : List ℕ). used i key (kept_of bytes c)) e ∙ ap (λ (q : Kept). used id key q) view

-- each key that is kept stays sound
pub sound_used : (table : KeyTable) (ring : Ring) (id key : List ℕ) (kept new : Kept) → new ≡ used id key kept → IsSound table ring kept
    → kek_of table ring id ≡ Ok key → IsSound table ring new
sound_used table ring id key kept new e sound h =
    let P : List ℕ × List ℕ → Type 0 = λ pair. kek_of table ring pair.0 ≡ Ok pair.1 in
    subst (λ (k : Kept). IsSound table ring k) (sym e)
    (all_taken id P kept.capacity ((id, key) ∷ remove_entry (bytes_eq id) kept.pairs) (h, all_removed id P kept.pairs sound))

pub sound_key : (table : KeyTable) (ring : Ring) (id key : List ℕ) (kept : Kept) → IsSound table ring kept → Some key ≡ kept_key id kept → kek_of table ring id ≡ Ok key
sound_key table ring id key kept sound h =
    let P : List ℕ × List ℕ → Type 0 = λ pair. kek_of table ring pair.0 ≡ Ok pair.1 in
    all_found id P kept.pairs key sound (sym h)

-- what is kept stays sound where a key is looked up
pub sound_cached : (table : KeyTable) (ring : Ring) (id : List ℕ) (kept new : Kept) (found : Option (List ℕ)) → found ≡ kept_key id kept
    → MatchOption found (new ≡ kept) (λ key. new ≡ used id key kept) → IsSound table ring kept → IsSound table ring new
sound_cached table ring id kept new None e same sound = rw same sound
sound_cached table ring id kept new (Some key) e is sound =
    sound_used table ring id key kept new is sound (sound_key table ring id key kept sound e)
