-- What lists of metadata held, and one more element.
use Rattle.std.proofs.Common.{◌≡◌, ◌+ℤ◌, ℕ, ℤ, pos, negsuc, List, [], ◌∷◌, ◌++◌, map, Bool, true, false, Option, Some, None, option_and_then, option_map, unwrap_or, if◌then◌else◌, Ok, bytes_eq, int_lt, refl, sym, ap, ◌∙◌, subst, true≢false}
use Rattle.std.proofs.lemmas.List.{map-append}
use Rattle.std.specs.Ordering.{int_eq}
use Rattle.std.proofs.lemmas.Slice.Eq.{bytes_eq-Decides}
use Rattle.serde_json.specs.Data.{Data}
use Rattle.serde_json.specs.Find.{get}
use Rattle.icb_schema.specs.Names.{are_distinct}
use Rattle.icb_schema.specs.Reading.{all_read, as_list, only_if}
use Rattle.icb_types.specs.Columns.{are_distinct_ids}
use Rattle.icb_types.specs.Lines.{long_in, number_json}
use Rattle.icb_meta.specs.Forms.{current_in, entries_in, entry_in, entry_named, if_absent, is_natural, natural_in, snapshot_in, snapshot_named, snapshots_in}
use Rattle.icb_meta.specs.Shown.{member, member_or, or_field}
use Rattle.icb_meta.specs.declared.records.KeyEntry.{KeyEntry}
use Rattle.icb_meta.specs.declared.records.Snapshot.{Snapshot}
use Rattle.icb_meta.proofs.DistinctLemmas.{among, distinct_from, distinct_push, distinct_to, ids_are_distinct, int_decides, names_are_distinct}
use Rattle.icb_edits.specs.Keys.{elements}
use Rattle.icb_edits.specs.Values.{array_of, ordered}
use Rattle.icb_edits.proofs.EditLemmas.{or_some, then_some}
use Rattle.icb_edits.proofs.KnownLemmas.{ok_same}
use Rattle.icb_edits.proofs.TableLemmas.{list_back}

some_same : {A : Type 0} (x y : A) → Some x ≡ Some y → x ≡ y
some_same x y e = ap (λ o. unwrap_or o x) e

-- ---- lists that were read

push_by : {A : Type 0} (read : Data → Option A) (ds : List Data) (d e : Data) (xs : List A) (x a : A) (o : Option (List A)) → all_read read ds ≡ o
    → ((rest : List A) → all_read read ds ≡ Some rest → all_read read (ds ++ d ∷ []) ≡ Some (rest ++ x ∷ []))
    → read e ≡ Some a → option_map (λ rest. a ∷ rest) o ≡ Some xs
    → option_and_then (λ b. option_map (λ rest. b ∷ rest) (all_read read (ds ++ d ∷ []))) (read e) ≡ Some (xs ++ x ∷ [])
push_by read ds d e xs x a None before later here both = cc
push_by read ds d e xs x a (Some rest) before later here both =
    rw (here, later rest before) (ap (λ l. Some (l ++ x ∷ [])) (some_same (a ∷ rest) xs both))

-- one more element reads
pub all_read_push : {A : Type 0} (read : Data → Option A) (ds : List Data) (d : Data) (xs : List A) (x : A) → all_read read ds ≡ Some xs → read d ≡ Some x
    → all_read read (ds ++ d ∷ []) ≡ Some (xs ++ x ∷ [])
all_read_push read [] d xs x h r = rw r (ap (λ l. Some (l ++ x ∷ [])) (some_same [] xs h))
all_read_push read (e ∷ ds) d xs x h r =
    let first = then_some (λ a. option_map (λ rest. a ∷ rest) (all_read read ds)) (read e) xs h in
    push_by read ds d e xs x first.0 (all_read read ds) refl (λ rest before. all_read_push read ds d rest x before r) first.1 first.2

passed : {A : Type 0} (test : A → Bool) (a b : A) → only_if test a ≡ Some b → (a ≡ b) × (test b ≡ true)
passed test a b h = by_test (test a) refl
  where
    by_test : (t : Bool) → test a ≡ t → (a ≡ b) × (test b ≡ true)
    by_test true e = let same = some_same a b (rw e at h) in (same, subst (λ x. test x ≡ true) same e)
    by_test false e = let n = rw e at h in cc

-- a list whose elements read, and which passed
abbrev Reads : {A : Type 0} → (Data → Option A) → (List A → Bool) → Data → Option (List A)
Reads read test d = option_and_then (only_if test) (option_and_then (all_read read) (as_list d))

listed_at : {A : Type 0} (read : Data → Option A) (test : List A → Bool) (e : Data) (xs : List A) → Reads read test e ≡ Some xs
    → (all_read read (unwrap_or (as_list e) []) ≡ Some xs) × (test xs ≡ true)
listed_at read test e xs h =
    let a = then_some (only_if test) (option_and_then (all_read read) (as_list e)) xs h in
    let b = passed test a.0 xs a.2 in
    let c = then_some (all_read read) (as_list e) a.0 a.1 in
    (ap (λ o. all_read read (unwrap_or o [])) c.1 ∙ c.2 ∙ ap Some b.0, b.1)

listed : {A : Type 0} (read : Data → Option A) (test : List A → Bool) (name : List ℕ) (o : Option Data) (xs : List A) → test [] ≡ true
    → or_field name (if_absent [] (Reads read test) o) ≡ Ok xs → (all_read read (unwrap_or (option_and_then as_list o) []) ≡ Some xs) × (test xs ≡ true)
listed read test name None xs empty h =
    let same = ok_same [] xs h in (ap Some same, subst (λ l. test l ≡ true) same empty)
listed read test name (Some e) xs empty h = listed_at read test e xs (or_some name (Reads read test e) xs h)

-- the snapshots that metadata held
pub snapshots_held : (name : List ℕ) (d : Data) (ss : List Snapshot) → member_or [] snapshots_in name d ≡ Ok ss
    → (all_read snapshot_in (elements name d) ≡ Some ss) × (are_distinct_ids (map (λ s. s.id) ss) ≡ true)
unfolding snapshots_in
snapshots_held name d ss h = listed snapshot_in (λ l. are_distinct_ids (map (λ s. s.id) l)) name (get name d) ss refl h

-- the keys that it held
pub keys_held : (name : List ℕ) (d : Data) (es : List KeyEntry) → member_or [] entries_in name d ≡ Ok es
    → (all_read entry_in (elements name d) ≡ Some es) × (are_distinct (map (λ e. e.id) es) ≡ true)
unfolding entries_in
keys_held name d es h = listed entry_in (λ l. are_distinct (map (λ e. e.id) l)) name (get name d) es refl h

-- ---- ids that aren't there

not_first : {A : Type 0} (b : Bool) (x : A) (o : Option A) → (if b then Some x else o) ≡ None → (b ≡ false) × (o ≡ None)
not_first true x o h = cc
not_first false x o h = (refl, h)

pub snapshot_absent : (id : ℤ) (ss : List Snapshot) → snapshot_named id ss ≡ None → among int_eq int_decides id (map (λ s. s.id) ss) ≡ false
snapshot_absent id [] h = refl
snapshot_absent id (s ∷ ss) h = let p = not_first (int_eq s.id id) s (snapshot_named id ss) h in rw (p.0, snapshot_absent id ss p.1) refl

pub entry_absent : (id : List ℕ) (es : List KeyEntry) → entry_named id es ≡ None → among bytes_eq bytes_eq-Decides id (map (λ e. e.id) es) ≡ false
entry_absent id [] h = refl
entry_absent id (e ∷ es) h = let p = not_first (bytes_eq e.id id) e (entry_named id es) h in rw (p.0, entry_absent id es p.1) refl

ids_push : (ids : List ℤ) (id : ℤ) → are_distinct_ids ids ≡ true → among int_eq int_decides id ids ≡ false → are_distinct_ids (ids ++ id ∷ []) ≡ true
ids_push ids id h new =
    ids_are_distinct (ids ++ id ∷ []) ∙ distinct_to int_eq int_decides _ (distinct_push int_eq int_decides ids id (distinct_from int_eq int_decides ids (sym (ids_are_distinct ids) ∙ h)) new)

names_push : (names : List (List ℕ)) (name : List ℕ) → are_distinct names ≡ true → among bytes_eq bytes_eq-Decides name names ≡ false → are_distinct (names ++ name ∷ []) ≡ true
names_push names name h new =
    names_are_distinct (names ++ name ∷ []) ∙ distinct_to bytes_eq bytes_eq-Decides _ (distinct_push bytes_eq bytes_eq-Decides names name (distinct_from bytes_eq bytes_eq-Decides names (sym (names_are_distinct names) ∙ h)) new)

-- one more snapshot reads
pub snapshots_pushed : (ds : List Data) (d : Data) (ss : List Snapshot) (s : Snapshot) → all_read snapshot_in ds ≡ Some ss → are_distinct_ids (map (λ x. x.id) ss) ≡ true
    → snapshot_in d ≡ Some s → snapshot_named s.id ss ≡ None → snapshots_in (array_of (ds ++ d ∷ [])) ≡ Some (ss ++ s ∷ [])
unfolding snapshots_in
snapshots_pushed ds d ss s reads apart here new =
    let ids = ids_push (map (λ x. x.id) ss) s.id apart (snapshot_absent s.id ss new) in
    rw (list_back (ds ++ d ∷ []), all_read_push snapshot_in ds d ss s reads here, map-append (λ (x : Snapshot). x.id) ss (s ∷ []), ids) refl

-- one more key reads
pub entries_pushed : (ds : List Data) (d : Data) (es : List KeyEntry) (e : KeyEntry) → all_read entry_in ds ≡ Some es → are_distinct (map (λ x. x.id) es) ≡ true
    → entry_in d ≡ Some (ordered e) → entry_named e.id es ≡ None → entries_in (array_of (ds ++ d ∷ [])) ≡ Some (es ++ ordered e ∷ [])
unfolding entries_in
entries_pushed ds d es e reads apart here new =
    let ids = names_push (map (λ x. x.id) es) e.id apart (entry_absent e.id es new) in
    rw (list_back (ds ++ d ∷ []), all_read_push entry_in ds d es (ordered e) reads here, map-append (λ (x : KeyEntry). x.id) es (ordered e ∷ []), ids) refl

-- ---- the current snapshot

found_last : (ss : List Snapshot) (s : Snapshot) → snapshot_named s.id ss ≡ None → snapshot_named s.id (ss ++ s ∷ []) ≡ Some s
found_last [] s h = rw ((int_decides s.id s.id).1 refl) refl
found_last (x ∷ ss) s h = let p = not_first (int_eq x.id s.id) x (snapshot_named s.id ss) h in rw (p.0, found_last ss s p.1) refl

above_none : (id : ℤ) → int_lt (pos 0) id ≡ true → int_eq id (negsuc 0) ≡ false
above_none (pos n) h = refl
above_none (negsuc n) h = absurd (true≢false (sym h))

-- the last snapshot is the current one
pub current_last : (ss : List Snapshot) (s : Snapshot) → snapshot_named s.id ss ≡ None → int_lt (pos 0) s.id ≡ true → long_in (number_json s.id) ≡ Some s.id
    → current_in (ss ++ s ∷ []) (number_json s.id) ≡ Some (Some s.id)
current_last ss s new above reads = rw (reads, above_none s.id above, found_last ss s new) refl

-- ---- natural numbers

natural_at : (d : Data) (z : ℤ) → natural_in d ≡ Some z → is_natural z ≡ true
natural_at d z h = let a = then_some (only_if is_natural) (long_in d) z h in (passed is_natural a.0 z a.2).1

natural_there : (name : List ℕ) (o : Option Data) (z : ℤ) → or_field name (option_and_then natural_in o) ≡ Ok z → is_natural z ≡ true
natural_there name None z h = cc
natural_there name (Some d) z h = natural_at d z (or_some name (natural_in d) z h)

-- a member that is a natural number
pub natural_held : (name : List ℕ) (d : Data) (z : ℤ) → member natural_in name d ≡ Ok z → is_natural z ≡ true
natural_held name d z h = natural_there name (get name d) z h

pub natural_sum : (a b : ℤ) → is_natural a ≡ true → is_natural b ≡ true → is_natural (a +ℤ b) ≡ true
natural_sum (pos m) (pos n) p q = refl
natural_sum (pos m) (negsuc n) p q = absurd (true≢false (sym q))
natural_sum (negsuc m) b p q = absurd (true≢false (sym p))

-- it reads as it
pub natural_back : (z : ℤ) → long_in (number_json z) ≡ Some z → is_natural z ≡ true → natural_in (number_json z) ≡ Some z
natural_back z reads h = rw (reads, h) refl
