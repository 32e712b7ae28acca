-- The lists of a table to which a snapshot was added.
use Rattle.std.proofs.Common.{◌≡◌, ℕ, ℤ, List, [], ◌∷◌, ◌++◌, Bool, true, false, length, take, drop, Option, Some, None, option_and_then, if◌then◌else◌, Result, Ok, Err, refl, ap, ◌∙◌, append_assoc}
use Rattle.std.specs.Prelude.{bytes_eq, codes}
use Rattle.std.specs.Ordering.{int_eq}
use Rattle.std.proofs.lemmas.Slice.Eq.{bytes_eq-Decides}
use Rattle.icb_base.specs.KeyMetadata.{KeyRecord}
use Rattle.icb_base.specs.Paths.{is_object_path}
use Rattle.icb_chain.specs.Opening.{kek_of, list_key_of, table_of}
use Rattle.icb_chain.specs.Ring.{Ring}
use Rattle.icb_chain.specs.declared.fault.ChainFault.{ChainFault}
use Rattle.icb_edits.specs.Snapshots.{snapshot_fields}
use Rattle.icb_meta.proofs.DistinctLemmas.{int_decides}
use Rattle.icb_meta.specs.Forms.{snapshot_named}
use Rattle.icb_meta.specs.Ids.{resolved}
use Rattle.icb_meta.specs.declared.fields.Fields.{Fields}
use Rattle.icb_meta.specs.declared.records.KeyEntry.{KeyEntry}
use Rattle.icb_meta.specs.declared.records.Snapshot.{Snapshot}
use Rattle.icb_schema.specs.Reading.{only_if}
use Rattle.icb_table.specs.Listed.{Listed, listed}
use Rattle.icb_table.specs.Snapshots.{◌>>=◌, Refused, bad_list, key_opened, list_of, no_snapshot, or_refused, plain_list}
use Rattle.icb_table.specs.Why as why
use Rattle.icb_turns.specs.Naming.{full_path}
use Rattle.icb_types.specs.Words.{after_prefix}
use Rattle.icb_append.specs.Committing.{IsListEntry}
use Rattle.icb_append.specs.declared.reading.Wrapper.{Wrapper}
use Rattle.icb_append.proofs.KeyLemmas.{lists_of_commit_stay, own_list_opens}

-- ---- snapshots by their ids

abbrev pub or_else : {A : Type 0} → Option A → Option A → Option A
or_else None second = second
or_else (Some x) second = Some x

pub snapshot_more : (id : ℤ) (xs more : List Snapshot) → snapshot_named id (xs ++ more) ≡ or_else (snapshot_named id xs) (snapshot_named id more)
snapshot_more id [] more = refl
snapshot_more id (x ∷ xs) more = by_first (int_eq x.id id) (snapshot_more id xs more)
  where
    by_first : (b : Bool) → snapshot_named id (xs ++ more) ≡ or_else (snapshot_named id xs) (snapshot_named id more)
        → (if b then Some x else snapshot_named id (xs ++ more)) ≡ or_else (if b then Some x else snapshot_named id xs) (snapshot_named id more)
    by_first true h = refl
    by_first false h = h

-- ---- a path behind a location

take_front : (front rest : List ℕ) → take (length front) (front ++ rest) ≡ front
take_front [] rest = refl
take_front (x ∷ front) rest = ap (λ (b : List ℕ). x ∷ b) (take_front front rest)

drop_front : (front rest : List ℕ) → drop (length front) (front ++ rest) ≡ rest
drop_front [] rest = refl
drop_front (x ∷ front) rest = drop_front front rest

behind_front : (front rest : List ℕ) → after_prefix front (front ++ rest) ≡ Some rest
behind_front front rest =
    let same : bytes_eq (take (length front) (front ++ rest)) front ≡ true = (bytes_eq-Decides (take (length front) (front ++ rest)) front).1 (take_front front rest) in
    rw (same, drop_front front rest) refl

full_is_resolved : (location path : List ℕ) → is_object_path path ≡ true → resolved location (location ++ (codes "/" ++ path)) ≡ Some path
unfolding resolved
full_is_resolved location path h =
    ap (λ (o : Option (List ℕ)). option_and_then (only_if is_object_path) (option_and_then (after_prefix (codes "/")) o)) (behind_front location (codes "/" ++ path))
    ∙ ap (λ (o : Option (List ℕ)). option_and_then (only_if is_object_path) o) (behind_front (codes "/") path)
    ∙ (let passes : (if is_object_path path then Some path else None) ≡ Some path = rw h refl in passes)

pub path_resolved : (location path : List ℕ) → is_object_path path ≡ true → resolved location (full_path location path) ≡ Some path
path_resolved location path h = ap (resolved location) (append_assoc location (codes "/") path) ∙ full_is_resolved location path h

-- ---- the lists

module _ (meta : Fields) (ring : Ring) (wrapper : Wrapper) (nonce : List ℕ) (list : KeyRecord) (entry : KeyEntry) (s : Snapshot) (now_ms : ℕ)
    (is : IsListEntry meta wrapper nonce list entry) (opens : kek_of (table_of meta.state) ring wrapper.id ≡ Ok wrapper.key) where
  abbrev meta_now : Fields
  meta_now = snapshot_fields meta s entry now_ms

  abbrev Rest : Type 0
  Rest = Snapshot → KeyRecord → Result Listed Refused

  by_opened : (id : ℤ) (x : Snapshot) (key : List ℕ) (rest : Rest) (f : Listed) (r : Result KeyRecord ChainFault) → list_key_of (table_of meta.state) ring key ≡ r
      → (key_opened r >>= rest x) ≡ Ok f → (key_opened (list_key_of (table_of meta_now.state) ring key) >>= rest x) ≡ Ok f
  by_opened id x key rest f (Ok opened) was h =
      ap (λ r. key_opened r >>= rest x) (lists_of_commit_stay meta ring wrapper nonce list entry s now_ms is opens key opened was) ∙ h
  by_opened id x key rest f (Err e) was h = absurd (let g : ⊥ = cc in g)

  by_key : (id : ℤ) (x : Snapshot) (k : Option (List ℕ)) (rest : Rest) (f : Listed)
      → (or_refused (plain_list id) k >>= (λ key. key_opened (list_key_of (table_of meta.state) ring key) >>= rest x)) ≡ Ok f
      → (or_refused (plain_list id) k >>= (λ key. key_opened (list_key_of (table_of meta_now.state) ring key) >>= rest x)) ≡ Ok f
  by_key id x None rest f h = absurd (let g : ⊥ = cc in g)
  by_key id x (Some key) rest f h = by_opened id x key rest f (list_key_of (table_of meta.state) ring key) refl h

  by_snapshot : (id : ℤ) (o : Option Snapshot) (rest : Rest) (f : Listed)
      → (or_refused (no_snapshot id) o >>= (λ x. or_refused (plain_list id) x.key >>= (λ key. key_opened (list_key_of (table_of meta.state) ring key) >>= rest x))) ≡ Ok f
      → (or_refused (no_snapshot id) (or_else o (snapshot_named id (s ∷ []))) >>= (λ x. or_refused (plain_list id) x.key >>= (λ key. key_opened (list_key_of (table_of meta_now.state) ring key) >>= rest x))) ≡ Ok f
  by_snapshot id None rest f h = absurd (let g : ⊥ = cc in g)
  by_snapshot id (Some x) rest f h = by_key id x x.key rest f h

  abbrev rest_of : ℤ → Rest
  rest_of id x opened = or_refused (bad_list id x.list why.outside_table) (resolved meta.heading.location x.list)
      >>= (λ path. or_refused (bad_list id x.list why.no_length) opened.length_told >>= (λ recorded. Ok (listed path opened recorded)))

  -- the list of a snapshot that could be read is where it was, and opens as it did
  pub old_list_stays : (id : ℤ) (f : Listed) → list_of meta ring id ≡ Ok f → list_of meta_now ring id ≡ Ok f
  unfolding list_of
  old_list_stays id f h =
      ap (λ o. or_refused (no_snapshot id) o >>= (λ x. or_refused (plain_list id) x.key >>= (λ key. key_opened (list_key_of (table_of meta_now.state) ring key) >>= rest_of id x)))
      (snapshot_more id meta.state.snapshots (s ∷ []))
      ∙ by_snapshot id (snapshot_named id meta.state.snapshots) (rest_of id) f h

  -- the list of the new snapshot is the one that was put
  pub new_list_is : (path : List ℕ) (n : ℕ) → snapshot_named s.id meta.state.snapshots ≡ None → s.key ≡ Some entry.id
      → s.list ≡ full_path meta.heading.location path → is_object_path path ≡ true → list.length_told ≡ Some n
      → list_of meta_now ring s.id ≡ Ok (listed path list n)
  unfolding list_of
  new_list_is path n unused key at object told =
      let there : snapshot_named s.id meta_now.state.snapshots ≡ Some s =
      snapshot_more s.id meta.state.snapshots (s ∷ []) ∙ ap (λ o. or_else o (snapshot_named s.id (s ∷ []))) unused ∙ own in
      let opened = own_list_opens meta ring wrapper nonce list entry s now_ms is opens in
      let placed : resolved meta.heading.location s.list ≡ Some path = ap (resolved meta.heading.location) at ∙ path_resolved meta.heading.location path object in
      rw (there, key, opened, placed, told) refl
    where
      own : or_else None (snapshot_named s.id (s ∷ [])) ≡ Some s
      own = let same : int_eq s.id s.id ≡ true = (int_decides s.id s.id).1 refl in rw same refl
