-- The version that an append puts: what its snapshot is asked to be, and its put.
use Rattle.std.proofs.Common.{◌≡◌, ap, ◌<◌, ◌≤◌, ◌+◌, ◌^◌, ◌+ℤ◌, ℕ, ℤ, pos, negsuc, Bool, true, false, ◌||◌, List, [], ◌∷◌, length, Some, None, Result, Ok, Err, if◌then◌else◌, int_lt, nat_le, refl, sym, subst, arith}
use Rattle.std.specs.List.{list_any}
use Rattle.std.specs.Prelude.{bytes_eq, codes}
use Rattle.std.proofs.lemmas.Bool.Decides.{nat_tests}
use Rattle.icb_base.specs.Calls.{DrawsText, PutsPath}
use Rattle.icb_base.specs.KeyMetadata.{KeyRecord}
use Rattle.icb_base.specs.declared.storage.Put.{Put}
use Rattle.icb_base.specs.declared.storage.Put.TheVariants as put
use Rattle.icb_base.specs.declared.storage.Store as store
use Rattle.icb_base.specs.declared.transfer.Draws as draws
use Rattle.icb_base.proofs.CallLemmas.{draws_failed, puts_at_rest}
use Rattle.icb_edits.specs.Snapshots.{IsNext}
use Rattle.icb_meta.specs.Answers.{IsNextKeyId, shown_of}
use Rattle.icb_meta.specs.Forms.{entry_named, text_named}
use Rattle.icb_meta.specs.Ids.{is_taken, is_text, names_key}
use Rattle.icb_meta.specs.declared.fields.Fields.{Fields}
use Rattle.icb_meta.specs.declared.fields.State.{State}
use Rattle.icb_meta.specs.declared.records.KeyEntry.{KeyEntry}
use Rattle.icb_meta.specs.declared.records.Snapshot.{Snapshot}
use Rattle.icb_meta.specs.declared.table.TableMeta.{TableMeta}
use Rattle.icb_base.specs.declared.limits.Limited.TheVariants as limit
use Rattle.icb_chain.specs.Opening.{kek_of, table_of}
use Rattle.icb_chain.specs.Ring.{Ring}
use Rattle.icb_chain.specs.declared.fault.ChainFault.{ChainFault}
use Rattle.icb_tree.specs.Versions.{most_versions, version_path}
use Rattle.icb_turns.specs.Answers.{◌>>=◌, of_chain, or_refused, refused_where}
use Rattle.icb_turns.specs.declared.fault.CannotWhat.TheVariants as form
use Rattle.icb_turns.specs.Committing.{AnswersPut}
use Rattle.icb_turns.specs.declared.fault.JobFault.{JobFault}
use Rattle.icb_turns.specs.declared.fault.JobFault.TheVariants as fault
use Rattle.icb_append.specs.Committing.{HasRoomFor, IsListEntry, PutsVersion, next_sequence, snapshot_of}
use Rattle.icb_append.specs.Reading.{IsNextId, current_key, has_room, may_add, most_number, most_snapshots, wrapper_for, wrapper_of}
use Rattle.icb_append.specs.Ready.{IsReady}
use Rattle.icb_append.specs.declared.reading.Wrapper.{Wrapper}
use Rattle.icb_append.proofs.PutLemmas.{draws_other}

-- ---- what the snapshot is asked to be

-- an id that no entry has or names is none's
unnamed_by : (b t r : Bool) (id : List ℕ) (e : KeyEntry) (es : List KeyEntry) → ((b || t) || r) ≡ false
    → (r ≡ false → entry_named id es ≡ None) → (if b then Some e else entry_named id es) ≡ None
unnamed_by true t r id e es h rest = absurd (let g : ⊥ = cc in g)
unnamed_by false true r id e es h rest = absurd (let g : ⊥ = cc in g)
unnamed_by false false r id e es h rest = rest h

unnamed : (id : List ℕ) (es : List KeyEntry) → list_any (names_key id) es ≡ false → entry_named id es ≡ None
unnamed id [] h = refl
unnamed id (e ∷ es) h = unnamed_by (bytes_eq e.id id) (is_text id e.by) (list_any (names_key id) es) id e es h (unnamed id es)

second_false : (a b : Bool) → (a || b) ≡ false → b ≡ false
second_false true b h = absurd (let g : ⊥ = cc in g)
second_false false b h = h

-- the next key id is no entry's
pub new_key : (state : State) (id : List ℕ) → IsNextKeyId state id → entry_named id state.entries ≡ None
new_key state id is = unnamed id state.entries (second_false (is_text id (text_named (codes "encryption.key-id") state.properties)) (list_any (names_key id) state.entries)
    (subst (λ x. is_taken state.entries (text_named (codes "encryption.key-id") state.properties) x ≡ false) (sym is.2) is.3))

-- a number within the limit is within the range
in_range : (z : ℤ) → int_lt (pos (2 ^ 62)) z ≡ false → int_lt z (pos (2 ^ 63)) ≡ true
in_range (pos n) h = grind (arith, nat_tests)
in_range (negsuc n) h = refl

-- the snapshot of an append is the next one
pub is_next : (version : ℕ) (meta : TableMeta) (id : ℤ) (rows : ℕ) (wrapper : Wrapper) (nonce : List ℕ) (list : KeyRecord) (path : List ℕ) (now : ℕ) (entry : KeyEntry) (snapshot : Snapshot)
    → IsReady version meta id rows → IsListEntry (shown_of meta) wrapper nonce list entry
    → snapshot ≡ snapshot_of (shown_of meta) id path rows entry.id now → IsNext (shown_of meta) snapshot entry
is_next version meta id rows wrapper nonce list path now entry snapshot ready is same = subst (λ s. IsNext (shown_of meta) s entry) (sym same) (record {
  above = ready.above;
  unused = ready.unused;
  sequence = refl;
  rows = record { added = refl; room = in_range ((shown_of meta).state.next_row +ℤ pos rows) ready.room.row_ids };
  key_unused = new_key (shown_of meta).state entry.id is.id;
})

-- ---- what was tested of a version

bind_ok : {A B : Type 0} (r : Result A JobFault) (f : A → Result B JobFault) (y : B) → (r >>= f) ≡ Ok y → (x : A) × (r ≡ Ok x) × (f x ≡ Ok y)
bind_ok (Ok x) f y h = (x, refl, h)
bind_ok (Err e) f y h = absurd (let g : ⊥ = cc in g)

not_refused : (e : JobFault) (b : Bool) (x : Unit {0}) → refused_where e b ≡ Ok x → b ≡ false
not_refused e true x h = absurd (let g : ⊥ = cc in g)
not_refused e false x h = refl

refused_then : {B : Type 0} (e : JobFault) (b : Bool) (f : Unit {0} → Result B JobFault) (y : B) → (refused_where e b >>= f) ≡ Ok y → (b ≡ false) × (f tt ≡ Ok y)
refused_then e true f y h = absurd (let g : ⊥ = cc in g)
refused_then e false f y h = (refl, h)

-- the tests of limits, from one on
abbrev ids_test : Fields → ℕ → Result (Unit {0}) JobFault
ids_test meta rows = refused_where (fault.Limit limit.RowIds most_number) (int_lt (pos most_number) (meta.state.next_row +ℤ pos rows))

abbrev sequence_test : Fields → ℕ → Result (Unit {0}) JobFault
sequence_test meta rows = refused_where (fault.Limit limit.Sequence most_number) (int_lt (pos most_number) (meta.heading.last_sequence +ℤ pos 1)) >>= (λ u. ids_test meta rows)

abbrev snapshot_test : Fields → ℕ → Result (Unit {0}) JobFault
snapshot_test meta rows = refused_where (fault.Limit limit.Snapshots most_snapshots) (nat_le most_snapshots (length meta.state.snapshots)) >>= (λ u. sequence_test meta rows)

fewer : (version : ℕ) → nat_le most_versions version ≡ false → version < most_versions
fewer version h = grind (arith, nat_tests)

-- the limits leave room for what is added
room_of : (meta : Fields) (version rows : ℕ) (x : Unit {0}) → rows ≤ most_number → has_room meta version rows ≡ Ok x
    → (version < most_versions) × HasRoomFor meta rows
room_of meta version rows x few h =
    let v = refused_then (fault.Limit limit.Versions most_versions) (nat_le most_versions version) (λ u. snapshot_test meta rows) x h in
    let s = refused_then (fault.Limit limit.Snapshots most_snapshots) (nat_le most_snapshots (length meta.state.snapshots)) (λ u. sequence_test meta rows) x v.1 in
    let q = refused_then (fault.Limit limit.Sequence most_number) (int_lt (pos most_number) (meta.heading.last_sequence +ℤ pos 1)) (λ u. ids_test meta rows) x s.1 in
    let r = not_refused (fault.Limit limit.RowIds most_number) (int_lt (pos most_number) (meta.state.next_row +ℤ pos rows)) x q.1 in
    (fewer version v.0, record { few = few; sequence = q.0; row_ids = r })

-- the tests behind that of a key's entry, and behind that of the layout
abbrev key_test : Fields → Ring → ℕ → ℕ → List ℕ → Result Wrapper JobFault
key_test meta ring version rows id = of_chain (kek_of (table_of meta.state) ring id)
    >>= (λ key. has_room meta version rows >>= (λ room. Ok (wrapper_of id key)))

abbrev form_test : Fields → Ring → ℕ → ℕ → List ℕ → Result Wrapper JobFault
form_test meta ring version rows id = may_add meta.layout >>= (λ added. key_test meta ring version rows id)

pub room_for : (meta : Fields) (ring : Ring) (version rows : ℕ) (w : Wrapper) → rows ≤ most_number → wrapper_for meta ring version rows ≡ Ok w
    → (version < most_versions) × HasRoomFor meta rows
unfolding wrapper_for
room_for meta ring version rows w few h =
    let a = bind_ok (or_refused (fault.Cannot form.NotEncrypted) (current_key (table_of meta.state))) (λ entry. form_test meta ring version rows entry.id) w h in
    let b = bind_ok (may_add meta.layout) (λ added. key_test meta ring version rows a.0.id) w a.2 in
    let k = bind_ok (of_chain (kek_of (table_of meta.state) ring a.0.id)) (λ key. has_room meta version rows >>= (λ room. Ok (wrapper_of a.0.id key))) w b.2 in
    let r = bind_ok (has_room meta version rows) (λ room. Ok (wrapper_of a.0.id k.0)) w k.2 in
    room_of meta version rows r.0 few r.1

ok_wrapper : (x y : Wrapper) → ◌≡◌ {A = Result Wrapper JobFault} (Ok x) (Ok y) → x ≡ y
ok_wrapper x y h = cc

ok_bytes : (id : List ℕ) (r : Result (List ℕ) ChainFault) (key : List ℕ) → of_chain r ≡ Ok key → r ≡ Ok key
ok_bytes id (Ok x) key h = let same : x ≡ key = cc in ap (λ z. Ok z) same
ok_bytes id (Err e) key h = absurd (let g : ⊥ = cc in g)

-- the key that an append seals its list's key with is the one that opens by its id
pub wrapper_opens : (meta : Fields) (ring : Ring) (version rows : ℕ) (w : Wrapper) → wrapper_for meta ring version rows ≡ Ok w
    → kek_of (table_of meta.state) ring w.id ≡ Ok w.key
unfolding wrapper_for
wrapper_opens meta ring version rows w h =
    let a = bind_ok (or_refused (fault.Cannot form.NotEncrypted) (current_key (table_of meta.state))) (λ entry. form_test meta ring version rows entry.id) w h in
    let b = bind_ok (may_add meta.layout) (λ added. key_test meta ring version rows a.0.id) w a.2 in
    let k = bind_ok (of_chain (kek_of (table_of meta.state) ring a.0.id)) (λ key. has_room meta version rows >>= (λ room. Ok (wrapper_of a.0.id key))) w b.2 in
    let r = bind_ok (has_room meta version rows) (λ room. Ok (wrapper_of a.0.id k.0)) w k.2 in
    let same : wrapper_of a.0.id k.0 ≡ w = ok_wrapper (wrapper_of a.0.id k.0) w r.2 in
    subst (λ (x : Wrapper). kek_of (table_of meta.state) ring x.id ≡ Ok x.key) same
    (ok_bytes a.0.id (kek_of (table_of meta.state) ring a.0.id) k.0 k.1)

pub ready_of : (meta : TableMeta) (ring : Ring) (version rows : ℕ) (w : Wrapper) (id : ℤ) → rows ≤ most_number
    → wrapper_for (shown_of meta) ring version rows ≡ Ok w → IsNextId (shown_of meta).state.snapshots (next_sequence (shown_of meta)) id
    → int_lt (pos 0) id ≡ true → IsReady version meta id rows
ready_of meta ring version rows w id few h is above =
    let room = room_for (shown_of meta) ring version rows w few h in
    record { few = room.0; room = room.1; unused = is.2; above = above }

-- ---- the put

module _ {S D : Type 0} (of : store.Ghosts S) (from : draws.Ghosts D) (is : List ℕ → List ℕ → Type 0) (version : ℕ) where
  -- no nonce could be drawn
  pub no_nonce : (s : S) (x y : D) (drawn : List ℕ) (failed : Type 0) → failed → of.keeps s s → DrawsText from drawn failed x y
      → PutsVersion of from is version (Err fault.Random) s s x y
  no_nonce s x y drawn failed fails kept d = record {
    nonce = [];
    text = [];
    draws = draws_failed from drawn [] failed _ x y fails refl d;
    puts = puts_at_rest of (version_path (version + 1)) [] _ _ _ s kept (λ h. let g : ⊥ = cc in g) (λ h. let g : ⊥ = cc in g) (λ h. let g : ⊥ = cc in g);
    answers = tt;
  }

  -- the text isn't made
  pub no_text : (s : S) (x y : D) (nonce : List ℕ) (failed : Type 0) → (failed → ⊥) → of.keeps s s → DrawsText from nonce failed x y
      → PutsVersion of from is version (Err fault.NoMemory) s s x y
  no_text s x y nonce failed none kept d = record {
    nonce = nonce;
    text = [];
    draws = draws_other from nonce failed _ x y none (λ h. let g : ⊥ = cc in g) d;
    puts = puts_at_rest of (version_path (version + 1)) [] _ _ _ s kept (λ h. let g : ⊥ = cc in g) (λ h. let g : ⊥ = cc in g) (λ h. let g : ⊥ = cc in g);
    answers = tt;
  }

  -- the text is put, or too long
  text_put : (s t : S) (x y : D) (nonce text : List ℕ) (r : Result Put JobFault) (failed : Type 0) → (failed → ⊥) → DrawsText from nonce failed x y
      → is nonce text → AnswersPut (length text) r
      → PutsPath of (version_path (version + 1)) text (r ≡ Ok put.Done) (r ≡ Ok put.Taken) (r ≡ Err fault.Store) s t
      → PutsVersion of from is version r s t x y
  text_put s t x y nonce text (Ok p) failed none d made a puts = record { nonce = nonce; text = text; draws = draws_other from nonce failed _ x y none (λ h. let g : ⊥ = cc in g) d; puts = puts; answers = (made, a) }
  text_put s t x y nonce text (Err fault.Store) failed none d made a puts = record { nonce = nonce; text = text; draws = draws_other from nonce failed _ x y none (λ h. let g : ⊥ = cc in g) d; puts = puts; answers = (made, a) }
  text_put s t x y nonce text (Err fault.NoMemory) failed none d made a puts = record { nonce = nonce; text = text; draws = draws_other from nonce failed _ x y none (λ h. let g : ⊥ = cc in g) d; puts = puts; answers = tt }
  text_put s t x y nonce text (Err (fault.Limit w n)) failed none d made a puts = record { nonce = nonce; text = text; draws = draws_other from nonce failed _ x y none (λ h. let g : ⊥ = cc in g) d; puts = puts; answers = (made, a.0, a.1, a.2) }
  text_put s t x y nonce text (Err fault.NoTable) failed none d made a puts = absurd a
  text_put s t x y nonce text (Err (fault.BadMeta f)) failed none d made a puts = absurd a
  text_put s t x y nonce text (Err (fault.BadInput l w)) failed none d made a puts = absurd a
  text_put s t x y nonce text (Err (fault.Cannot w)) failed none d made a puts = absurd a
  text_put s t x y nonce text (Err (fault.SameKey i)) failed none d made a puts = absurd a
  text_put s t x y nonce text (Err (fault.KeyName i)) failed none d made a puts = absurd a
  text_put s t x y nonce text (Err (fault.Tree e)) failed none d made a puts = absurd a
  text_put s t x y nonce text (Err (fault.NameTaken p)) failed none d made a puts = absurd a
  text_put s t x y nonce text (Err (fault.Contended v)) failed none d made a puts = absurd a
  text_put s t x y nonce text (Err fault.Random) failed none d made a puts = absurd a

  -- so it is of the bytes that are put
  pub bytes_put : (s t : S) (x y : D) (nonce text bytes : List ℕ) (r : Result Put JobFault) (failed : Type 0) → bytes ≡ text → (failed → ⊥)
      → DrawsText from nonce failed x y → is nonce text → AnswersPut (length bytes) r
      → PutsPath of (version_path (version + 1)) bytes (r ≡ Ok put.Done) (r ≡ Ok put.Taken) (r ≡ Err fault.Store) s t
      → PutsVersion of from is version r s t x y
  bytes_put s t x y nonce text bytes r failed same none d made a puts =
      text_put s t x y nonce bytes r failed none d (subst (is nonce) (sym same) made) a puts
