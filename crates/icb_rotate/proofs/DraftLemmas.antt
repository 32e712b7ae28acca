-- Drafts: what is answered where a version is read, and the ids of keys sealed again.
use Rattle.std.proofs.Common.{◌≡◌, ◌<◌, ℕ, Bool, true, false, List, [], ◌∷◌, drop, map, Option, Some, None, IfErr, IfOk, IfSome, Result, Ok, Err, refl, sym, ap, ◌∙◌, subst, arith}
use Rattle.std.specs.Prelude.{codes, nat_le, if◌then◌else◌}
use Rattle.std.proofs.lemmas.Bool.Decides.{nat_tests}
use Rattle.serde_json.specs.Data.{Data}
use Rattle.icb_base.specs.Calls.{DrawsText}
use Rattle.icb_base.specs.declared.storage.Store as store
use Rattle.icb_base.specs.declared.transfer.Draws as draws
use Rattle.icb_chain.specs.Opening.{KeyTable, seals_key, table_of}
use Rattle.icb_chain.specs.Ring.{Ring}
use Rattle.icb_meta.specs.Shown.{fields_of}
use Rattle.icb_meta.specs.declared.fields.Fields.{Fields}
use Rattle.icb_meta.specs.declared.records.KeyEntry.{KeyEntry}
use Rattle.icb_schema.specs.Names.{are_distinct}
use Rattle.icb_edits.proofs.HeldLemmas.{keys_held}
use Rattle.icb_edits.proofs.KnownLemmas.{parts_to, state_to}
use Rattle.icb_tree.specs.Reading.{ReadsOnly}
use Rattle.icb_tree.specs.Reading as reading
use Rattle.icb_base.specs.Objects.{Objects}
use Rattle.icb_tree.specs.Versions.{most_versions, version_of}
use Rattle.icb_tree.specs.declared.fault.CurrentFault.{CurrentFault}
use Rattle.icb_tree.specs.declared.fault.CurrentFault.TheVariants as current
use Rattle.icb_turns.specs.declared.fault.JobFault.{JobFault}
use Rattle.icb_turns.specs.declared.fault.JobFault.TheVariants as fault
use Rattle.icb_rotate.specs.Drafting.{AnswersDraft, current_fault}
use Rattle.icb_rotate.specs.Keys.{put_first, rewrapped, rewrapped_entry}
use Rattle.icb_rotate.specs.Rotating.{AnswersKeys, AreRotated, IsRotationFault}
use Rattle.icb_rotate.specs.declared.draft.Draft.{Draft}
use Rattle.icb_rotate.specs.declared.keys.Master.{Master}
use Rattle.icb_rotate.proofs.CallLemmas.{keys_only}
use Rattle.icb_rotate.proofs.KeyLemmas.{first_of, is_sealed_again}
use Rattle.icb_rotate.proofs.StandLemmas.{is_free}

-- ---- ids

abbrev ids_of : List KeyEntry → List (List ℕ)
ids_of es = map (λ e. e.id) es

module _ (table : KeyTable) (ring : Ring) (master : Master) where
  ids_by : (e : KeyEntry) (es : List KeyEntry) (drawn : List ℕ) (ns : List KeyEntry) (b : Bool)
      → ((left : List ℕ) (more : List KeyEntry) → rewrapped table ring master es left ≡ Some more → ids_of more ≡ ids_of es)
      → (if b then put_first (rewrapped_entry table ring master drawn e) (rewrapped table ring master es (drop 12 drawn)) else put_first (Some e) (rewrapped table ring master es drawn)) ≡ Some ns
      → ids_of ns ≡ e.id ∷ ids_of es
  ids_by e es drawn ns true later h =
      let f = first_of table ring master (rewrapped_entry table ring master drawn e) (rewrapped table ring master es (drop 12 drawn)) ns h in
      let again = is_sealed_again table ring master drawn e f.0 f.2 in
      ap ids_of f.4 ∙ ap (λ x. x ∷ ids_of f.1) again.id ∙ ap (λ l. e.id ∷ l) (later (drop 12 drawn) f.1 f.3)
  ids_by e es drawn ns false later h =
      let f = first_of table ring master (Some e) (rewrapped table ring master es drawn) ns h in
      let same : e ≡ f.0 = some_is e f.0 f.2 in
      ap ids_of f.4 ∙ ap (λ x. x ∷ ids_of f.1) (ap (λ (x : KeyEntry). x.id) (sym same)) ∙ ap (λ l. e.id ∷ l) (later drawn f.1 f.3)
    where
      some_is : (x y : KeyEntry) → Some x ≡ Some y → x ≡ y
      some_is x y h = cc

  -- keys that are sealed again keep their ids
  ids_kept : (es : List KeyEntry) (drawn : List ℕ) (ns : List KeyEntry) → rewrapped table ring master es drawn ≡ Some ns → ids_of ns ≡ ids_of es
  unfolding rewrapped
  ids_kept [] drawn ns h = let same : [] ≡ ns = cc in ap ids_of (sym same)
  ids_kept (e ∷ es) drawn ns h = ids_by e es drawn ns (seals_key table e) (λ left more is. ids_kept es left more is) h

-- the ids of keys that metadata show are distinct, and so are those of the keys sealed again
pub distinct_kept : (json : Data) (meta : Fields) (ring : Ring) (version : ℕ) (id drawn : List ℕ) (ns : List KeyEntry)
    → fields_of json ≡ Ok meta → AreRotated (table_of meta.state) ring version id drawn ns → are_distinct (map (λ (e : KeyEntry). e.id) ns) ≡ true
distinct_kept json meta ring version id drawn ns shown rotated =
    let state = state_to json meta.state (parts_to json meta shown).state in
    let had = keys_held (codes "encryption-keys") json meta.state.entries state.entries in
    ap are_distinct (ids_kept (table_of meta.state) ring (record { id = id; key = rotated.key }) meta.state.entries drawn ns rotated.sealed) ∙ had.1

-- the version isn't the last that there may be
pub is_few : (meta : Fields) (ring : Ring) (version : ℕ) (id drawn : List ℕ) (ns : List KeyEntry)
    → AreRotated (table_of meta.state) ring version id drawn ns → version < 1000000
is_few meta ring version id drawn ns rotated =
    let few : nat_le most_versions version ≡ false = (is_free (table_of meta.state) ring version id rotated.key rotated.is_key).few in
    grind (arith, nat_tests)

-- ---- faults

-- calls that end with this fault end with that one
pub draws_as : {D : Type 0} (of : draws.Ghosts D) (drawn : List ℕ) (one two : Type 0) (x y : D) → (one → two) → (two → one)
    → DrawsText of drawn one x y → DrawsText of drawn two x y
draws_as of drawn one two x y to from d = record {
  count = record { later = d.count.later; rose = λ h. d.count.rose (from h); stays = λ none. d.count.stays (λ h. none (to h)) };
  more = d.more;
  whole = λ none. d.whole (λ h. none (to h));
}

pub reads_as : {S : Type 0} (of : store.Ghosts S) (one two : Type 0) (x y : S) → (one → two) → (two → one)
    → ReadsOnly of one x y → ReadsOnly of two x y
reads_as of one two x y to from r = record {
  same = r.same;
  count = record { later = r.count.later; rose = λ h. r.count.rose (from h); stays = λ none. r.count.stays (λ h. none (to h)) };
  kept = r.kept;
}

-- a refusal
abbrev pub fails : {A : Type 0} → JobFault → Result A JobFault
fails e = Err e

-- a refusal of one call is the same of another
pub fault_to : (A B : Type 0) (e f : JobFault) → fails {A = A} e ≡ Err f → fails {A = B} e ≡ Err f
fault_to A B e f h = let same : e ≡ f = cc in ap (λ x. Err x) same

module _ (given : Result (Data × Fields) CurrentFault) (ring : Ring) (version : ℕ) (id : List ℕ) (now_ms : ℕ) where
  -- metadata that isn't read
  pub unread : (f : CurrentFault) → reading.Answers reading.shown_meta given (Err f)
      → AnswersDraft given ring version id now_ms [] (Err (current_fault f))
  unread current.NoTable h = (rw h refl, refl)
  unread (current.Limit w n) h = (rw h refl, refl)
  unread (current.BadMeta b) h = (rw h refl, refl)
  unread current.Store h = refl
  unread current.NoMemory h = tt

pub store_from : (A B : Type 0) (f : CurrentFault) → fails {A = B} (current_fault f) ≡ Err fault.Store → ◌≡◌ {A = Result A CurrentFault} (Err f) (Err current.Store)
store_from A B current.NoTable h = absurd (let g : ⊥ = cc in g)
store_from A B (current.Limit w n) h = absurd (let g : ⊥ = cc in g)
store_from A B (current.BadMeta b) h = absurd (let g : ⊥ = cc in g)
store_from A B current.Store h = refl
store_from A B current.NoMemory h = absurd (let g : ⊥ = cc in g)

pub store_to : (A B : Type 0) (f : CurrentFault) → ◌≡◌ {A = Result A CurrentFault} (Err f) (Err current.Store) → fails {A = B} (current_fault f) ≡ Err fault.Store
store_to A B f h = let same : f ≡ current.Store = cc in ap (λ x. Err (current_fault x)) same

pub unread_not_random : (A : Type 0) (f : CurrentFault) → fails {A = A} (current_fault f) ≡ Err fault.Random → ⊥
unread_not_random A current.NoTable h = cc
unread_not_random A (current.Limit w n) h = cc
unread_not_random A (current.BadMeta b) h = cc
unread_not_random A current.Store h = cc
unread_not_random A current.NoMemory h = cc

module _ (json : Data) (meta : Fields) (ring : Ring) (version : ℕ) (id : List ℕ) (now_ms : ℕ) (drawn : List ℕ) where
  -- keys that are refused
  pub unkeyed : (e : JobFault) → AnswersKeys (table_of meta.state) ring version id drawn (Err e)
      → AnswersDraft (Ok (json, meta)) ring version id now_ms drawn (Err e)
  unkeyed fault.NoTable h = h
  unkeyed (fault.BadMeta f) h = h
  unkeyed (fault.BadInput l r) h = h
  unkeyed (fault.Cannot w) h = h
  unkeyed (fault.SameKey i) h = h
  unkeyed (fault.KeyName i) h = h
  unkeyed (fault.Tree c) h = h
  unkeyed (fault.NameTaken p) h = h
  unkeyed (fault.Contended v) h = h
  unkeyed (fault.Limit w n) h = h
  unkeyed fault.Random h = h
  unkeyed fault.Store h = absurd h
  unkeyed fault.NoMemory h = tt

  pub unkeyed_reads_none : (A : Type 0) (e : JobFault) → AnswersKeys (table_of meta.state) ring version id drawn (Err e)
      → fails {A = A} e ≡ Err fault.Store → ⊥
  unkeyed_reads_none A e h is =
      let same : e ≡ fault.Store = cc in
      subst (λ x. AnswersKeys (table_of meta.state) ring version id drawn (Err x)) same h

-- a refusal of a version is one of a rotation
pub current_only : (f : CurrentFault) → IsRotationFault (current_fault f)
current_only current.NoTable = tt
current_only (current.Limit w n) = tt
current_only (current.BadMeta b) = tt
current_only current.Store = tt
current_only current.NoMemory = tt

-- a draft that is refused is so too
pub draft_only : (json : Data) (meta : Fields) (ring : Ring) (version : ℕ) (id : List ℕ) (now_ms : ℕ) (drawn : List ℕ) (a : Result Draft JobFault)
    → AnswersDraft (Ok (json, meta)) ring version id now_ms drawn a → IfErr a IsRotationFault
draft_only json meta ring version id now_ms drawn (Ok d) h = tt
draft_only json meta ring version id now_ms drawn (Err fault.NoTable) h = tt
draft_only json meta ring version id now_ms drawn (Err (fault.BadMeta f)) h = tt
draft_only json meta ring version id now_ms drawn (Err (fault.BadInput l r)) h = keys_only (table_of meta.state) ring version id drawn (fault.BadInput l r) h
draft_only json meta ring version id now_ms drawn (Err (fault.Cannot w)) h = keys_only (table_of meta.state) ring version id drawn (fault.Cannot w) h
draft_only json meta ring version id now_ms drawn (Err (fault.SameKey i)) h = tt
draft_only json meta ring version id now_ms drawn (Err (fault.KeyName i)) h = tt
draft_only json meta ring version id now_ms drawn (Err (fault.Tree c)) h = keys_only (table_of meta.state) ring version id drawn (fault.Tree c) h
draft_only json meta ring version id now_ms drawn (Err (fault.NameTaken p)) h = keys_only (table_of meta.state) ring version id drawn (fault.NameTaken p) h
draft_only json meta ring version id now_ms drawn (Err (fault.Contended v)) h = tt
draft_only json meta ring version id now_ms drawn (Err (fault.Limit w n)) h = tt
draft_only json meta ring version id now_ms drawn (Err fault.Random) h = tt
draft_only json meta ring version id now_ms drawn (Err fault.Store) h = tt
draft_only json meta ring version id now_ms drawn (Err fault.NoMemory) h = tt

-- what is answered of a version that was read
pub told_draft : (o : Option Objects) (ring : Ring) (version : ℕ) (id : List ℕ) (now_ms : ℕ) (drawn : List ℕ) (shown : Data × Fields) (a : Result Draft JobFault)
    → IfSome o (λ files. version_of files version ≡ Ok shown) → AnswersDraft (Ok shown) ring version id now_ms drawn a
    → IfSome o (λ files. AnswersDraft (version_of files version) ring version id now_ms drawn a)
told_draft None ring version id now_ms drawn shown a is h = tt
told_draft (Some files) ring version id now_ms drawn shown a is h =
    subst (λ given. AnswersDraft given ring version id now_ms drawn a) (sym is) h

-- and of one that wasn't
pub told_unread : (o : Option Objects) (ring : Ring) (version : ℕ) (id : List ℕ) (now_ms : ℕ) (f : CurrentFault)
    → IfSome o (λ files. reading.Answers reading.shown_meta (version_of files version) (Err f))
    → IfSome o (λ files. AnswersDraft (version_of files version) ring version id now_ms [] (Err (current_fault f)))
told_unread None ring version id now_ms f h = tt
told_unread (Some files) ring version id now_ms f h = unread (version_of files version) ring version id now_ms f h

-- a draft is of the version that was read
pub draft_from : (shown : Data × Fields) (ring : Ring) (version : ℕ) (id : List ℕ) (now_ms : ℕ) (drawn : List ℕ) (a : Result Draft JobFault)
    → AnswersDraft (Ok shown) ring version id now_ms drawn a → IfOk a (λ draft. draft.from ≡ version)
draft_from shown ring version id now_ms drawn (Ok d) h = h.is.from
draft_from shown ring version id now_ms drawn (Err e) h = tt
