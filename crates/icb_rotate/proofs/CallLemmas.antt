-- Answers of calls: refusals in their order, entries one by one, and what is drawn.
use Rattle.std.proofs.Common.{◌≡◌, ◌≤◌, ◌<◌, ◌+◌, ◌++◌, ℕ, zero, suc, Bool, true, false, ◌&&◌, List, [], ◌∷◌, length, drop, get_or, drop-cons, append_assoc, append-nil, Option, Some, None, option_map, Result, Ok, Err, refl, sym, ap, ◌∙◌, subst, arith, true≢false}
use Rattle.std.proofs.lemmas.List.{drop-drop}
use Rattle.std.specs.Prelude.{nat_le, is_ok, is_some, bytes_eq, if◌then◌else◌}
use Rattle.icb_base.specs.Calls.{DrawsText}
use Rattle.icb_base.specs.declared.limits.Limited.TheVariants as limit
use Rattle.icb_base.specs.declared.transfer.Draws as draws
use Rattle.icb_chain.specs.Opening.{KeyTable, kek_of, seals_key}
use Rattle.icb_chain.specs.Ring.{Ring, key_named}
use Rattle.icb_chain.specs.declared.fault.ChainFault.{ChainFault}
use Rattle.icb_chain.specs.declared.fault.ChainFault.TheVariants as chain
use Rattle.icb_meta.specs.Forms.{entry_named}
use Rattle.icb_meta.specs.declared.records.KeyEntry.{KeyEntry}
use Rattle.icb_tree.specs.Versions.{most_versions}
use Rattle.icb_turns.specs.Answers.{Answers, ◌>>=◌, of_chain, or_refused, refused_where}
use Rattle.icb_turns.specs.declared.fault.CannotWhat.TheVariants as form
use Rattle.icb_turns.specs.declared.fault.JobFault.{JobFault}
use Rattle.icb_turns.specs.declared.fault.JobFault.TheVariants as fault
use Rattle.icb_walk.specs.declared.fault.TreeFault.TheVariants as tree
use Rattle.icb_turns.proofs.AnswerLemmas.{fault_handed}
use Rattle.icb_rotate.specs.Keys.{all_ascend, all_open, encrypted_by, entry_opens, may_name, names_ascend, new_master_of, nonce_in, put_first, rewrapped, sealed_again}
use Rattle.icb_rotate.specs.Rotating.{AnswersKeys, IsFault, IsRotationFault, master_for}
use Rattle.icb_rotate.specs.declared.keys.Master.{Master}

none_left : (i : ℕ) (es : List KeyEntry) → length es ≤ i → drop i es ≡ []
none_left i [] h = drop_nothing i
  where
    drop_nothing : (i : ℕ) → drop {A = KeyEntry} i [] ≡ []
    drop_nothing zero = refl
    drop_nothing (suc i) = refl
none_left zero (e ∷ es) h = absurd (let g : ⊥ = omega (arith, h) in g)
none_left (suc i) (e ∷ es) h = none_left i es (omega (arith, h))

-- a refusal
abbrev pub err_of : {A : Type 0} → JobFault → Result A JobFault
err_of e = Err e

-- ---- entries that open, one by one

module _ (table : KeyTable) (ring : Ring) (es : List KeyEntry) where
  open_split : (i : ℕ) (d : KeyEntry) → i < length es
      → all_open table ring (drop i es) ≡ (entry_opens table ring (get_or es i d) >>= (λ opened. all_open table ring (drop (suc i) es)))
  unfolding all_open
  open_split i d h = ap (all_open table ring) (drop-cons es i d h)

  pub open_next : (i next : ℕ) (d : KeyEntry) (done : Unit {0}) (whole : Result (Unit {0}) JobFault) → next ≡ suc i → i < length es
      → all_open table ring (drop i es) ≡ whole → entry_opens table ring (get_or es i d) ≡ Ok done
      → all_open table ring (drop next es) ≡ whole
  open_next i next d done whole e h left opens =
      rw e (sym (ap (λ r. r >>= (λ opened. all_open table ring (drop (suc i) es))) opens) ∙ sym (open_split i d h) ∙ left)

  pub open_stops : (i : ℕ) (d : KeyEntry) (f : JobFault) (whole : Result (Unit {0}) JobFault) → i < length es
      → all_open table ring (drop i es) ≡ whole → Answers (entry_opens table ring (get_or es i d)) (Err f)
      → Answers whole (Err f)
  open_stops i d f whole h left answers =
      subst (λ r. Answers r (Err f)) (sym (open_split i d h) ∙ left)
      (fault_handed f (entry_opens table ring (get_or es i d)) (λ opened. all_open table ring (drop (suc i) es)) answers)

  pub open_end : (i : ℕ) (whole : Result (Unit {0}) JobFault) → length es ≤ i → all_open table ring (drop i es) ≡ whole → whole ≡ Ok tt
  unfolding all_open
  open_end i whole h left = sym left ∙ ap (all_open table ring) (none_left i es h)

-- ---- entries that are sealed again, one by one

prepended : (done : List KeyEntry) (n : KeyEntry) (o : Option (List KeyEntry))
    → option_map (λ es. done ++ es) (put_first (Some n) o) ≡ option_map (λ es. (done ++ n ∷ []) ++ es) o
prepended done n None = refl
prepended done n (Some es) = ap Some (sym (append_assoc done (n ∷ []) es))

push_first : (e n : KeyEntry) (es : List KeyEntry) (b : Bool) → names_ascend e.properties ≡ b
    → (all_ascend es ≡ true → all_ascend (es ++ n ∷ []) ≡ true) → (b && all_ascend es) ≡ true
    → (b && all_ascend (es ++ n ∷ [])) ≡ true
push_first e n es true s later h = later h
push_first e n es false s later h = h

pub ascend_push : (done : List KeyEntry) (n : KeyEntry) → all_ascend done ≡ true → names_ascend n.properties ≡ true → all_ascend (done ++ n ∷ []) ≡ true
ascend_push [] n h is = rw is refl
ascend_push (e ∷ es) n h is = push_first e n es (names_ascend e.properties) refl (λ k. ascend_push es n k is) h

module _ (table : KeyTable) (ring : Ring) (master : Master) (es : List KeyEntry) (drawn : List ℕ) where
  pub rewrapped_next : (i next at at_now : ℕ) (d n : KeyEntry) (done : List KeyEntry) (whole : Option (List KeyEntry)) → next ≡ suc i → i < length es
      → whole ≡ option_map (λ x. done ++ x) (rewrapped table ring master (drop i es) (drop at drawn))
      → ((more : List KeyEntry) → rewrapped table ring master (get_or es i d ∷ more) (drop at drawn)
      ≡ put_first (Some n) (rewrapped table ring master more (drop at_now drawn)))
      → whole ≡ option_map (λ x. (done ++ n ∷ []) ++ x) (rewrapped table ring master (drop next es) (drop at_now drawn))
  rewrapped_next i next at at_now d n done whole e h left step =
      rw e (left
      ∙ ap (λ l. option_map (λ x. done ++ x) (rewrapped table ring master l (drop at drawn))) (drop-cons es i d h)
      ∙ ap (option_map (λ x. done ++ x)) (step (drop (suc i) es))
      ∙ prepended done n (rewrapped table ring master (drop (suc i) es) (drop at_now drawn)))

  pub rewrapped_end : (i at : ℕ) (done : List KeyEntry) (whole : Option (List KeyEntry)) → length es ≤ i
      → whole ≡ option_map (λ x. done ++ x) (rewrapped table ring master (drop i es) (drop at drawn)) → whole ≡ Some done
  unfolding rewrapped
  rewrapped_end i at done whole h left =
      left ∙ ap (λ l. option_map (λ x. done ++ x) (rewrapped table ring master l (drop at drawn))) (none_left i es h) ∙ ap Some (append-nil done)

-- ---- the next entry

module _ (table : KeyTable) (ring : Ring) (master : Master) (e : KeyEntry) where
  -- an entry of a list stays
  pub next_kept : (left : List ℕ) → seals_key table e ≡ false → (more : List KeyEntry)
      → rewrapped table ring master (e ∷ more) left ≡ put_first (Some e) (rewrapped table ring master more left)
  unfolding rewrapped
  next_kept left seals more = rw seals refl

  -- any other is sealed again
  pub next_sealed : (left nonce bytes : List ℕ) (n : KeyEntry) → seals_key table e ≡ true → nonce_in left ≡ Some nonce → kek_of table ring e.id ≡ Ok bytes
      → sealed_again master nonce bytes e ≡ Some n → (more : List KeyEntry)
      → rewrapped table ring master (e ∷ more) left ≡ put_first (Some n) (rewrapped table ring master more (drop 12 left))
  unfolding rewrapped
  next_sealed left nonce bytes n seals drawn opens sealed more = rw (seals, drawn, opens, sealed) refl

pub drop_behind : (at : ℕ) (drawn : List ℕ) → drop 12 (drop at drawn) ≡ drop (at + 12) drawn
drop_behind at drawn = drop-drop 12 at drawn

-- ---- which refusals there are

-- a refusal of a table's keys
abbrev is_key_fault : JobFault → Bool
is_key_fault (fault.Cannot form.NotEncrypted) = true
is_key_fault (fault.SameKey id) = true
is_key_fault (fault.KeyName id) = true
is_key_fault (fault.Tree (tree.Chain e)) = true
is_key_fault (fault.Limit w n) = true
is_key_fault other = false

abbrev Only : {A : Type 0} → Result A JobFault → Type 0
Only r = (e : JobFault) → r ≡ Err e → is_key_fault e ≡ true

only_first : {A : Type 0} (e : JobFault) → is_key_fault e ≡ true → Only {A = A} (Err e)
only_first e h f is = let same : e ≡ f = cc in subst (λ x. is_key_fault x ≡ true) same h

only_ok : {A : Type 0} (x : A) → Only (Ok x)
only_ok x e is = absurd (let g : ⊥ = cc in g)

only_bind : {A B : Type 0} (r : Result A JobFault) (f : A → Result B JobFault) → Only r → ((x : A) → Only (f x)) → Only (r >>= f)
only_bind (Ok x) f a b e is = b x e is
only_bind (Err y) f a b e is = let same : y ≡ e = cc in a e (ap (λ x. Err x) same)

only_there : {A : Type 0} (e : JobFault) (o : Option A) → is_key_fault e ≡ true → Only (or_refused e o)
only_there e None h = only_first e h
only_there e (Some x) h = only_ok x

only_where : (e : JobFault) (b : Bool) → is_key_fault e ≡ true → Only (refused_where e b)
only_where e true h = only_first e h
only_where e false h = only_ok {A = Unit {0}} tt

only_chain : {A : Type 0} (r : Result A ChainFault) → Only (of_chain r)
only_chain (Ok x) = only_ok x
only_chain (Err e) = only_first (fault.Tree (tree.Chain e)) refl

only_entry : (table : KeyTable) (ring : Ring) (e : KeyEntry) (b : Bool) → Only {A = Unit {0}} (if b then (of_chain (kek_of table ring e.id) >>= (λ key. Ok tt)) else Ok tt)
only_entry table ring e true = only_bind {B = Unit {0}} (of_chain (kek_of table ring e.id)) (λ key. Ok tt) (only_chain (kek_of table ring e.id)) (λ key. only_ok {A = Unit {0}} tt)
only_entry table ring e false = only_ok {A = Unit {0}} tt

only_open : (table : KeyTable) (ring : Ring) (es : List KeyEntry) → Only (all_open table ring es)
unfolding all_open
only_open table ring [] = only_ok {A = Unit {0}} tt
only_open table ring (e ∷ es) = only_bind (entry_opens table ring e) (λ opened. all_open table ring es) (only_entry table ring e (seals_key table e)) (λ opened. only_open table ring es)

only_name : (table : KeyTable) (id : List ℕ) → Only (may_name table id)
only_name table id = only_bind (or_refused (fault.Cannot form.NotEncrypted) (encrypted_by table))
    (λ master. refused_where (fault.SameKey id) (bytes_eq master id) >>= (λ other. refused_where (fault.KeyName id) (is_some (entry_named id table.entries))))
    (only_there (fault.Cannot form.NotEncrypted) (encrypted_by table) refl)
    (λ master. only_bind (refused_where (fault.SameKey id) (bytes_eq master id)) (λ other. refused_where (fault.KeyName id) (is_some (entry_named id table.entries)))
    (only_where (fault.SameKey id) (bytes_eq master id) refl) (λ other. only_where (fault.KeyName id) (is_some (entry_named id table.entries)) refl))

only_master : (table : KeyTable) (ring : Ring) (id : List ℕ) → Only (new_master_of table ring id)
unfolding new_master_of
only_master table ring id = only_bind (may_name table id) (λ named. all_open table ring table.entries >>= (λ opened. or_refused (fault.Tree (tree.Chain (chain.NoKey id))) (key_named id ring)))
    (only_name table id)
    (λ named. only_bind (all_open table ring table.entries) (λ opened. or_refused (fault.Tree (tree.Chain (chain.NoKey id))) (key_named id ring))
    (only_open table ring table.entries) (λ opened. only_there (fault.Tree (tree.Chain (chain.NoKey id))) (key_named id ring) refl))

-- one version more would be too many
only_few : (table : KeyTable) (ring : Ring) (version : ℕ) (id : List ℕ) → Only (master_for table ring version id)
only_few table ring version id = only_bind (new_master_of table ring id) (λ key. refused_where (fault.Limit limit.Versions most_versions) (nat_le most_versions version) >>= (λ few. Ok key))
    (only_master table ring id)
    (λ key. only_bind (refused_where (fault.Limit limit.Versions most_versions) (nat_le most_versions version)) (λ few. Ok key)
    (only_where (fault.Limit limit.Versions most_versions) (nat_le most_versions version) refl) (λ few. only_ok key))

key_fault_only : (e : JobFault) → is_key_fault e ≡ true → IsRotationFault e
key_fault_only fault.NoTable h = tt
key_fault_only (fault.BadMeta f) h = tt
key_fault_only (fault.BadInput l r) h = absurd (let g : ⊥ = cc in g)
key_fault_only (fault.Cannot form.NotEncrypted) h = tt
key_fault_only (fault.Cannot form.Partitioned) h = absurd (let g : ⊥ = cc in g)
key_fault_only (fault.Cannot form.Sorted) h = absurd (let g : ⊥ = cc in g)
key_fault_only (fault.Cannot form.ColumnName) h = absurd (let g : ⊥ = cc in g)
key_fault_only (fault.Cannot form.NoRowIds) h = absurd (let g : ⊥ = cc in g)
key_fault_only (fault.SameKey id) h = tt
key_fault_only (fault.KeyName id) h = tt
key_fault_only (fault.Tree (tree.Chain e)) h = tt
key_fault_only (fault.Tree (tree.NoSnapshot id)) h = absurd (let g : ⊥ = cc in g)
key_fault_only (fault.Tree (tree.PlainList id)) h = absurd (let g : ⊥ = cc in g)
key_fault_only (fault.Tree (tree.BadList id file what)) h = absurd (let g : ⊥ = cc in g)
key_fault_only (fault.Tree (tree.At path cause)) h = absurd (let g : ⊥ = cc in g)
key_fault_only (fault.Tree tree.Store) h = absurd (let g : ⊥ = cc in g)
key_fault_only (fault.Tree tree.NoMemory) h = absurd (let g : ⊥ = cc in g)
key_fault_only (fault.NameTaken p) h = absurd (let g : ⊥ = cc in g)
key_fault_only (fault.Contended v) h = tt
key_fault_only (fault.Limit w n) h = tt
key_fault_only fault.Random h = tt
key_fault_only fault.Store h = tt
key_fault_only fault.NoMemory h = tt

-- a refusal of keys is one of a rotation
pub keys_only : (table : KeyTable) (ring : Ring) (version : ℕ) (id drawn : List ℕ) (e : JobFault)
    → AnswersKeys table ring version id drawn (Err e) → IsRotationFault e
keys_only table ring version id drawn fault.NoTable h = tt
keys_only table ring version id drawn (fault.BadMeta f) h = tt
keys_only table ring version id drawn (fault.BadInput l r) h = key_fault_only (fault.BadInput l r) (only_few table ring version id (fault.BadInput l r) h.0)
keys_only table ring version id drawn (fault.Cannot w) h = key_fault_only (fault.Cannot w) (only_few table ring version id (fault.Cannot w) h.0)
keys_only table ring version id drawn (fault.SameKey i) h = tt
keys_only table ring version id drawn (fault.KeyName i) h = tt
keys_only table ring version id drawn (fault.Tree c) h = key_fault_only (fault.Tree c) (only_few table ring version id (fault.Tree c) h.0)
keys_only table ring version id drawn (fault.NameTaken p) h = key_fault_only (fault.NameTaken p) (only_few table ring version id (fault.NameTaken p) h.0)
keys_only table ring version id drawn (fault.Contended v) h = tt
keys_only table ring version id drawn (fault.Limit w n) h = tt
keys_only table ring version id drawn fault.Random h = tt
keys_only table ring version id drawn fault.Store h = tt
keys_only table ring version id drawn fault.NoMemory h = tt

-- ---- what is answered of keys

module _ (table : KeyTable) (ring : Ring) (version : ℕ) (id : List ℕ) where
  -- the first refusal is answered, and nothing is drawn
  pub refused_keys : (e : JobFault) → Answers (new_master_of table ring id) (Err e) → AnswersKeys table ring version id [] (Err e)
  refused_keys fault.NoTable h = (rw h refl, refl)
  refused_keys (fault.BadMeta f) h = (rw h refl, refl)
  refused_keys (fault.BadInput l r) h = (rw h refl, refl)
  refused_keys (fault.Cannot w) h = (rw h refl, refl)
  refused_keys (fault.SameKey i) h = (rw h refl, refl)
  refused_keys (fault.KeyName i) h = (rw h refl, refl)
  refused_keys (fault.Tree c) h = (rw h refl, refl)
  refused_keys (fault.NameTaken p) h = (rw h refl, refl)
  refused_keys (fault.Contended v) h = (rw h refl, refl)
  refused_keys (fault.Limit w n) h = (rw h refl, refl)
  refused_keys fault.Random h = absurd (true≢false (sym (only_master table ring id fault.Random h)))
  refused_keys fault.Store h = absurd (true≢false (sym (only_master table ring id fault.Store h)))
  refused_keys fault.NoMemory h = tt

  -- it isn't that of a generator
  pub not_random : {A : Type 0} (e : JobFault) → Answers (new_master_of table ring id) (Err e) → err_of {A = A} e ≡ Err fault.Random → ⊥
  not_random e h is =
      let same : e ≡ fault.Random = cc in
      true≢false (sym (only_master table ring id fault.Random (subst (λ x. Answers (new_master_of table ring id) (Err x)) same h)))

  pub few_key : (key : List ℕ) → new_master_of table ring id ≡ Ok key → nat_le most_versions version ≡ false → master_for table ring version id ≡ Ok key
  few_key key h few = rw (h, few) refl

  pub too_many : (key : List ℕ) → new_master_of table ring id ≡ Ok key → nat_le most_versions version ≡ true
      → master_for table ring version id ≡ Err (fault.Limit limit.Versions most_versions)
  too_many key h many = rw (h, many) refl

  -- a fill that failed, behind all refusals
  pub draw_refused : (e : JobFault) (key : List ℕ) → IsFault fault.Random e → master_for table ring version id ≡ Ok key → AnswersKeys table ring version id [] (Err e)
  draw_refused fault.Random key h is = (ap is_ok is, refl)
  draw_refused fault.NoMemory key h is = tt
  draw_refused fault.Store key h is = absurd (let g : ⊥ = cc in g)
  draw_refused fault.NoTable key h is = absurd (let g : ⊥ = cc in g)
  draw_refused (fault.BadMeta f) key h is = absurd (let g : ⊥ = cc in g)
  draw_refused (fault.BadInput l r) key h is = absurd (let g : ⊥ = cc in g)
  draw_refused (fault.Cannot w) key h is = absurd (let g : ⊥ = cc in g)
  draw_refused (fault.SameKey i) key h is = absurd (let g : ⊥ = cc in g)
  draw_refused (fault.KeyName i) key h is = absurd (let g : ⊥ = cc in g)
  draw_refused (fault.Tree c) key h is = absurd (let g : ⊥ = cc in g)
  draw_refused (fault.NameTaken p) key h is = absurd (let g : ⊥ = cc in g)
  draw_refused (fault.Contended v) key h is = absurd (let g : ⊥ = cc in g)
  draw_refused (fault.Limit w n) key h is = absurd (let g : ⊥ = cc in g)

-- the fault of a fill is that of the answer
pub draws_failed : {D : Type 0} (of : draws.Ghosts D) (drawn : List ℕ) (e : JobFault) (x y : D)
    → DrawsText of drawn (err_of {A = List ℕ} e ≡ Err fault.Random) x y → DrawsText of drawn (err_of {A = List KeyEntry} e ≡ Err fault.Random) x y
draws_failed of drawn e x y d = record {
  count = record { later = d.count.later; rose = λ h. d.count.rose (from h); stays = λ none. d.count.stays (λ h. none (to h)) };
  more = d.more;
  whole = λ none. d.whole (λ h. none (to h));
}
  where
    to : err_of {A = List ℕ} e ≡ Err fault.Random → err_of {A = List KeyEntry} e ≡ Err fault.Random
    to h = let same : e ≡ fault.Random = cc in ap (λ x. Err x) same

    from : err_of {A = List KeyEntry} e ≡ Err fault.Random → err_of {A = List ℕ} e ≡ Err fault.Random
    from h = let same : e ≡ fault.Random = cc in ap (λ x. Err x) same

-- bytes that were drawn without a failure are drawn, whatever comes behind
pub draws_other : {D : Type 0} (of : draws.Ghosts D) (drawn : List ℕ) (one two : Type 0) (x y : D) → (one → ⊥) → (two → ⊥)
    → DrawsText of drawn one x y → DrawsText of drawn two x y
draws_other of drawn one two x y no_one no_two d = record {
  count = record { later = d.count.later; rose = λ h. absurd (no_two h); stays = λ _. d.count.stays no_one };
  more = d.more;
  whole = λ _. d.whole no_one;
}
