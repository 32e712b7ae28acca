-- The store behind the put of a rotation.
use Rattle.std.specs.Prelude.{◌≡◌, ◌<◌, ◌≤◌, ◌+◌, ◌^◌, ℕ, suc, Bool, true, false, cond, List, [], ◌∷◌, bytes_eq, nat_le, Option, Some, None, is_some, Result, Ok, Err}
use Rattle.std.proofs.Common.{refl, ap, ◌∙◌, sym, subst, arith, inl, inr}
use Rattle.std.proofs.lemmas.Slice.Eq.{bytes_eq-Decides}
use Rattle.icb_base.specs.Objects.{Grows, Objects, object_at, with_object}
use Rattle.icb_base.specs.declared.limits.Limited.TheVariants as limit
use Rattle.icb_base.proofs.LawLemmas.{object_at-with_object, put_grows}
use Rattle.icb_chain.specs.Opening.{KeyTable, list_key_of, table_of}
use Rattle.icb_chain.specs.Ring.{Ring, key_named}
use Rattle.icb_chain.specs.declared.fault.ChainFault.TheVariants as chain
use Rattle.icb_edits.specs.Keys.{key_fields}
use Rattle.icb_meta.specs.Forms.{entry_named}
use Rattle.icb_meta.specs.declared.fields.Fields.{Fields}
use Rattle.icb_meta.specs.declared.records.KeyEntry.{KeyEntry}
use Rattle.icb_table.specs.Listed.{Listed}
use Rattle.icb_table.specs.Standing.{IsLast, ShowsMeta, Stands}
use Rattle.icb_table.specs.Table.{IsInTable, Table}
use Rattle.icb_table.proofs.TableLemmas.{table_when_grown}
use Rattle.icb_tree.specs.Versions.{most_versions, version_path}
use Rattle.icb_turns.specs.Answers.{◌>>=◌, or_refused, refused_where}
use Rattle.icb_turns.specs.Turns.{IsTurn, keeps_rows}
use Rattle.icb_turns.proofs.GrownLemmas.{put_is_last, was_in_table}
use Rattle.icb_turns.specs.declared.fault.CannotWhat.TheVariants as form
use Rattle.icb_turns.specs.declared.fault.JobFault.{JobFault}
use Rattle.icb_turns.specs.declared.fault.JobFault.TheVariants as fault
use Rattle.icb_walk.specs.declared.fault.TreeFault.TheVariants as walk
use Rattle.icb_rotate.specs.Drafting.{next_json}
use Rattle.icb_rotate.specs.Keeping.{FitsDraft, IsRotated}
use Rattle.icb_rotate.specs.Keys.{all_open, encrypted_by, may_name, new_master_of}
use Rattle.icb_rotate.specs.Laws.{AreSealedAgain}
use Rattle.icb_rotate.specs.Rotating.{AreRotated, master_for}
use Rattle.icb_rotate.specs.declared.draft.Draft.{Draft}
use Rattle.icb_rotate.specs.declared.keys.Master.{Master}
use Rattle.icb_rotate.proofs.KeyLemmas.{keys_stay, only_master}
use Rattle.icb_rotate.proofs.VersionLemmas.{meta_same, version_held}
use Rattle.icb_rotate.proofs.TableLemmas.{in_from, keys_said, lists_alike, rotated_is_table}

-- ---- tests that passed

record Passed {A B : Type 0} (r : Result A JobFault) (f : A → Result B JobFault) (y : B) : Type 0 where
  x : A
  first : r ≡ Ok x
  then_is : f x ≡ Ok y

passed : {A B : Type 0} (r : Result A JobFault) (f : A → Result B JobFault) (y : B) → (r >>= f) ≡ Ok y → Passed r f y
passed (Ok x) f y h = record { x = x; first = refl; then_is = h }
passed (Err e) f y h = absurd (let g : ⊥ = cc in g)

is_there : {A : Type 0} (e : JobFault) (o : Option A) (y : A) → or_refused e o ≡ Ok y → o ≡ Some y
is_there e None y h = absurd (let g : ⊥ = cc in g)
is_there e (Some x) y h = let same : x ≡ y = cc in ap Some same

not_where : (e : JobFault) (b : Bool) (y : Unit {0}) → refused_where e b ≡ Ok y → b ≡ false
not_where e true y h = absurd (let g : ⊥ = cc in g)
not_where e false y h = refl

none_there : {A : Type 0} (o : Option A) → is_some o ≡ false → o ≡ None
none_there None h = refl
none_there (Some x) h = absurd (let g : ⊥ = cc in g)

-- what is known of a new master's key
pub record IsFree (table : KeyTable) (ring : Ring) (version : ℕ) (id key : List ℕ) : Type 0 where
  pub new : entry_named id table.entries ≡ None
  pub known : key_named id ring ≡ Some key
  pub few : nat_le most_versions version ≡ false

pub is_free : (table : KeyTable) (ring : Ring) (version : ℕ) (id key : List ℕ) → master_for table ring version id ≡ Ok key
    → IsFree table ring version id key
unfolding new_master_of
is_free table ring version id key h =
    let one = passed (new_master_of table ring id) (λ key. refused_where (fault.Limit limit.Versions most_versions) (nat_le most_versions version) >>= (λ few. Ok key)) key h in
    let two = passed (refused_where (fault.Limit limit.Versions most_versions) (nat_le most_versions version)) (λ few. Ok one.x) key one.then_is in
    let same : one.x ≡ key = ok_same one.x key two.then_is in
    let named = passed (may_name table id) (λ named. all_open table ring table.entries >>= (λ opened. or_refused (fault.Tree (walk.Chain (chain.NoKey id))) (key_named id ring))) one.x one.first in
    let opened = passed (all_open table ring table.entries) (λ opened. or_refused (fault.Tree (walk.Chain (chain.NoKey id))) (key_named id ring)) one.x named.then_is in
    let master = passed (or_refused (fault.Cannot form.NotEncrypted) (encrypted_by table))
    (λ master. refused_where (fault.SameKey id) (bytes_eq master id) >>= (λ other. refused_where (fault.KeyName id) (is_some (entry_named id table.entries)))) named.x named.first in
    let other = passed (refused_where (fault.SameKey id) (bytes_eq master.x id)) (λ other. refused_where (fault.KeyName id) (is_some (entry_named id table.entries))) named.x master.then_is in
    record {
      new = none_there (entry_named id table.entries) (not_where (fault.KeyName id) (is_some (entry_named id table.entries)) named.x other.then_is);
      known = is_there (fault.Tree (walk.Chain (chain.NoKey id))) (key_named id ring) one.x opened.then_is ∙ ap Some same;
      few = not_where (fault.Limit limit.Versions most_versions) (nat_le most_versions version) two.x two.first;
    }
  where
    ok_same : (x y : List ℕ) → ◌≡◌ {A = Result (List ℕ) JobFault} (Ok x) (Ok y) → x ≡ y
    ok_same x y h = cc

-- ---- versions

-- the version behind the last one, once it is put, is the last
next_is_last : (files : Objects) (last : ℕ) (bytes : List ℕ) → IsLast files last → last + 1 < 2 ^ 64
    → IsLast (with_object files (version_path (last + 1)) bytes) (last + 1)
next_is_last files last bytes is small =
    let e : suc last ≡ last + 1 = omega arith in
    subst (λ n. IsLast (with_object files (version_path n) bytes) n) e
    (put_is_last files last bytes is (omega (arith, small)))

-- what was put is held
put_held : (files : Objects) (path bytes : List ℕ) → object_at (with_object files path bytes) path ≡ Some bytes
put_held files path bytes =
    object_at-with_object files path bytes path
    ∙ ap (λ b. cond b (Some bytes) (object_at files path)) ((bytes_eq-Decides path path).1 refl)

-- ---- the put

module _ (files : Objects) (ring : Ring) (table : Table) (id : List ℕ) (draft : Draft) (fits : FitsDraft id ring files draft)
    (free : object_at files (version_path (draft.from + 1)) ≡ None) where
  -- the version that the draft was made of is the last
  from_last : (meta : Fields) (stands : Stands files meta ring table) → draft.from ≡ stands.last
  from_last meta stands =
      let few : draft.from < 1000000 = draft.few in
      let held = version_held files draft.from (fits.is.json, fits.is.meta) fits.is.shows in
      let within = (stands.is_last.held draft.from (omega (arith, few))).0 held in
      let not_next : draft.from + 1 ≤ stands.last → ⊥ = (λ le.
      let there = (stands.is_last.held (draft.from + 1) (omega (arith, few))).1 (omega arith, le) in
      let empty : is_some (object_at files (version_path (draft.from + 1))) ≡ false = ap is_some free in
      let g : ⊥ = cc in g) in
      omega (arith, within.1, not_next)

  same_meta : (meta : Fields) → Stands files meta ring table → meta ≡ fits.is.meta
  same_meta meta stands =
      meta_same files draft.from fits.is.json meta fits.is.meta
      (subst (λ n. ShowsMeta files (version_path n) meta) (sym (from_last meta stands)) stands.current) fits.is.shows

  abbrev meta_old : Fields
  meta_old = fits.is.meta

  abbrev entries : List KeyEntry
  entries = fits.is.is.entries

  abbrev meta_now : Fields
  meta_now = key_fields meta_old entries id fits.now_ms

  abbrev files_now : Objects
  files_now = with_object files (version_path (draft.from + 1)) draft.text

  abbrev rotation : AreRotated (table_of meta_old.state) ring draft.from id fits.drawn entries
  rotation = fits.is.is.rotated

  abbrev master : Master
  master = record { id = id; key = rotation.key }

  facts : IsFree (table_of meta_old.state) ring draft.from id rotation.key
  facts = is_free (table_of meta_old.state) ring draft.from id rotation.key rotation.is_key

  again : AreSealedAgain (table_of meta_old.state) ring master entries
  again = record { new = facts.new; drawn = fits.drawn; sealed = rotation.sealed }

  grows : Grows files files_now
  grows = put_grows files (version_path (draft.from + 1)) draft.text free

  lists : (ring_now : Ring) → key_named id ring_now ≡ Some rotation.key → (key : List ℕ)
      → list_key_of (table_of meta_now.state) ring_now key ≡ list_key_of (table_of meta_old.state) ring key
  lists ring_now known = lists_alike meta_old ring ring_now master entries fits.now_ms rotation.ascend
      (keys_stay (table_of meta_old.state) ring ring_now master entries again known)

  was_listed : (ring_now : Ring) → key_named id ring_now ≡ Some rotation.key → Stands files meta_old ring table → (f : Listed)
      → IsInTable files_now meta_now ring_now f → IsInTable files meta_old ring f
  was_listed ring_now known stands f is_in = was_in_table files files_now meta_old ring table f grows stands.is_table
      (in_from files_now meta_old ring ring_now entries id fits.now_ms (lists ring_now known) f is_in)

  -- under a keyring with the new master the store stands for the table
  stands_now : (ring_now : Ring) → key_named id ring_now ≡ Some rotation.key → Stands files meta_old ring table
      → Stands files_now meta_now ring_now table
  stands_now ring_now known stands = record {
    last = draft.from + 1;
    is_last = next_is_last files draft.from draft.text (subst (IsLast files) (sym (from_last meta_old stands)) stands.is_last)
        (let few : draft.from < 1000000 = draft.few in omega (arith, few));
    current = record {
      bytes = draft.text;
      held = put_held files (version_path (draft.from + 1)) draft.text;
      json = next_json fits.is.json meta_old draft.from entries id fits.now_ms;
      shows = fits.is.is.text.shows;
    };
    is_table = table_when_grown files files_now meta_now ring_now table grows
        (rotated_is_table files meta_old ring ring_now table master entries fits.now_ms again rotation.ascend known stands.is_table);
    own_prefixes = λ f is_in. stands.own_prefixes f (was_listed ring_now known stands f is_in);
  }

  -- the put is a rotation
  pub put_rotates : (meta : Fields) → Stands files meta ring table → IsRotated id ring files files_now table (draft.from + 1)
  put_rotates meta stands = record {
    text = draft.text;
    free = free;
    put = refl;
    key = rotation.key;
    is_key = facts.known;
    meta = meta_now;
    master = ap (λ t. t.master) (keys_said meta_old master entries fits.now_ms rotation.ascend);
    alone = stands_now ((id, rotation.key) ∷ []) (only_master master) (subst (λ m. Stands files m ring table) (same_meta meta stands) stands);
  }

  old_turn : Stands files meta_old ring table → IsTurn [] ring files meta_old files_now table keeps_rows
  old_turn stands = record {
    puts = inr (record { path = version_path (draft.from + 1); bytes = draft.text; may_be = inr (draft.from + 1, refl); free = free; put = refl });
    is_new = tt;
    meta = meta_now;
    after = record { location = refl; layout = refl; current = refl };
    lists = λ f is_in. inl (was_listed ring facts.known stands f is_in);
    stands = stands_now ring facts.known stands;
  }

  -- and a turn that keeps all rows
  pub put_is_turn : (meta : Fields) → Stands files meta ring table → IsTurn [] ring files meta files_now table keeps_rows
  put_is_turn meta stands =
      subst (λ m. IsTurn [] ring files m files_now table keeps_rows) (sym (same_meta meta stands))
      (old_turn (subst (λ m. Stands files m ring table) (same_meta meta stands) stands))
