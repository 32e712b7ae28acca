-- The table of files whose metadata's keys were sealed again.
use Rattle.std.specs.Prelude.{◌≡◌, ℕ, ℤ, List, Option, Some, None, IsSomeAnd, Result, Ok, true, codes}
use Rattle.std.specs.FinMap as finite
use Rattle.std.proofs.Common.{refl, ap, ◌∙◌, sym}
use Rattle.icb_base.specs.Objects.{Objects}
use Rattle.icb_chain.specs.Opening.{list_key_of, table_of}
use Rattle.icb_chain.specs.Ring.{Ring}
use Rattle.icb_edits.specs.Keys.{key_fields}
use Rattle.icb_meta.specs.declared.fields.Fields.{Fields}
use Rattle.icb_meta.specs.declared.records.KeyEntry.{KeyEntry}
use Rattle.icb_rows.specs.Records.{Row}
use Rattle.icb_base.specs.KeyMetadata.{KeyRecord}
use Rattle.icb_meta.specs.Forms.{snapshot_named}
use Rattle.icb_meta.specs.Ids.{resolved}
use Rattle.icb_meta.specs.declared.records.Snapshot.{Snapshot}
use Rattle.icb_table.specs.Listed.{Listed, listed}
use Rattle.icb_table.specs.Why as why
use Rattle.icb_table.specs.Snapshots.{◌>>=◌, Refused, bad_list, key_opened, list_of, no_snapshot, or_refused, plain_list}
use Rattle.icb_table.specs.Table.{HasRows, HasTree, IsInTable, IsTable, Table}
use Rattle.icb_table.specs.Tree.{TreeFile}
use Rattle.icb_rotate.specs.Keys.{all_ascend, rotated}
use Rattle.icb_rotate.specs.Laws.{OpensAlike, RotatedIsTable}
use Rattle.icb_rotate.specs.declared.keys.Master.{Master}
use Rattle.icb_rotate.proofs.KeyLemmas.{keys_stay}
use Rattle.icb_rotate.proofs.NameLemmas.{ordered_same, text_put}

-- the keys that the new metadata says
pub keys_said : (meta : Fields) (master : Master) (entries : List KeyEntry) (now : ℕ) → all_ascend entries ≡ true
    → table_of (key_fields meta entries master.id now).state ≡ rotated master entries
keys_said meta master entries now ascend =
    rw (text_put (codes "encryption.key-id") master.id meta.state.properties, ordered_same entries ascend) refl

module _ (files : Objects) (meta : Fields) (ring ring_now : Ring) (entries : List KeyEntry) (id : List ℕ) (now : ℕ)
    (lists : (key : List ℕ) → list_key_of (table_of (key_fields meta entries id now).state) ring_now key ≡ list_key_of (table_of meta.state) ring key) where
  abbrev meta_now : Fields
  meta_now = key_fields meta entries id now

  abbrev Rest : Type 0
  Rest = Snapshot → KeyRecord → Result Listed Refused

  by_key : (s : ℤ) (x : Snapshot) (k : Option (List ℕ)) (rest : Rest)
      → (or_refused (plain_list s) k >>= (λ key. key_opened (list_key_of (table_of meta_now.state) ring_now key) >>= rest x))
      ≡ (or_refused (plain_list s) k >>= (λ key. key_opened (list_key_of (table_of meta.state) ring key) >>= rest x))
  by_key s x None rest = refl
  by_key s x (Some key) rest = ap (λ r. key_opened r >>= rest x) (lists key)

  by_snapshot : (s : ℤ) (o : Option Snapshot) (rest : Rest)
      → (or_refused (no_snapshot s) o >>= (λ x. or_refused (plain_list s) x.key >>= (λ key. key_opened (list_key_of (table_of meta_now.state) ring_now key) >>= rest x)))
      ≡ (or_refused (no_snapshot s) o >>= (λ x. or_refused (plain_list s) x.key >>= (λ key. key_opened (list_key_of (table_of meta.state) ring key) >>= rest x)))
  by_snapshot s None rest = refl
  by_snapshot s (Some x) rest = by_key s x x.key rest

  list_same : (s : ℤ) → list_of meta_now ring_now s ≡ list_of meta ring s
  unfolding list_of
  list_same s = by_snapshot s (snapshot_named s meta.state.snapshots) (λ x opened.
      or_refused (bad_list s x.list why.outside_table) (resolved meta.heading.location x.list)
      >>= (λ path. or_refused (bad_list s x.list why.no_length) opened.length_told >>= (λ recorded. Ok (listed path opened recorded))))

  tree_to : (s : ℤ) (tree : List TreeFile) → HasTree files meta ring s tree → HasTree files meta_now ring_now s tree
  tree_to s tree h = record { list = h.list; is_list = list_same s ∙ h.is_list; is_tree = h.is_tree }

  tree_from : (s : ℤ) (tree : List TreeFile) → HasTree files meta_now ring_now s tree → HasTree files meta ring s tree
  tree_from s tree h = record { list = h.list; is_list = sym (list_same s) ∙ h.is_list; is_tree = h.is_tree }

  rows_to : (s : ℤ) (rows : List Row) → HasRows files meta ring s rows → HasRows files meta_now ring_now s rows
  rows_to s rows h = record { tree = h.tree; has_tree = tree_to s h.tree h.has_tree; are_rows = h.are_rows; bounds = h.bounds }

  some_more : {A : Type 0} (o : Option A) (P Q : A → Type 0) → ((x : A) → P x → Q x) → IsSomeAnd o P → IsSomeAnd o Q
  some_more None P Q f h = h
  some_more (Some x) P Q f h = f x h

  pub in_from : (f : Listed) → IsInTable files meta_now ring_now f → IsInTable files meta ring f
  in_from f h = record { id = h.id; is_snapshot = h.is_snapshot; tree = h.tree; has_tree = tree_from h.id h.tree h.has_tree; is_in = h.is_in }

  pub table_to : (table : Table) → IsTable files meta ring table → IsTable files meta_now ring_now table
  table_to table h = record {
    only_snapshots = h.only_snapshots;
    each_snapshot = λ s is. some_more (finite.get table s) (HasRows files meta ring s) (HasRows files meta_now ring_now s) (λ rows has. rows_to s rows has) (h.each_snapshot s is);
    one_way = λ f g a b e. h.one_way f g (in_from f a) (in_from g b) e;
    own_keys = λ f g a b k p. h.own_keys f g (in_from f a) (in_from g b) k p;
  }

-- the lists open as they did
pub lists_alike : (meta : Fields) (ring ring_now : Ring) (master : Master) (entries : List KeyEntry) (now : ℕ)
    → all_ascend entries ≡ true → OpensAlike (table_of meta.state) ring (rotated master entries) ring_now
    → (key : List ℕ) → list_key_of (table_of (key_fields meta entries master.id now).state) ring_now key ≡ list_key_of (table_of meta.state) ring key
lists_alike meta ring ring_now master entries now ascend alike key =
    ap (λ t. list_key_of t ring_now key) (keys_said meta master entries now ascend) ∙ alike.lists key

pub rotated_is_table : RotatedIsTable
rotated_is_table files meta ring ring_now table master entries now again ascend known h =
    table_to files meta ring ring_now entries master.id now
    (lists_alike meta ring ring_now master entries now ascend (keys_stay (table_of meta.state) ring ring_now master entries again known)) table h
