-- Tables and versions of stores in which one more object was put.
use Rattle.std.proofs.Common.{◌≡◌, inl, inr, ◌<◌, ◌≤◌, ◌^◌, ℕ, ℤ, suc, List, Bool, true, false, cond, Option, Some, None, is_some, IsSomeAnd, Ok, refl, sym, ap, ◌∙◌, subst, arith}
use Rattle.std.specs.FinMap as finite
use Rattle.std.specs.Prelude.{◌++◌, codes, decimal}
use Rattle.std.specs.Str.{bytes_eq}
use Rattle.std.proofs.lemmas.Fmt.{decimal_injective}
use Rattle.std.proofs.lemmas.List.{append_cancel_left, append_cancel_right}
use Rattle.std.proofs.lemmas.Slice.Eq.{bytes_eq-Decides}
use Rattle.icb_base.specs.Objects.{Grows, Objects, object_at, with_object}
use Rattle.icb_base.proofs.LawLemmas.{object_at-with_object, put_grows}
use Rattle.icb_chain.specs.Ring.{Ring}
use Rattle.icb_meta.specs.declared.fields.Fields.{Fields}
use Rattle.icb_table.specs.Contents.{plaintexts_in}
use Rattle.icb_table.specs.Listed.{Listed}
use Rattle.icb_table.specs.Snapshots.{columns_of}
use Rattle.icb_table.specs.Standing.{IsLast}
use Rattle.icb_table.specs.Table.{HasRows, HasTree, IsInTable, IsTable, Table, contents_in}
use Rattle.icb_table.specs.Tree.{TreeFile, tree_below}
use Rattle.icb_table.proofs.KnownLemmas.{plaintexts_grown}
use Rattle.icb_table.proofs.TableLemmas.{table_when_grown}
use Rattle.icb_table.proofs.TreeLemmas.{whole_tree_stays}
use Rattle.icb_tree.specs.Versions.{version_path}
use Rattle.icb_turns.specs.Laws.{FilePutIsTurn, PutIsLast, RestIsTurn}
use Rattle.icb_turns.specs.Turns.{IsVersionPath}

-- ---- files that were listed

-- the tree of a snapshot stays
pub tree_grown : (before now : Objects) (meta : Fields) (ring : Ring) (id : ℤ) (tree : List TreeFile)
    → Grows before now → HasTree before meta ring id tree → HasTree now meta ring id tree
tree_grown before now meta ring id tree grows h = record {
  list = h.list;
  is_list = h.is_list;
  is_tree = whole_tree_stays (columns_of meta) meta.heading.location h.list (plaintexts_in before)
      (plaintexts_in now) tree (plaintexts_grown before now grows) h.is_tree;
}

-- what holds of what is there
some_of : {A : Type 0} (o : Option A) (P : A → Type 0) → IsSomeAnd o P → (x : A) × P x
some_of None P h = absurd h
some_of (Some x) P h = (x, h)

-- one snapshot has one tree
pub tree_is : (files : Objects) (meta : Fields) (ring : Ring) (id : ℤ) (one two : List TreeFile)
    → HasTree files meta ring id one → HasTree files meta ring id two → one ≡ two
tree_is files meta ring id one two a b =
    let both : Ok a.list ≡ Ok b.list = sym a.is_list ∙ b.is_list in
    let same : a.list ≡ b.list = cc in
    ap (λ t. t.items) (sym a.is_tree
    ∙ ap (tree_below meta.heading.location (contents_in meta files)) same ∙ b.is_tree)

-- a file that is listed since a store grew was listed before
pub was_in_table : (before now : Objects) (meta : Fields) (ring : Ring) (table : Table) (f : Listed)
    → Grows before now → IsTable before meta ring table → IsInTable now meta ring f
    → IsInTable before meta ring f
was_in_table before now meta ring table f grows h is_in =
    let had = some_of (finite.get table is_in.id) (HasRows before meta ring is_in.id)
    (h.each_snapshot is_in.id is_in.is_snapshot) in
    let then_tree = had.1.has_tree in
    let same : had.1.tree ≡ is_in.tree = tree_is now meta ring is_in.id had.1.tree is_in.tree
    (tree_grown before now meta ring is_in.id had.1.tree grows then_tree) is_in.has_tree in
    record {
      id = is_in.id;
      is_snapshot = is_in.is_snapshot;
      tree = is_in.tree;
      has_tree = subst (HasTree before meta ring is_in.id) same then_tree;
      is_in = is_in.is_in;
    }

-- ---- versions

pub same_version : (v w : ℕ) → v < 2 ^ 64 → w < 2 ^ 64 → version_path v ≡ version_path w → v ≡ w
same_version v w p q e = decimal_injective v w p q (append_cancel_left (codes "metadata/v") (decimal v) (decimal w)
    (append_cancel_right (codes "metadata/v" ++ decimal v) (codes "metadata/v" ++ decimal w) (codes ".metadata.json") e))

-- what is held at a path, by whether it is that of the put
is_held : (files : Objects) (path bytes other : List ℕ) (b : Bool) → bytes_eq other path ≡ b
    → is_some (object_at (with_object files path bytes) other) ≡ is_some (cond b (Some bytes) (object_at files other))
is_held files path bytes other b e =
    ap is_some (object_at-with_object files path bytes other ∙ ap (λ c. cond c (Some bytes) (object_at files other)) e)

-- a version is held where it is the one that was put, or was held
forth : (files : Objects) (last v : ℕ) (bytes : List ℕ) (b : Bool) → IsLast files last → suc last < 2 ^ 64 → v < 2 ^ 64
    → bytes_eq (version_path v) (version_path (suc last)) ≡ b
    → is_some (cond b (Some bytes) (object_at files (version_path v))) ≡ true → (1 ≤ v) × (v ≤ suc last)
forth files last v bytes true is small fits e h =
    let same : v ≡ suc last = same_version v (suc last) fits small ((bytes_eq-Decides (version_path v) (version_path (suc last))).0 e) in
    (omega (arith, same), omega (arith, same))
forth files last v bytes false is small fits e h =
    let old = (is.held v fits).0 h in (old.0, omega (arith, old.1))

back : (files : Objects) (last v : ℕ) (bytes : List ℕ) (b : Bool) → IsLast files last → v < 2 ^ 64
    → bytes_eq (version_path v) (version_path (suc last)) ≡ b → (1 ≤ v) × (v ≤ suc last)
    → is_some (cond b (Some bytes) (object_at files (version_path v))) ≡ true
back files last v bytes true is fits e h = refl
back files last v bytes false is fits e h =
    let apart : (v ≡ suc last → ⊥) = λ same.
    let here : bytes_eq (version_path v) (version_path (suc last)) ≡ true =
    (bytes_eq-Decides (version_path v) (version_path (suc last))).1 (ap version_path same) in
    let g : ⊥ = cc in g in
    (is.held v fits).1 (h.0, grind (arith, apart, h.1))

pub put_is_last : PutIsLast
put_is_last files last bytes is small = record {
  some = omega arith;
  held = λ v fits. (
    λ h. forth files last v bytes (bytes_eq (version_path v) (version_path (suc last))) is small fits refl
        (sym (is_held files (version_path (suc last)) bytes (version_path v) (bytes_eq (version_path v) (version_path (suc last))) refl) ∙ h),
    λ h. is_held files (version_path (suc last)) bytes (version_path v) (bytes_eq (version_path v) (version_path (suc last))) refl
        ∙ back files last v bytes (bytes_eq (version_path v) (version_path (suc last))) is fits refl h,
  );
}

-- ---- turns that change nothing

pub rest_is_turn : RestIsTurn
rest_is_turn own ring files meta table stands = record {
  puts = inl refl;
  is_new = tt;
  meta = meta;
  after = record { location = refl; layout = refl; current = refl };
  lists = λ f is. inl is;
  stands = stands;
}

-- what is held at a path that isn't that of the put
left_at : (files : Objects) (path bytes other : List ℕ) (b : Bool) → bytes_eq other path ≡ b → (other ≡ path → ⊥)
    → is_some (cond b (Some bytes) (object_at files other)) ≡ is_some (object_at files other)
left_at files path bytes other true e apart = absurd (apart ((bytes_eq-Decides other path).0 e))
left_at files path bytes other false e apart = refl

last_left : (files : Objects) (path bytes : List ℕ) (last : ℕ) → (IsVersionPath path → ⊥) → IsLast files last
    → IsLast (with_object files path bytes) last
last_left files path bytes last no_version is = record {
  some = is.some;
  held = λ v small. (
    λ h. (is.held v small).0 (sym (same v) ∙ h),
    λ h. same v ∙ (is.held v small).1 h,
  );
}
  where
    same : (v : ℕ) → is_some (object_at (with_object files path bytes) (version_path v)) ≡ is_some (object_at files (version_path v))
    same v = is_held files path bytes (version_path v) (bytes_eq (version_path v) path) refl
        ∙ left_at files path bytes (version_path v) (bytes_eq (version_path v) path) refl (λ e. no_version (v, sym e))

pub file_put_is_turn : FilePutIsTurn
file_put_is_turn own ring files meta table path bytes stands may no_version free =
    let grows : Grows files (with_object files path bytes) = put_grows files path bytes free in
    let was : (f : Listed) → IsInTable (with_object files path bytes) meta ring f → IsInTable files meta ring f =
    λ f is. was_in_table files (with_object files path bytes) meta ring table f grows stands.is_table is in
    record {
      puts = inr (record { path = path; bytes = bytes; may_be = inl may; free = free; put = refl });
      is_new = tt;
      meta = meta;
      after = record { location = refl; layout = refl; current = refl };
      lists = λ f is. inl (was f is);
      stands = record {
        last = stands.last;
        is_last = last_left files path bytes stands.last no_version stands.is_last;
        current = record {
          bytes = stands.current.bytes;
          held = grows.stays (version_path stands.last) stands.current.bytes stands.current.held;
          json = stands.current.json;
          shows = stands.current.shows;
        };
        is_table = table_when_grown files (with_object files path bytes) meta ring table grows stands.is_table;
        own_prefixes = λ f is own. stands.own_prefixes f (was f is) own;
      };
    }
