-- Types by their full names: what the code's map holds, and what a definition's map holds once types are added.
use Rattle.std.proofs.Common.{◌≡◌, ℕ, List, [], ◌∷◌, ◌++◌, map, Bool, true, false, cond, Option, Some, None, option_map, option_copied, is_some, String, Global, string_bytes, string_cmp, nat_cmp, is_eq, Bor, inl, inr, refl, sym, ap, ◌∙◌}
use Rattle.std.specs.BTreeMap.{BTreeMap, is_at, UpdatesBy, get_by_text}
use Rattle.std.specs.Map.{lookup}
use Rattle.std.specs.Str.{bytes_eq}
use Rattle.std.specs.Cmp.Lexicographic.{slice_cmp, nat_list_cmp_total, nat_list_eq_equiv}
use Rattle.std.specs.FinMap as finite
use Rattle.std.specs.FinMap.{slice_cmp-IsAntisymmetric, nat_cmp-IsAntisymmetric}
use Rattle.std.proofs.lemmas.Map.Text.{is_eq-slice_cmp, btree_map_updates_text}
use Rattle.std.proofs.lemmas.Slice.Eq.{bytes_eq-Decides}
use Rattle.icb_schema.specs.Tree.{Tree}
use Rattle.icb_schema.specs.Nodes.{tree_of}
use Rattle.icb_schema.specs.Reading.{Types, with_type}
use Rattle.icb_schema.specs.Rules.{names_in}
use Rattle.icb_schema.specs.declared.node.Node.{Node}
use Rattle.icb_schema.proofs.NameLemmas.{In}

-- ---- the code's map

-- the types of a map's entries
abbrev pub types_of : List (String Global × Node) → Types
types_of es = finite.from_entries (map (λ e. (string_bytes e.0, tree_of e.1)) es)

map_cond : {A B : Type 0} (f : A → B) (b : Bool) (x : A) (o : Option A) → option_map f (cond b (Some x) o) ≡ cond b (Some (f x)) (option_map f o)
map_cond f true x o = refl
map_cond f false x o = refl

find_known : (name : List ℕ) (es : List (String Global × Node))
    → finite.find (slice_cmp nat_cmp) name (map (λ e. (string_bytes e.0, tree_of e.1)) es) ≡ option_map tree_of (lookup (is_at (λ k. slice_cmp nat_cmp name (string_bytes k))) es)
find_known name [] = refl
find_known name (e ∷ es) =
    ap (cond (is_eq (slice_cmp nat_cmp name (string_bytes e.0))) (Some (tree_of e.1))) (find_known name es)
    ∙ sym (map_cond tree_of (is_eq (slice_cmp nat_cmp name (string_bytes e.0))) e.1 (lookup (is_at (λ k. slice_cmp nat_cmp name (string_bytes k))) es))

-- the definition's map answers as the code's
pub get_types : (name : List ℕ) (es : List (String Global × Node)) → finite.get (types_of es) name ≡ option_map tree_of (lookup (is_at (λ k. slice_cmp nat_cmp name (string_bytes k))) es)
get_types name es = finite.get-from_entries nat_list_cmp_total _ name ∙ find_known name es

pub copied_tree : (o : Option (Bor Node)) → option_map (λ n. tree_of n.now) o ≡ option_map tree_of (option_copied o)
copied_tree None = refl
copied_tree (Some n) = refl

pub still_some : {A B : Type 0} (f : A → B) (o : Option A) → is_some (option_map f o) ≡ is_some o
still_some f None = refl
still_some f (Some x) = refl

new_type : (types : Types) (name : List ℕ) (t : Tree) → is_some (finite.get types name) ≡ false → with_type t (Some name) types ≡ finite.insert types name t
new_type types name t e = rw e refl

-- a type of a new name is inserted
pub inserted_type : (old new : BTreeMap (String Global) Node) (key : String Global) (node : Node) (t : Tree) (o : Option (List ℕ)) → o ≡ Some (string_bytes key) → tree_of node ≡ t
    → is_some (finite.get (types_of old.entries) (string_bytes key)) ≡ false → UpdatesBy string_cmp (λ k. slice_cmp nat_cmp (string_bytes key) (string_bytes k)) old new (Some node)
    → types_of new.entries ≡ with_type t o (types_of old.entries)
inserted_type old new key node t o is e none updates =
    finite.same_map nat_list_cmp_total (slice_cmp-IsAntisymmetric nat_cmp-IsAntisymmetric) _ _ (λ q.
    get_types q new.entries
    ∙ ap (option_map tree_of) (btree_map_updates_text (string_bytes key) old new (Some node) updates q)
    ∙ map_cond tree_of (bytes_eq (string_bytes key) q) node (get_by_text old q)
    ∙ rw (e, ← get_types q old.entries, nat_list_eq_equiv.symm (string_bytes key) q, ← is_eq-slice_cmp q (string_bytes key)) (sym (finite.get-insert nat_list_cmp_total (types_of old.entries) (string_bytes key) t q)))
    ∙ sym (ap (λ n. with_type t n (types_of old.entries)) is ∙ new_type (types_of old.entries) (string_bytes key) t none)

-- ---- types that are added one after another

-- the types, and then these
abbrev pub known_after : Types → List (List ℕ × Tree) → Types
known_after types [] = types
known_after types (t ∷ ts) = known_after (finite.insert types t.0 t.1) ts

pub known_twice : (types : Types) (ts us : List (List ℕ × Tree)) → known_after (known_after types ts) us ≡ known_after types (ts ++ us)
known_twice types [] us = refl
known_twice types (t ∷ ts) us = known_twice (finite.insert types t.0 t.1) ts us

other_name_at : (b : Bool) (m n : List ℕ) → bytes_eq n m ≡ b → (m ≡ n → ⊥) → b ≡ false
other_name_at true m n e h = absurd (h (sym ((bytes_eq-Decides n m).0 e)))
other_name_at false m n e h = refl

-- a type of another name changes no answer
pub get_other : (types : Types) (m : List ℕ) (t : Tree) (n : List ℕ) → (m ≡ n → ⊥) → finite.get (finite.insert types m t) n ≡ finite.get types n
get_other types m t n h = finite.get-insert nat_list_cmp_total types m t n ∙ rw (is_eq-slice_cmp n m, other_name_at (bytes_eq n m) m n refl h) refl

-- no type of this name was there, and none was added
pub known_none : (types : Types) (ts : List (List ℕ × Tree)) (n : List ℕ) → finite.get types n ≡ None → (In n (names_in ts) → ⊥) → finite.get (known_after types ts) n ≡ None
known_none types [] n e h = e
known_none types (t ∷ ts) n e h = known_none (finite.insert types t.0 t.1) ts n (get_other types t.0 t.1 n (λ s. h (inl s)) ∙ e) (λ i. h (inr i))
