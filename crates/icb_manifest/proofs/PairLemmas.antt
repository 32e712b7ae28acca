-- Items of a map that are read one after another.
use Rattle.std.proofs.Common.{true, false, Some, ◌≡◌, ◌<◌, ◌≤◌, ◌+◌, ℕ, ℤ, List, [], ◌∷◌, ◌++◌, length, get_or, drop, Result, Ok, Err, refl, add-one, drop-cons, suc, append_assoc, append-nil}
use Rattle.std.proofs.lemmas.List.{drop_all}
use Rattle.icb_schema.specs.Tree.{Form}
use Rattle.icb_schema.specs.Nodes.{form_of, tree_of}
use Rattle.icb_schema.specs.declared.node.Node.{Node}
use Rattle.icb_schema.proofs.TreeLemmas.{tree_of_node}
use Rattle.icb_avro.specs.declared.value.Value.{Value, out-Value}
use Rattle.icb_fields.specs.Fields.{Row, ◌>>=◌, list_at, record_of}
use Rattle.icb_manifest.specs.Maps.{all_pairs, bytes_at, bytes_pair, has_bytes, has_longs, long_pair, longs_at}
use Rattle.icb_manifest.specs.declared.maps.MapIds.{MapIds}

-- what is read behind what was read
abbrev pub behind : {A : Type 0} → List A → Result (List A) ℤ → Result (List A) ℤ
behind done rest = rest >>= (λ more. Ok (done ++ more))

-- the rest, with one more in front
abbrev cons : {A : Type 0} → A → Result (List A) ℤ → Result (List A) ℤ
cons p rest = rest >>= (λ more. Ok (p ∷ more))

behind_cons : {A : Type 0} (done : List A) (p : A) (rest : Result (List A) ℤ) → behind done (cons p rest) ≡ behind (done ++ p ∷ []) rest
behind_cons done p (Ok more) = rw (append_assoc done (p ∷ []) more) refl
behind_cons done p (Err n) = refl

-- one more is read
pub pair_made : {A : Type 0} (pair : Row → Result A ℤ) (form : Form) (vs : List Value) (done : List A) (i : ℕ) (v : Value) (p : A) → i < length vs → v ≡ get_or vs i v
    → pair (record_of form (out-Value v)) ≡ Ok p
    → behind done (all_pairs pair form (drop i vs)) ≡ behind (done ++ p ∷ []) (all_pairs pair form (drop (i + 1) vs))
pair_made pair form vs done i v p within is e = rw (add-one, drop-cons vs i v, ← is, e) (behind_cons done p (all_pairs pair form (drop (suc i) vs)))

-- one is refused
pub pair_refused : {A : Type 0} (pair : Row → Result A ℤ) (form : Form) (vs : List Value) (done : List A) (i : ℕ) (v : Value) (n : ℤ) → i < length vs → v ≡ get_or vs i v
    → pair (record_of form (out-Value v)) ≡ Err n
    → behind done (all_pairs pair form (drop i vs)) ≡ Err n
pair_refused pair form vs done i v n within is e = rw (drop-cons vs i v, ← is, e) refl

-- all are read
pub pairs_made : {A : Type 0} (pair : Row → Result A ℤ) (form : Form) (vs : List Value) (done : List A) (i : ℕ) → length vs ≤ i
    → behind done (all_pairs pair form (drop i vs)) ≡ Ok done
pairs_made pair form vs done i h = rw (drop_all i vs h, append-nil done) refl

-- a map that is there, of its type and of another
pub longs_typed : (ids : MapIds) (r : Row) (n : Node) (vs : List Value) → list_at ids.id r ≡ Ok (Some (tree_of n, vs)) → has_longs ids (form_of n.kind) ≡ true
    → longs_at ids r ≡ all_pairs (long_pair ids) (form_of n.kind) vs
unfolding longs_at
longs_typed ids r n vs e t = rw (e, tree_of_node n, t) refl

pub longs_other : (ids : MapIds) (r : Row) (n : Node) (vs : List Value) → list_at ids.id r ≡ Ok (Some (tree_of n, vs)) → has_longs ids (form_of n.kind) ≡ false
    → longs_at ids r ≡ Err ids.id
unfolding longs_at
longs_other ids r n vs e t = rw (e, tree_of_node n, t) refl

-- a map that is there, of its type and of another
pub bytes_typed : (ids : MapIds) (r : Row) (n : Node) (vs : List Value) → list_at ids.id r ≡ Ok (Some (tree_of n, vs)) → has_bytes ids (form_of n.kind) ≡ true
    → bytes_at ids r ≡ all_pairs (bytes_pair ids) (form_of n.kind) vs
unfolding bytes_at
bytes_typed ids r n vs e t = rw (e, tree_of_node n, t) refl

pub bytes_other : (ids : MapIds) (r : Row) (n : Node) (vs : List Value) → list_at ids.id r ≡ Ok (Some (tree_of n, vs)) → has_bytes ids (form_of n.kind) ≡ false
    → bytes_at ids r ≡ Err ids.id
unfolding bytes_at
bytes_other ids r n vs e t = rw (e, tree_of_node n, t) refl
