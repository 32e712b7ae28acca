-- JSON values as the code holds them, beside the definitions' lists.
use Rattle.std.proofs.Common.{Ok, Err, Some, None, true, false, true≢false, IsUtf8, ◌==◌, ◌++◌, ◌≡◌, ℕ, ◌+◌, List, [], ◌∷◌, map, Bool, refl, ap, length}
use Rattle.std.specs.List.{list_any}
use Rattle.serde_json.specs.View.{view, items_view}
use Rattle.serde_json.specs.declared.value.Value.{Value}
use Rattle.std.specs.Str.{is_utf8}
use Rattle.std.proofs.lemmas.Str.{is_utf8-from_IsUtf8, IsUtf8-from_is_utf8}
use Rattle.serde_json.specs.Read as serde
use Rattle.serde_json.specs.Data.{Data}
use Rattle.icb_schema.specs.Tree as tree
use Rattle.icb_schema.specs.Nodes.{trees_of}
use Rattle.icb_schema.specs.Reading as reading
use Rattle.icb_schema.specs.Reading.{◌>>=◌, Reading, list_of, json_in, or_json, Reader, each, begun, union_node, is_union, bare}
use Rattle.icb_schema.specs.declared.fault.SchemaFault.TheVariants as fault

-- what was read, behind what was read before it
abbrev pub prepended : {B : Type 0} → List B → Reading (List B) → Reading (List B)
prepended done r = r >>= (λ ys. Ok (done ++ ys.0, ys.1))

pub list_of_items : (vs : List Value) → list_of (items_view vs) ≡ map view vs
list_of_items [] = refl
list_of_items (v ∷ vs) = ap (λ ds. view v ∷ ds) (list_of_items vs)

pub json_of_utf8 : (bytes : List ℕ) (d : Data) → IsUtf8 bytes → serde.read bytes ≡ Some d → or_json (json_in bytes) ≡ Ok d
unfolding json_in
json_of_utf8 bytes d u e = rw (is_utf8-from_IsUtf8 bytes u, e) refl

no_json : (bytes : List ℕ) (b : Bool) → is_utf8 bytes ≡ b → (IsUtf8 bytes → serde.read bytes ≡ None) → or_json (json_in bytes) ≡ Err fault.Json
unfolding json_in
no_json bytes true e h = rw (e, h (IsUtf8-from_is_utf8 bytes e)) refl
no_json bytes false e h = rw e refl

pub json_of_none : (bytes : List ℕ) → (IsUtf8 bytes → serde.read bytes ≡ None) → or_json (json_in bytes) ≡ Err fault.Json
json_of_none bytes h = no_json bytes (is_utf8 bytes) refl h

-- the branches of a union were read
pub union_reads : (child : Reader) (levels depth : ℕ) (scope : reading.Scope) (vs : List Value) (seen after : reading.Seen) (ts : List tree.Tree)
    → (length vs == 0) ≡ false → list_any (is_union levels) (map view vs) ≡ false → each (child (depth + 1) scope) (map view vs) (begun seen) ≡ Ok (ts, after)
    → union_node child levels depth scope (map view vs) seen ≡ Ok (bare (tree.union (trees_of ts)), after)
union_reads child levels depth scope [] seen after ts h u e = absurd (true≢false h)
union_reads child levels depth scope (v ∷ vs) seen after ts h u e = rw (u, e) refl
