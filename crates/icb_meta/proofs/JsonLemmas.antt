-- JSON values as the code holds them, beside the definitions.
use Rattle.std.proofs.Common.{◌≡◌, ℕ, List, [], ◌∷◌, ◌++◌, Bool, true, false, Option, Some, None, option_map, Ok, Err, String, Global, string_bytes, IsUtf8, refl, sym, ap, ◌∙◌, append_assoc}
use Rattle.std.specs.Str.{is_utf8}
use Rattle.std.proofs.lemmas.Str.{is_utf8-from_IsUtf8, IsUtf8-from_is_utf8}
use Rattle.serde_json.specs.Data.{Data, Members}
use Rattle.serde_json.specs.Find.{as_str}
use Rattle.serde_json.specs.View.{members_view, view}
use Rattle.serde_json.specs.declared.value.Value.{Value}
use Rattle.serde_json.proofs.Views.{Entry}
use Rattle.serde_json.specs.Read as serde
use Rattle.icb_schema.specs.Reading.{json_in}
use Rattle.icb_meta.specs.Forms.{texts_of}
use Rattle.icb_meta.specs.Shown.{or_field}

-- a text in UTF-8 that reads as a value
pub json_found : (text : List ℕ) (d : Data) → IsUtf8 text → serde.read text ≡ Some d → or_field [] (json_in text) ≡ Ok d
unfolding json_in
json_found text d u e = rw (is_utf8-from_IsUtf8 text u, e) refl

-- a text that reads as none
pub no_json : (text : List ℕ) → (IsUtf8 text → serde.read text ≡ None) → or_field [] (json_in text) ≡ Err []
unfolding json_in
no_json text none = by_test (is_utf8 text) refl
  where
    by_test : (b : Bool) → is_utf8 text ≡ b → or_field [] (json_in text) ≡ Err []
    by_test true e = rw (e, none (IsUtf8-from_is_utf8 text e)) refl
    by_test false e = rw e refl

-- ---- texts by their names

joined : (done : List (List ℕ × List ℕ)) (x : List ℕ × List ℕ) (o : Option (List (List ℕ × List ℕ)))
    → option_map (λ more. done ++ more) (option_map (λ rest. x ∷ rest) o) ≡ option_map (λ more. (done ++ x ∷ []) ++ more) o
joined done x None = refl
joined done x (Some rest) = ap (λ r. Some r) (sym (append_assoc done (x ∷ []) rest))

-- one more text was read
pub texts_step : (all : Members) (done after : List (List ℕ × List ℕ)) (here rest : List Entry) (k : String Global) (v : Value) (name text : List ℕ)
    → texts_of all ≡ option_map (λ more. done ++ more) (texts_of (members_view here)) → here ≡ (k, v) ∷ rest → name ≡ string_bytes k → Some text ≡ as_str (view v)
    → after ≡ done ++ (name, text) ∷ [] → texts_of all ≡ option_map (λ more. after ++ more) (texts_of (members_view rest))
texts_step all done after here rest k v name text before is named found pushed =
    before ∙ rw (is, sym found, sym named, pushed) (joined done (name, text) (texts_of (members_view rest)))
