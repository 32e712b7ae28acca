-- What metadata that shows a record is, and the text that reads as it.
use Rattle.std.proofs.Common.{◌≡◌, ◌↔◌, ℕ, List, Bool, true, false, not, if◌then◌else◌, Some, None, is_some, option_and_then, Result, Ok, Err, IsUtf8, refl, sym, ap, ◌∙◌}
use Rattle.serde_json.specs.Data.{Data}
use Rattle.serde_json.specs.Find.{as_object}
use Rattle.serde_json.specs.Read as serde
use Rattle.serde_json.specs.Written.{has_float}
use Rattle.icb_base.specs.Paths.{is_object_path}
use Rattle.icb_base.specs.declared.object_path.PathFault.{PathFault}
use Rattle.icb_base.specs.declared.object_path.PathFault.TheVariants as path
use Rattle.icb_schema.specs.Reading.{only_if}
use Rattle.icb_meta.specs.Ids.{behind, resolved}
use Rattle.icb_schema.proofs.NameLemmas.{both_right, not_true}
use Rattle.icb_meta.specs.Forms.{is_plain_object}
use Rattle.icb_meta.specs.Shown.{fields_of, meta_of}
use Rattle.icb_meta.specs.declared.fields.Fields.{Fields}
use Rattle.icb_meta.proofs.JsonLemmas.{json_found}

plain_at : (d : Data) (f : Fields) (b : Bool) → is_plain_object d ≡ b → fields_of d ≡ Ok f → b ≡ true
unfolding fields_of
plain_at d f true is e = refl
plain_at d f false is e = let h = rw is at e in cc

-- a value that shows a record is a plain object
pub plain_from : (d : Data) (f : Fields) → fields_of d ≡ Ok f → is_plain_object d ≡ true
plain_from d f e = plain_at d f (is_plain_object d) refl e

-- it has no number that isn't whole
pub no_float : (d : Data) (f : Fields) → fields_of d ≡ Ok f → has_float d ≡ false
no_float d f e = not_true (has_float d) (both_right (is_some (as_object d)) (not (has_float d)) (plain_from d f e))

-- a text of such a value reads as it
pub meta_back : (text : List ℕ) (d : Data) (f : Fields) → IsUtf8 text → serde.read text ≡ Some d → fields_of d ≡ Ok f → meta_of text ≡ Ok (d, f)
unfolding meta_of
meta_back text d f u r e = rw (json_found text d u r, e) refl

-- a text that is read as a path is one
pub path_read : {A : Type 0} (r : Result A PathFault) (text : List ℕ) (p : A) → r ≡ Ok p → ((r ≡ Err path.BadPath) ↔ (is_object_path text ≡ false)) → is_object_path text ≡ true
path_read r text p is exact = by_test (is_object_path text) refl
  where
    by_test : (b : Bool) → is_object_path text ≡ b → is_object_path text ≡ true
    by_test true e = e
    by_test false e = let h = exact.1 e in cc

-- a part that is an object path is what stands behind the location
pub resolved_is : (location full part p : List ℕ) → Some part ≡ behind location full → is_object_path part ≡ true → p ≡ part → Some p ≡ resolved location full
unfolding resolved
resolved_is location full part p found is named =
    ap (λ x. Some x) named ∙ (ap (λ b. if b then Some part else None) (sym is) ∙ ap (λ o. option_and_then (only_if is_object_path) o) found)
