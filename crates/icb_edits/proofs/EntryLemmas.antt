-- A sealed key's JSON reads as the key.
use Rattle.std.proofs.Common.{◌≡◌, ℕ, List, [], ◌∷◌, codes, Option, Some, None, option_map, refl, ◌∙◌}
use Rattle.std.specs.Option.{option_or}
use Rattle.serde_json.specs.Data as json
use Rattle.serde_json.specs.Data.{Data}
use Rattle.serde_json.specs.Find.{as_str, get}
use Rattle.base64.specs.GeneralPurpose.{encode_of}
use Rattle.base64.specs.Engines.{standard}
use Rattle.icb_schema.specs.Reading.{optional}
use Rattle.icb_meta.specs.Forms.{base64_in, entry_in, entry_of, if_absent, properties_in}
use Rattle.icb_meta.specs.declared.records.KeyEntry.{KeyEntry}
use Rattle.icb_edits.specs.Sets.{Sets, object_of, value_after}
use Rattle.icb_edits.specs.Values.{entry_json, entry_members, in_order, ordered, texts_or_none}
use Rattle.icb_edits.proofs.SetLemmas.{get_after}
use Rattle.icb_edits.proofs.TextLemmas.{texts_read}

-- what a name has in an object that was made
pub got : (k : List ℕ) (sets : Sets) → get k (object_of sets) ≡ value_after k sets None
got k sets = get_after k sets json.no_members

pub or_none : {A : Type 0} (o : Option A) → option_or o None ≡ o
or_none None = refl
or_none (Some a) = refl

texts_back : (ps : List (List ℕ × List ℕ)) → if_absent [] properties_in (texts_or_none ps) ≡ Some (in_order ps)
unfolding in_order
texts_back [] = refl
texts_back (p ∷ ps) = texts_read (p ∷ ps)

-- a text that may be absent
pub text_back : (o : Option (List ℕ)) → optional as_str (option_map json.string o) ≡ Some o
text_back None = refl
text_back (Some s) = refl

entry_from : (d : Data) (e : KeyEntry) → get (codes "encrypted-key-metadata") d ≡ Some (json.string (encode_of standard e.sealed))
    → get (codes "properties") d ≡ texts_or_none e.properties → get (codes "key-id") d ≡ Some (json.string e.id) → get (codes "encrypted-by-id") d ≡ option_map json.string e.by
    → base64_in (json.string (encode_of standard e.sealed)) ≡ Some e.sealed → entry_in d ≡ Some (ordered e)
unfolding entry_in entry_of
entry_from d e sealed texts id by reads = rw (sealed, reads, texts, texts_back e.properties, id, by, text_back e.by) refl

pub entry_back : (e : KeyEntry) → base64_in (json.string (encode_of standard e.sealed)) ≡ Some e.sealed → entry_in (entry_json e) ≡ Some (ordered e)
unfolding entry_json
entry_back e reads =
    entry_from (entry_json e) e (got (codes "encrypted-key-metadata") (entry_members e)) (got (codes "properties") (entry_members e) ∙ or_none (texts_or_none e.properties))
    (got (codes "key-id") (entry_members e)) (got (codes "encrypted-by-id") (entry_members e) ∙ or_none (option_map json.string e.by)) reads
