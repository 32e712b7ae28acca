-- The JSON values that edits make (Apache Iceberg Table Spec, "Appendix C: JSON Serialization").
use Rattle.std.specs.Prelude.{ℕ, List, [], ◌∷◌, codes, fold}
use Rattle.std.specs.Prelude.{Option, Some, None, option_map}
use Rattle.std.specs.Ordering.{nat_cmp, match_ordering}
use Rattle.std.specs.Cmp.Lexicographic.{slice_cmp}
use Rattle.base64.specs.GeneralPurpose.{encode_of}
use Rattle.base64.specs.Engines.{standard}
use Rattle.serde_json.specs.Data as json
use Rattle.serde_json.specs.Data.{Data, Members}
use Rattle.serde_json.specs.View.{items_of}
use Rattle.icb_meta.specs.declared.records.KeyEntry.{KeyEntry}
use Rattle.icb_edits.specs.Sets.{Sets, object_of}

-- an array of these values
abbrev pub array_of : List Data → Data
array_of values = json.array (items_of values)

-- ---- texts by their names

-- members with a text at its name
abbrev pub put_text : Members → List ℕ × List ℕ → Members
put_text ms p = json.put p.0 (json.string p.1) ms

-- an object of texts
unfoldable pub texts_json : List (List ℕ × List ℕ) → Data
texts_json texts = json.object (fold put_text json.no_members texts)

-- texts in the order of their names, with a text at its name
abbrev pub with_text : List (List ℕ × List ℕ) → List ℕ × List ℕ → List (List ℕ × List ℕ)
with_text [] p = p ∷ []
with_text (q ∷ qs) p = match_ordering (slice_cmp nat_cmp p.0 q.0)
    (p ∷ q ∷ qs) ((q.0, p.1) ∷ qs) (q ∷ with_text qs p)

-- texts in the order of their names, each name once
unfoldable pub in_order : List (List ℕ × List ℕ) → List (List ℕ × List ℕ)
in_order texts = fold with_text [] texts

-- ---- keys

-- the texts of a key, where it has any
abbrev pub texts_or_none : List (List ℕ × List ℕ) → Option Data
texts_or_none [] = None
texts_or_none (p ∷ ps) = Some (texts_json (p ∷ ps))

-- the members of a sealed key
abbrev pub entry_members : KeyEntry → Sets
entry_members e =
    (codes "properties", texts_or_none e.properties)
    ∷ (codes "key-id", Some (json.string e.id))
    ∷ (codes "encrypted-key-metadata", Some (json.string (encode_of standard e.sealed)))
    ∷ (codes "encrypted-by-id", option_map json.string e.by)
    ∷ []

-- a sealed key
unfoldable pub entry_json : KeyEntry → Data
entry_json e = object_of (entry_members e)

-- the key that it shows, whose texts are in the order of their names
abbrev pub ordered : KeyEntry → KeyEntry
ordered e = record {
  id = e.id;
  sealed = e.sealed;
  by = e.by;
  properties = in_order e.properties;
}
