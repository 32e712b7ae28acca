-- A header that was written is read again.
use Rattle.std.proofs.Common.{◌≡◌, ℕ, suc, ◌+◌, ◌≤◌, Bool, true, cond, List, ◌∷◌, ◌++◌, length, map, codes, Some, Result, Ok, Err, refl, ap, ◌∙◌, arith, append_assoc, length-append}
use Rattle.std.specs.FinMap as finite
use Rattle.icb_schema.specs.Tree.{Tree}
use Rattle.icb_schema.specs.Reading.{schema_of}
use Rattle.icb_avro.specs.Writing.{one_block}
use Rattle.std.specs.Str.{is_utf8}
use Rattle.icb_schema.specs.declared.fault.SchemaFault.TheVariants as schema_fault
use Rattle.icb_container.specs.Wrong as wrong
use Rattle.icb_container.specs.Wrong.{Wrong, ◌>>=◌}
use Rattle.icb_container.proofs.Steps.{done}
use Rattle.icb_container.specs.Header.{Header, Property, header_from, header_of, is_row, map_at, marker_at, max_header, property_of, row_schema}
use Rattle.icb_container.specs.Content.{Properties, by_key}
use Rattle.icb_container.specs.Written.{properties_of, written_header, written_property}
use Rattle.icb_container.proofs.NumbersAgain.{HaveTexts, Pair, all_before, ascii_is_text, map_again, marker_again}
use Rattle.icb_container.proofs.PropertiesAgain.{by_key_again, codec_is, has_value, keys_are_texts, schema_is, value_found}

-- the header that is read, where so many bytes stand from the map on
abbrev pub header_given : Tree → Properties → List ℕ → List ℕ → Header
header_given t m marker rest = record {
  schema = t;
  properties = all_before (length (written_header m marker ++ rest)) (finite.entries m) (0 ∷ (marker ++ rest));
  marker = marker;
  rest = rest;
}

null_is_text : is_utf8 (codes "null") ≡ true
null_is_text = ascii_is_text (codes "null") refl

row_is : (t : Tree) → is_row t ≡ true → row_schema (Ok t) ≡ Ok t
row_is t h = ap (λ (b : Bool). cond b (done t) (Err (wrong.schema (schema_fault.Shape 0)))) h

-- what is told of the properties gives the header
told : (t : Tree) (text : List ℕ) (ps : List Property) (marker rest : List ℕ) → schema_of text ≡ Ok t → is_row t ≡ true
    → (p : Property) × (property_of (codes "avro.schema") ps ≡ Some p) × (p.value ≡ text)
    → (q : Property) × (property_of (codes "avro.codec") ps ≡ Some q) × (q.value ≡ codes "null")
    → header_from ps (marker, rest) ≡ Ok (record { schema = t; properties = ps; marker = marker; rest = rest })
told t text ps marker rest read row p q =
    rw (p.1, q.1, p.2, q.2, null_is_text, read) (ap (λ (r : Result Tree Wrong). r >>= (λ (u : Tree). Ok (record { schema = u; properties = ps; marker = marker; rest = rest }))) (row_is t row))

-- the parts behind the magic
abbrev body : Properties → List ℕ
body m = one_block (map written_property (finite.entries m))

-- the steps behind the magic, of a file of `end` bytes
behind_magic : (end most : ℕ) (t : Tree) (text : List ℕ) (extra : List Pair) (marker rest : List ℕ) → schema_of text ≡ Ok t → is_row t ≡ true → HaveTexts extra → length marker ≡ 16
    → end ≡ 4 + length ((body (properties_of text extra) ++ marker) ++ rest) → 4 + length (body (properties_of text extra) ++ marker) ≤ max_header
    → (map_at end (suc (suc most)) ((body (properties_of text extra) ++ marker) ++ rest) >>= (λ ps. marker_at end ps.1 >>= header_from ps.0))
    ≡ Ok (record { schema = t; properties = all_before end (finite.entries (properties_of text extra)) (0 ∷ (marker ++ rest)); marker = marker; rest = rest })
behind_magic end most t text extra marker rest read row texts size is fits =
    let m : Properties = properties_of text extra in
    let parts : (body m ++ marker) ++ rest ≡ body m ++ (marker ++ rest) = append_assoc (body m) marker rest in
    let a : length ((body m ++ marker) ++ rest) ≡ length (body m ++ (marker ++ rest)) = ap length parts in
    let b : length (body m ++ (marker ++ rest)) ≡ length (body m) + length (marker ++ rest) = length-append (body m) (marker ++ rest) in
    let c : length (marker ++ rest) ≡ length marker + length rest = length-append marker rest in
    let d : length (body m ++ marker) ≡ length (body m) + length marker = length-append (body m) marker in
    let ps : List Property = all_before end (finite.entries m) (0 ∷ (marker ++ rest)) in
    let same : by_key ps ≡ m = by_key_again end m (0 ∷ (marker ++ rest)) in
    let schema = has_value (property_of (codes "avro.schema") ps) text (value_found (codes "avro.schema") ps ∙ ap (λ (n : Properties). finite.get n (codes "avro.schema")) same ∙ schema_is text extra) in
    let codec = has_value (property_of (codes "avro.codec") ps) (codes "null") (value_found (codes "avro.codec") ps ∙ ap (λ (n : Properties). finite.get n (codes "avro.codec")) same ∙ codec_is text extra) in
    rw (
      parts,
      map_again end most (finite.entries m) (marker ++ rest) (keys_are_texts text extra texts) (omega arith) (omega arith),
      marker_again end marker rest size (omega arith) (omega arith),
    ) (told t text ps marker rest read row schema codec)

-- the header is read, whatever follows it
pub header_again : (t : Tree) (text : List ℕ) (extra : List Pair) (marker rest : List ℕ) → schema_of text ≡ Ok t → is_row t ≡ true → HaveTexts extra → length marker ≡ 16
    → length (written_header (properties_of text extra) marker) ≤ max_header
    → header_of (written_header (properties_of text extra) marker ++ rest) ≡ Ok (header_given t (properties_of text extra) marker rest)
unfolding header_of
header_again t text extra marker rest read row texts size fits =
    let m : Properties = properties_of text extra in
    behind_magic (length (written_header m marker ++ rest)) (suc (suc (suc (length ((body m ++ marker) ++ rest))))) t text extra marker rest read row texts size (omega arith) (omega arith)
