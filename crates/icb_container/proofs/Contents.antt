-- What crates above need of a container's content: the parts that it is made of, and that records which
-- are written one after another are spelled so.
use Rattle.std.proofs.Common.{◌≡◌, ℕ, suc, List, [], ◌∷◌, length, Ok, refl, ap}
use Rattle.std.specs.List.{AllByRecursion, flat_map}
use Rattle.icb_schema.specs.Shape.{Shape}
use Rattle.icb_avro.specs.declared.value.Value.{Value}
use Rattle.icb_avro.specs.Spelling.{SpellAll, Spells}
use Rattle.icb_avro.specs.Writing.{Fits, written}
use Rattle.icb_avro.proofs.WrittenIsSpelled.{value_spells}
use Rattle.icb_container.specs.Header.{Header, header_of}
use Rattle.icb_container.specs.Blocks.{Part, begins}
use Rattle.icb_container.specs.Content.{Content, blocks_of, by_key, content_from, content_of}
use Rattle.icb_container.proofs.Steps.{bind_ok, done_is}

-- the header and the blocks of a file that has this content
pub record HasParts (file : List ℕ) (content : Content) : Type 0 where
  pub header : Header
  pub parts : List Part
  pub opened : header_of file ≡ Ok header
  pub read : blocks_of (suc (length file)) (begins file header) file ≡ Ok parts
  pub schema : header.schema ≡ content.schema
  pub properties : by_key header.properties ≡ content.properties
  pub records : flat_map (λ part. part.records) parts ≡ content.records

-- a content has its parts
pub content_parts : (file : List ℕ) (content : Content) → content_of file ≡ Ok content → HasParts file content
unfolding content_of
content_parts file content e =
    let a = bind_ok (header_of file) (content_from file) content e in
    let b = bind_ok (blocks_of (suc (length file)) (begins file a.0) file) (λ parts. Ok (record { schema = a.0.schema; properties = by_key a.0.properties; records = flat_map (λ part. part.records) parts })) content a.2 in
    let same = done_is (record { schema = a.0.schema; properties = by_key a.0.properties; records = flat_map (λ part. part.records) b.0 }) content b.2 in
    record {
      header = a.0;
      parts = b.0;
      opened = a.1;
      read = b.1;
      schema = ap (λ (c : Content). c.schema) same;
      properties = ap (λ (c : Content). c.properties) same;
      records = ap (λ (c : Content). c.records) same;
    }

-- values of the shape that are written one after another
pub written_spell : (s : Shape) (vs : List Value) → AllByRecursion (Fits s) vs → SpellAll (Spells s) vs (flat_map written vs)
written_spell s [] h = refl
written_spell s (v ∷ vs) h = (written v, flat_map written vs, refl, value_spells s v h.0, written_spell s vs h.1)
