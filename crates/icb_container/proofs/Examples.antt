-- The steps over a small file, computed: two records, the numbers 1 and -1, and the marker.
use Rattle.std.proofs.Common.{◌≡◌, ℕ, List, [], ◌∷◌, drop, Some, None, Ok, Err, refl}
use Rattle.icb_schema.specs.Tree as tree
use Rattle.icb_avro.specs.declared.fault.AvroCause.TheVariants as cause
use Rattle.icb_avro.specs.Reading.{long_at, number_at, varint_at}
use Rattle.icb_container.specs.Wrong as wrong
use Rattle.icb_container.specs.Blocks.{State, count_of, head_at, natural_at, skipped_of}

marker : List ℕ
marker = 17 ∷ 17 ∷ 17 ∷ 17 ∷ 17 ∷ 17 ∷ 17 ∷ 17 ∷ 17 ∷ 17 ∷ 17 ∷ 17 ∷ 17 ∷ 17 ∷ 17 ∷ 17 ∷ []

at_place : ℕ → ℕ → ℕ → State
at_place place first block = record {
  schema = tree.node (tree.primitive tree.long) None None;
  marker = 17 ∷ 17 ∷ 17 ∷ 17 ∷ 17 ∷ 17 ∷ 17 ∷ 17 ∷ 17 ∷ 17 ∷ 17 ∷ 17 ∷ 17 ∷ 17 ∷ 17 ∷ 17 ∷ [];
  place = place;
  first = first;
  block = block;
}

-- passing over the block
passed : skipped_of (at_place 0 0 0) (4 ∷ 4 ∷ 2 ∷ 1 ∷ marker) ≡ Ok (Some 2, at_place 20 2 1)
unfolding skipped_of head_at natural_at long_at number_at varint_at at_place marker
passed = refl

-- no room for the marker
cut : count_of (at_place 0 0 0) (4 ∷ 4 ∷ 2 ∷ 1 ∷ drop 1 marker) ≡ Err (wrong.avro 1 cause.End)
unfolding count_of head_at natural_at long_at number_at varint_at at_place marker
cut = refl

-- more records than bytes
many : count_of (at_place 0 0 0) (6 ∷ 4 ∷ 2 ∷ 1 ∷ marker) ≡ Err (wrong.avro 0 cause.Count)
unfolding count_of head_at natural_at long_at number_at varint_at at_place marker
many = refl
