-- The plaintext of an AGS1 stream: what is known of it, what a range of it touches, and what a
-- reader of a range gets.
use Rattle.std.specs.Prelude.{ℕ, ◌+◌, ◌*◌, Bool, ◌&&◌, ◌||◌, ◌==◌, nat_lt, List, [], ◌∷◌, ◌++◌}
use Rattle.std.specs.Prelude.{take, drop, map, replicate, find, Option, Some, None, is_none}
use Rattle.std.specs.List.{flat_map, range_with_len}
use Rattle.std.specs.Option.{option_map, option_and_then}
use Rattle.icb_stream.specs.Layout.{Layout, blocks, plain_length, part_length, part_at}

-- the parts one after another, where all of them are there
abbrev pub joined : List (Option (List ℕ)) → Option (List ℕ)
joined [] = Some []
joined (part ∷ parts) =
    option_and_then (λ bytes. option_map (λ rest. bytes ++ rest) (joined parts)) part

-- the plaintext of a stream: its parts one after another, where all of them are there
abbrev pub plaintext : List ℕ → Layout → Option (List ℕ)
plaintext bytes layout = joined (map (part_at bytes layout) (range_with_len 0 (blocks layout)))

-- the bytes of a part that is there, and as many gaps in the place of one that isn't
abbrev pub with_gaps : ℕ → Option (List ℕ) → List (Option ℕ)
with_gaps size None = replicate size None
with_gaps size (Some part) = map Some part

-- what is known of the plaintext: a byte at each place of a part that is there
unfoldable pub content : List ℕ → Layout → List (Option ℕ)
content bytes layout =
    flat_map (λ i. with_gaps (part_length layout i) (part_at bytes layout i))
    (range_with_len 0 (blocks layout))

-- whether n bytes of plaintext from a place on touch block i: one of them is a byte of it, or there
-- is one, they end at the end of the plaintext, and it is the last block (which may have no byte)
abbrev pub touches : Layout → ℕ → ℕ → ℕ → Bool
touches layout at n i =
    nat_lt 0 n
    && ((nat_lt (i * layout.block_length) (at + n) && nat_lt at ((i + 1) * layout.block_length))
    || ((at + n == plain_length layout) && (i + 1 == blocks layout)))

-- the first block that they touch and that has no part
unfoldable pub first_refused : List ℕ → Layout → ℕ → ℕ → Option ℕ
first_refused bytes layout at n =
    find (λ i. touches layout at n i && is_none (part_at bytes layout i))
    (range_with_len 0 (blocks layout))

-- the bytes up to the first gap
abbrev pub up_to_gap : List (Option ℕ) → List ℕ
up_to_gap [] = []
up_to_gap (None ∷ known) = []
up_to_gap (Some b ∷ known) = b ∷ up_to_gap known

-- what a reader of a range gets: its bytes up to the first touched block that has no part, and the
-- number of that block, if there is one
pub record Front : Type 0 where
  pub bytes : List ℕ
  pub refused : Option ℕ

-- the front of the n bytes of plaintext from a place on
unfoldable pub front_at : List ℕ → Layout → ℕ → ℕ → Front
front_at bytes layout at n = record {
  bytes = up_to_gap (take n (drop at (content bytes layout)));
  refused = first_refused bytes layout at n;
}

-- the front of the whole plaintext
abbrev pub front_of : List ℕ → Layout → Front
front_of bytes layout = front_at bytes layout 0 (plain_length layout)
