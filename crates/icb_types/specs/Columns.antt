-- Which columns make a schema of a table (Apache Iceberg Table Spec, "Schemas and Data Types";
-- the limits are ours).
use Rattle.std.specs.Prelude.{◌≡◌, ◌≤◌, ◌^◌, ℕ, ℤ, pos, negsuc, List, [], ◌∷◌, length, map}
use Rattle.std.specs.Prelude.{Bool, true, false, not, ◌&&◌, nat_lt, nat_le}
use Rattle.std.specs.List.{list_all, list_any}
use Rattle.std.specs.Ordering.{int_eq}
use Rattle.icb_schema.specs.Names.{are_distinct}
use Rattle.icb_types.specs.declared.columns.ColType.{ColType}
use Rattle.icb_types.specs.declared.columns.ColType.TheVariants as kind
use Rattle.icb_types.specs.declared.columns.Column.{Column}

-- a size is 1 to 1,048,576
abbrev pub is_size : ℕ → Bool
is_size n = nat_le 1 n && nat_le n 1048576

-- the size of a fixed column is a size
abbrev pub is_kind : ColType → Bool
is_kind kind.Boolean = true
is_kind kind.Int = true
is_kind kind.Long = true
is_kind kind.Date = true
is_kind kind.Time = true
is_kind kind.Timestamp = true
is_kind kind.TimestampTz = true
is_kind kind.Text = true
is_kind kind.Uuid = true
is_kind (kind.Fixed size) = is_size size
is_kind kind.Binary = true

-- an id is above 0 and has 32 bits
abbrev pub is_id : ℤ → Bool
is_id (pos n) = nat_lt 0 n && nat_lt n (2 ^ 31)
is_id (negsuc n) = false

-- no id stands twice
abbrev pub are_distinct_ids : List ℤ → Bool
are_distinct_ids [] = true
are_distinct_ids (id ∷ ids) = not (list_any (λ other. int_eq other id) ids) && are_distinct_ids ids

-- 1 to 1,000 columns with distinct ids above 0, distinct names and kinds within their limits
pub record AreColumns (columns : List Column) : Type 0 where
  pub some : 1 ≤ length columns
  pub few : length columns ≤ 1000
  pub ids : are_distinct_ids (map (λ c. c.id) columns) ≡ true
  pub above : list_all is_id (map (λ c. c.id) columns) ≡ true
  pub names : are_distinct (map (λ c. c.name) columns) ≡ true
  pub kinds : list_all is_kind (map (λ c. c.kind) columns) ≡ true
