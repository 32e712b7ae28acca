-- The rows of a generated table, cut into batches (ours: docs/FORMATS.md, "Generated tables").
use Rattle.std.specs.Prelude.{ℕ, ◌+◌, ◌*◌, ◌/◌, List, take, drop, map}
use Rattle.std.specs.List.{flat_map, range_with_len}
use Rattle.icb_generate.specs.Rows.{row_of}
use Rattle.icb_types.specs.Lines.{row_line}
use Rattle.icb_types.specs.declared.datum.Datum.{Datum}

-- the rows of a table that has so many
abbrev pub rows_of : ℕ → ℕ → List (List Datum)
rows_of seed rows = map (row_of seed) (range_with_len 0 rows)

-- the rows of a batch, counted from 0: 10,000, the last one fewer
abbrev pub batch_rows : ℕ → ℕ → ℕ → List (List Datum)
batch_rows seed rows number = take 10000 (drop (10000 * number) (rows_of seed rows))

-- their lines, one behind the other
abbrev pub batch_lines : ℕ → ℕ → ℕ → List ℕ
batch_lines seed rows number = flat_map row_line (batch_rows seed rows number)

-- how many batches there are
abbrev pub batch_count : ℕ → ℕ
batch_count rows = (rows + 9999) / 10000
