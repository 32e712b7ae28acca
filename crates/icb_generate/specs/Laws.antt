-- The laws of generated tables. Each is the contract of a function of `src/laws.rt`.
use Rattle.std.specs.Prelude.{◌≡◌, ◌<◌, ◌^◌, ℕ, Ok}
use Rattle.std.specs.List.{flat_map, range_with_len}
use Rattle.icb_generate.specs.Batches.{batch_count, batch_rows, rows_of}
use Rattle.icb_generate.specs.Rows as row
use Rattle.icb_types.specs.Lines.{row_line, row_of}

-- the batches, one behind the other, are all rows
abbrev pub BatchesAreAllRows : Type 0
BatchesAreAllRows = (seed rows : ℕ)
    → flat_map (batch_rows seed rows) (range_with_len 0 (batch_count rows)) ≡ rows_of seed rows

-- the line of a row shows the row, under the columns of the table
abbrev pub RowsReadBack : Type 0
RowsReadBack = (seed i : ℕ) → i < 2 ^ 63
    → row_of row.columns (row_line (row.row_of seed i)) ≡ Ok (row.row_of seed i)
