-- Laws of the definitions. Each is the contract of a function of `src/laws.rt`.
use Rattle.std.specs.Prelude.{◌≡◌, ℕ, pos, ◌≤◌, length, Ok}
use Rattle.icb_schema.specs.Tree.{root_form}
use Rattle.icb_avro.specs.declared.value.Value.{out-Value}
use Rattle.icb_fields.specs.Fields.{record_of}
use Rattle.icb_list.specs.declared.row.ListRow.{ListRow}
use Rattle.icb_list.specs.Rows.{list_row}
use Rattle.icb_list.specs.Written.{row_tree, row_value}

-- a row as the code holds it: data or delete files, and three numbers each
pub record IsRow (r : ListRow) : Type 0 where
  pub kind : ℕ
  pub content : r.content ≡ pos kind
  pub known : kind ≤ 1
  pub files : length r.files ≡ 3
  pub rows : length r.rows ≡ 3

-- The value that is written of a row is read as that row.
abbrev pub RowsReadBack : Type 0
RowsReadBack = (r : ListRow) → IsRow r
    → list_row (record_of (root_form row_tree) (out-Value (row_value r))) ≡ Ok r
