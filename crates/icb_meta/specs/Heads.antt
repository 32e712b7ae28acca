-- What a column is before its name has memory of its own, in the code.
use Rattle.icb_types.specs.declared.columns.Column.{Column}
use Rattle.icb_meta.specs.declared.schemas.Head.{Head}

-- the column that the code holds
abbrev pub head_view : Head → Column
head_view h = record { id = h.id; name = h.name.now; kind = h.kind; required = h.required }
