-- What a field is before its schema is read, in the code.
use Rattle.serde_json.specs.View.{view}
use Rattle.icb_schema.specs.Reading as spec
use Rattle.icb_schema.specs.declared.heads.Head.{Head}

-- the head that the code holds
abbrev pub head_view : Head → spec.Head
head_view h = record { name = h.name.now; id = h.id; type_data = view h.schema.now }
