use Rattle.std.proofs.Common.{◌≡◌, ◌++◌, ℕ, List, Ok, drop, map}
use Rattle.icb_avro.specs.Cursor.{unread}
use Rattle.icb_avro.specs.declared.value.Value.{Value}
use Rattle.icb_rows.specs.Views.{Passed, passed, record_at}
use Rattle.icb_rows.proofs.view.skip_fields.Given as goal

abbrev pub invariant-loop-field : goal.invariant-loop-field
invariant-loop-field l =
    (more : List Passed) (vs : List Value) (rest : List ℕ) → record_at (map passed l.fields ++ more) l.all ≡ Ok (vs, rest)
    → record_at (map passed (drop l.field-index l.fields) ++ more) (unread l.walk) ≡ Ok (drop l.field-index vs, rest)
