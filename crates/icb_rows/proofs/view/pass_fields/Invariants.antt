use Rattle.std.proofs.Common.{◌≡◌, drop, map}
use Rattle.icb_avro.specs.Cursor.{unread}
use Rattle.icb_avro.specs.Reading.{behind}
use Rattle.icb_rows.specs.Views.{passed, record_at}
use Rattle.icb_rows.proofs.view.pass_fields.Given as goal

abbrev pub invariant-loop-field : goal.invariant-loop-field
invariant-loop-field l =
    (l.cursor.whole ≡ l.initial.cursor.whole)
    × (behind (record_at (map passed (drop l.field-index l.fields)) (unread l.cursor)) ≡ behind (record_at (map passed l.fields) (unread l.initial.cursor)))
