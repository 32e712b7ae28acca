use Rattle.std.proofs.Common.{◌≡◌, ◌-◌, ◌≤◌, length}
use Rattle.icb_avro.specs.Cursor.{unread}
use Rattle.icb_avro.specs.Reading.{value_at}
use Rattle.icb_schema.specs.Shape.{shape_of}
use Rattle.icb_container.proofs.PassedRecords.{AreRead}
use Rattle.icb_container.proofs.records.check_records.Given as goal

abbrev pub invariant-loop-passed : goal.invariant-loop-passed
invariant-loop-passed g l = record {
  whole : l.cursor.whole ≡ l.bytes;
  within : l.cursor.place ≤ length l.bytes;
  read : AreRead (value_at (shape_of l.node)) l.head.count (l.head.count - l.passed) l.bytes (unread l.cursor);
}
