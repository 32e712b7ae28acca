use Rattle.std.proofs.Common.{◌≡◌, ◌≤◌, [], map, drop}
use Rattle.icb_avro.specs.Writing.{written}
use Rattle.icb_records.specs.Gathering.{gather, with_rest}
use Rattle.icb_records.proofs.gathering.gather.Given as goal

abbrev pub invariant-loop-record : goal.invariant-loop-record
invariant-loop-record l = record {
  same : gather 65536 0 [] (map written l.records) ≡ with_rest l.gathered (map written (drop l.record-index l.records));
  few : l.gathered.count ≤ l.record-index;
}
