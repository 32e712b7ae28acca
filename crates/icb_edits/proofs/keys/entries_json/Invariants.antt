use Rattle.std.proofs.Common.{◌≡◌, map, take, Some}
use Rattle.serde_json.specs.View.{view}
use Rattle.icb_schema.specs.Reading.{all_read}
use Rattle.icb_meta.specs.Forms.{entry_in}
use Rattle.icb_edits.specs.Values.{entry_json, ordered}
use Rattle.icb_edits.proofs.keys.entries_json.Given as goal

abbrev pub invariant-loop-entry : goal.invariant-loop-entry
invariant-loop-entry l = record {
  json : map view l.values.items ≡ map entry_json (take l.entry-index l.entries);
  reads : all_read entry_in (map entry_json (take l.entry-index l.entries)) ≡ Some (map ordered (take l.entry-index l.entries));
}
