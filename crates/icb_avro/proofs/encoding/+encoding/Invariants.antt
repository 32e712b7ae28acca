use Rattle.std.proofs.Common.{◌≡◌, ◌++◌, ◌+◌, ◌*◌, take}
use Rattle.icb_avro.specs.Writing.{all_written, entries_written}
use Rattle.icb_avro.proofs.WriteLemmas.{weight, weights, entry_weights}
use Rattle.icb_avro.proofs.encoding.+encoding.Given as goal

abbrev pub decreases-put_value : goal.decreases-put_value
decreases-put_value l = 3 * weight l.value.now

abbrev pub decreases-put_values : goal.decreases-put_values
decreases-put_values l = 3 * weights l.values.now + 1

abbrev pub decreases-put_items : goal.decreases-put_items
decreases-put_items l = 3 * weights l.items.now + 2

abbrev pub decreases-put_entries : goal.decreases-put_entries
decreases-put_entries l = 3 * entry_weights l.entries.now + 1

abbrev pub decreases-put_map : goal.decreases-put_map
decreases-put_map l = 3 * entry_weights l.entries.now + 2

abbrev pub invariant-put_values-loop-value : goal.invariant-put_values-loop-value
invariant-put_values-loop-value l = l.out ≡ l.initial.out ++ all_written (take l.value-index l.values)

abbrev pub invariant-put_entries-loop-entry : goal.invariant-put_entries-loop-entry
invariant-put_entries-loop-entry l = l.out ≡ l.initial.out ++ entries_written (take l.entry-index l.entries)
