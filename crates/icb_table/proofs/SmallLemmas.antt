-- What the definitions compute of the small table.
use Rattle.std.proofs.Common.{refl}
use Rattle.icb_avro.specs.Reading.{bytes_at, index_at, int_at, long_at, number_at, part_at, varint_at}
use Rattle.icb_keymeta.specs.Decoded.{key_at, key_metadata_of, length_at, optional_at, record_at, versioned_at}
use Rattle.icb_meta.specs.Ids.{resolved}
use Rattle.icb_table.specs.Inherited.{first_rows}
use Rattle.icb_table.specs.Laws.{SmallInherited, SmallLists, SmallPlaces, SmallRefusals, SmallRowIds, SmallRows, SmallRowsJudged, SmallTreeStops, SmallTrees}
use Rattle.icb_table.specs.Listed.{listed_by}
use Rattle.icb_chain.specs.Opening.{list_key_of}
use Rattle.icb_table.specs.Records.{values_to}
use Rattle.icb_table.specs.Snapshots.{list_of}
use Rattle.icb_table.specs.Trace.{each_in, numbered_from}
use Rattle.icb_table.specs.Tree.{tree_below}

pub small_trees : SmallTrees
unfolding tree_below each_in numbered_from listed_by key_metadata_of versioned_at record_at key_at length_at optional_at bytes_at index_at int_at long_at number_at part_at varint_at resolved
small_trees = record { first = refl; second = refl }

pub small_tree_stops : SmallTreeStops
unfolding tree_below each_in numbered_from listed_by key_metadata_of versioned_at record_at key_at length_at optional_at bytes_at index_at int_at long_at number_at part_at varint_at resolved
small_tree_stops = refl

pub small_rows : SmallRows
unfolding tree_below each_in numbered_from listed_by key_metadata_of versioned_at record_at key_at length_at optional_at bytes_at index_at int_at long_at number_at part_at varint_at resolved
small_rows = refl

pub small_row_ids : SmallRowIds
unfolding first_rows
small_row_ids = refl

pub small_refusals : SmallRefusals
unfolding listed_by key_metadata_of versioned_at record_at key_at length_at optional_at bytes_at index_at int_at long_at number_at part_at varint_at resolved
small_refusals = (refl, (refl, (refl, (refl, (refl, (refl, (refl, (refl, tt))))))))

pub small_rows_judged : SmallRowsJudged
unfolding listed_by key_metadata_of versioned_at record_at key_at length_at optional_at bytes_at index_at int_at long_at number_at part_at varint_at resolved
small_rows_judged = ((refl, refl), ((refl, refl), ((refl, refl), ((refl, refl), ((refl, refl), ((refl, refl), tt))))))

pub small_inherited : SmallInherited
small_inherited = record {
  snapshot = refl;
  sequence = refl;
  file_sequence = refl;
  own_snapshot = refl;
  own_sequence = refl;
  own_file_sequence = refl;
}

pub small_lists : SmallLists
unfolding list_of list_key_of
small_lists = record { judged = (refl, (refl, (refl, tt))); current = refl }

pub small_places : SmallPlaces
unfolding values_to long_at number_at varint_at
small_places = refl
