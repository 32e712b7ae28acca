-- The metadata of a new table shows its record.
use Rattle.std.proofs.Common.{◌≡◌, ◌<◌, ◌^◌, ℕ, pos, List, [], ◌∷◌, true, Some, None, Ok, codes, refl}
use Rattle.serde_json.specs.Data as json
use Rattle.icb_types.specs.Lines.{int_in, long_in, number_json, uuid_in, uuid_text}
use Rattle.icb_meta.specs.Forms.{current_in, entries_in, entry_in, is_location, location_in, natural_in, order_in, orders_in, properties_in, snapshots_in, version_in}
use Rattle.icb_meta.specs.Shown.{fields_of, layout_of}
use Rattle.icb_meta.specs.declared.records.KeyEntry.{KeyEntry}
use Rattle.icb_meta.specs.declared.records.NewTable.{NewTable}
use Rattle.icb_meta.proofs.DistinctLemmas.{int_decides}
use Rattle.icb_edits.specs.Tables.{IsNewTable, last_id, new_fields, new_json}
use Rattle.icb_edits.specs.Values.{array_of, entry_json, in_order, ordered, texts_json}
use Rattle.icb_edits.proofs.NumberLemmas.{natural_of}
use Rattle.icb_edits.proofs.ShownLemmas.{HeadingOf, StateOf, fields_from, heading_from, member_is, member_or_is, member_or_none, state_from}
use Rattle.icb_edits.proofs.TableLemmas.{entries_back, new_plain, schemas_back}
use Rattle.icb_edits.proofs.TextLemmas.{texts_read}

location_back : (text : List ℕ) → is_location text ≡ true → location_in (json.string text) ≡ Some text
location_back text h = rw h refl

no_snapshots : snapshots_in (array_of []) ≡ Some []
unfolding snapshots_in
no_snapshots = refl

module _ (t : NewTable) (uuid : ℕ) (e : KeyEntry) (now : ℕ) where
  heading_new : IsNewTable t → now < 2 ^ 63 → uuid_in (json.string (uuid_text uuid)) ≡ Some uuid → int_in (number_json (last_id t.schema.columns)) ≡ Some (last_id t.schema.columns)
      → HeadingOf (new_json t uuid e now) (new_fields t uuid e now).heading
  unfolding new_json
  heading_new is small id last = record {
    version = (pos 3, member_is version_in (codes "format-version") (new_json t uuid e now) (number_json (pos 3)) (pos 3) refl refl);
    uuid = member_is uuid_in (codes "table-uuid") (new_json t uuid e now) (json.string (uuid_text uuid)) uuid refl id;
    location = member_is location_in (codes "location") (new_json t uuid e now) (json.string t.location) t.location refl (location_back t.location is.location);
    last_sequence = member_is natural_in (codes "last-sequence-number") (new_json t uuid e now) (number_json (pos 0)) (pos 0) refl refl;
    updated = member_is long_in (codes "last-updated-ms") (new_json t uuid e now) (number_json (pos now)) (pos now) refl (natural_of now small);
    last_column = (last_id t.schema.columns, member_is int_in (codes "last-column-id") (new_json t uuid e now) (number_json (last_id t.schema.columns)) (last_id t.schema.columns) refl last);
  }

  layout_new : IsNewTable t → int_in (number_json t.schema.id) ≡ Some t.schema.id → layout_of (new_json t uuid e now) ≡ Ok (new_fields t uuid e now).layout
  unfolding layout_of new_json orders_in order_in
  layout_new is id = rw (schemas_back t.schema is.columns id, id, (int_decides t.schema.id t.schema.id).1 refl) refl

  state_new : entry_in (entry_json e) ≡ Some (ordered e) → StateOf (new_json t uuid e now) (new_fields t uuid e now).state
  unfolding new_json
  state_new reads = record {
    properties = member_or_is [] properties_in (codes "properties") (new_json t uuid e now) (texts_json t.properties) (in_order t.properties) refl (texts_read t.properties);
    snapshots = member_or_is [] snapshots_in (codes "snapshots") (new_json t uuid e now) (array_of []) [] refl no_snapshots;
    current = member_or_none None (current_in []) (codes "current-snapshot-id") (new_json t uuid e now) refl;
    next_row = member_is natural_in (codes "next-row-id") (new_json t uuid e now) (number_json (pos 0)) (pos 0) refl refl;
    entries = member_or_is [] entries_in (codes "encryption-keys") (new_json t uuid e now) (array_of (entry_json e ∷ [])) (ordered e ∷ []) refl (entries_back e reads);
  }

  -- the record that it shows
  pub new_shown : IsNewTable t → now < 2 ^ 63 → uuid_in (json.string (uuid_text uuid)) ≡ Some uuid → int_in (number_json (last_id t.schema.columns)) ≡ Some (last_id t.schema.columns)
      → int_in (number_json t.schema.id) ≡ Some t.schema.id → entry_in (entry_json e) ≡ Some (ordered e) → fields_of (new_json t uuid e now) ≡ Ok (new_fields t uuid e now)
  unfolding new_json
  new_shown is small id last schema entry =
      fields_from (new_json t uuid e now) (new_fields t uuid e now) refl (new_plain t uuid e now).whole
      (heading_from (new_json t uuid e now) (new_fields t uuid e now).heading (heading_new is small id last)) (layout_new is schema) (state_from (new_json t uuid e now) (new_fields t uuid e now).state (state_new entry))
