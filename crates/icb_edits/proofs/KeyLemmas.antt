-- Metadata with other keys shows its record.
use Rattle.std.proofs.Common.{◌≡◌, ◌<◌, ◌≤◌, ◌^◌, ◌+◌, ℕ, ℤ, pos, List, [], ◌∷◌, ◌++◌, map, true, Some, None, Ok, codes, refl, ap, arith}
use Rattle.serde_json.specs.Data as json
use Rattle.serde_json.specs.Data.{Data, Members, depth, put}
use Rattle.icb_schema.specs.Names.{are_distinct}
use Rattle.icb_schema.specs.Reading.{all_read}
use Rattle.icb_types.specs.Lines.{int_in, long_in, number_json, uuid_in}
use Rattle.icb_meta.specs.Forms.{current_in, entries_in, entry_in, location_in, natural_in, properties_in, snapshots_in, version_in}
use Rattle.icb_meta.specs.Shown.{fields_of}
use Rattle.icb_meta.specs.declared.fields.Fields.{Fields}
use Rattle.icb_meta.specs.declared.records.KeyEntry.{KeyEntry}
use Rattle.icb_meta.proofs.ShownLemmas.{plain_from}
use Rattle.icb_edits.specs.Keys.{elements, key_fields, key_sets, logged, members_in, version_json, version_members, with_sets}
use Rattle.icb_edits.specs.Sets.{Sets, set_all}
use Rattle.icb_edits.specs.Values.{array_of, entry_json, ordered, with_text}
use Rattle.icb_edits.proofs.EditLemmas.{elements_plain, inner_plain, kept, last_plain, member_or_same, member_same, pushed_plain, texts_held}
use Rattle.icb_edits.proofs.KnownLemmas.{PartsOf, heading_to, layout_same, members_plain, parts_to, state_to}
use Rattle.icb_edits.proofs.NumberLemmas.{natural_of}
use Rattle.icb_edits.proofs.PlainLemmas.{AllPlain, ArePlain, IsPlain, SetsPlain, array_plain, deeper, made_plain, number_plain, object_plain, put_plain, sets_plain, text_plain}
use Rattle.icb_edits.proofs.SetLemmas.{get_after}
use Rattle.icb_edits.proofs.ShownLemmas.{HeadingOf, StateOf, fields_from, heading_from, member_is, member_or_is, state_from}
use Rattle.icb_edits.proofs.TableLemmas.{entry_plain, list_back}
use Rattle.icb_edits.proofs.TextLemmas.{text_put}

pub version_plain : (path : List ℕ) (time : ℤ) → IsPlain 125 (version_json path time)
unfolding version_json
version_plain path time = made_plain 124 (version_members path time) (number_plain 124 time, (text_plain 124 path, tt))

-- the log of metadata
pub log_plain : (ms : Members) (path : List ℕ) (time : ℤ) → ArePlain 126 ms → IsPlain 126 (array_of (logged (json.object ms) path time))
log_plain ms path time q =
    array_plain 125 (logged (json.object ms) path time) (last_plain 125 100 (elements (codes "metadata-log") (json.object ms) ++ version_json path time ∷ [])
    (pushed_plain 125 (elements (codes "metadata-log") (json.object ms)) (version_json path time) (elements_plain 125 (codes "metadata-log") ms q) (version_plain path time)))

entries_plain : (es : List KeyEntry) → AllPlain 125 (map entry_json es)
entries_plain [] = tt
entries_plain (e ∷ es) = (deeper 2 125 (entry_json e) (omega arith) (entry_plain e), entries_plain es)

ids_ordered : (es : List KeyEntry) → map (λ e. e.id) (map ordered es) ≡ map (λ e. e.id) es
ids_ordered [] = refl
ids_ordered (e ∷ es) = ap (λ ids. e.id ∷ ids) (ids_ordered es)

-- keys that read as they are
pub keys_back : (es : List KeyEntry) → all_read entry_in (map entry_json es) ≡ Some (map ordered es) → are_distinct (map (λ e. e.id) es) ≡ true
    → entries_in (array_of (map entry_json es)) ≡ Some (map ordered es)
unfolding entries_in
keys_back es reads apart = rw (list_back (map entry_json es), reads, ids_ordered es, apart) refl

module _ (ms : Members) (f : Fields) (es : List KeyEntry) (master previous : List ℕ) (now : ℕ) where
  abbrev old : Data
  old = json.object ms

  abbrev sets : Sets
  sets = key_sets old f.heading.updated es master previous now

  abbrev new : Data
  new = with_sets old sets

  sets_are_plain : ArePlain 126 ms → SetsPlain 126 sets
  sets_are_plain q = (
    log_plain ms previous f.heading.updated q,
    (
      number_plain 126 (pos now),
      (
        array_plain 125 (map entry_json es) (entries_plain es),
        (
          object_plain 125 (put (codes "encryption.key-id") (json.string master) (members_in (codes "properties") old))
              (put_plain 125 (codes "encryption.key-id") (json.string master) (members_in (codes "properties") old) (text_plain 125 master) (inner_plain 125 (codes "properties") ms q)),
          tt,
        ),
      ),
    ),
  )

  new_plain : PartsOf old f → depth old ≤ 127 → IsPlain 127 new
  new_plain p few = object_plain 126 (set_all sets ms) (sets_plain 126 sets ms (sets_are_plain (members_plain ms 126 p.whole few)) (members_plain ms 126 p.whole few))

  heading_new : now < 2 ^ 63 → HeadingOf old f.heading → HeadingOf new (key_fields f es master now).heading
  heading_new small h = record {
    version = (h.version.0, member_same version_in (codes "format-version") old new _ (kept (codes "format-version") sets ms refl) h.version.1);
    uuid = member_same uuid_in (codes "table-uuid") old new _ (kept (codes "table-uuid") sets ms refl) h.uuid;
    location = member_same location_in (codes "location") old new _ (kept (codes "location") sets ms refl) h.location;
    last_sequence = member_same natural_in (codes "last-sequence-number") old new _ (kept (codes "last-sequence-number") sets ms refl) h.last_sequence;
    updated = member_is long_in (codes "last-updated-ms") new (number_json (pos now)) (pos now) (get_after (codes "last-updated-ms") sets ms) (natural_of now small);
    last_column = (h.last_column.0, member_same int_in (codes "last-column-id") old new _ (kept (codes "last-column-id") sets ms refl) h.last_column.1);
  }

  state_new : all_read entry_in (map entry_json es) ≡ Some (map ordered es) → are_distinct (map (λ e. e.id) es) ≡ true → StateOf old f.state → StateOf new (key_fields f es master now).state
  state_new reads apart s = record {
    properties = member_or_is [] properties_in (codes "properties") new (json.object (put (codes "encryption.key-id") (json.string master) (members_in (codes "properties") old))) (with_text f.state.properties (codes "encryption.key-id", master)) (get_after (codes "properties") sets ms)
        (text_put (codes "encryption.key-id") master (members_in (codes "properties") old) f.state.properties (texts_held (codes "properties") old f.state.properties s.properties));
    snapshots = member_or_same [] snapshots_in (codes "snapshots") old new _ (kept (codes "snapshots") sets ms refl) s.snapshots;
    current = member_or_same None (current_in f.state.snapshots) (codes "current-snapshot-id") old new _ (kept (codes "current-snapshot-id") sets ms refl) s.current;
    next_row = member_same natural_in (codes "next-row-id") old new _ (kept (codes "next-row-id") sets ms refl) s.next_row;
    entries = member_or_is [] entries_in (codes "encryption-keys") new (array_of (map entry_json es)) (map ordered es) (get_after (codes "encryption-keys") sets ms) (keys_back es reads apart);
  }

  keys_at : now < 2 ^ 63 → all_read entry_in (map entry_json es) ≡ Some (map ordered es) → are_distinct (map (λ e. e.id) es) ≡ true
      → PartsOf old f → depth old ≤ 127 → fields_of new ≡ Ok (key_fields f es master now)
  keys_at small reads apart p few =
      fields_from new (key_fields f es master now) refl (new_plain p few).whole
      (heading_from new _ (heading_new small (heading_to old f.heading p.heading)))
      (layout_same old new f.layout (kept (codes "schemas") sets ms refl) (kept (codes "current-schema-id") sets ms refl) (kept (codes "partition-specs") sets ms refl)
      (kept (codes "default-spec-id") sets ms refl) (kept (codes "last-partition-id") sets ms refl) (kept (codes "sort-orders") sets ms refl)
      (kept (codes "default-sort-order-id") sets ms refl) p.layout)
      (state_from new _ (state_new reads apart (state_to old f.state p.state)))

-- what metadata with other keys shows, and how deep it nests
pub keys_shown : (d : Data) (f : Fields) (es : List KeyEntry) (master previous : List ℕ) (now : ℕ) → fields_of d ≡ Ok f → depth d ≤ 127 → now < 2 ^ 63
    → all_read entry_in (map entry_json es) ≡ Some (map ordered es) → are_distinct (map (λ e. e.id) es) ≡ true
    → (fields_of (with_sets d (key_sets d f.heading.updated es master previous now)) ≡ Ok (key_fields f es master now))
    × (depth (with_sets d (key_sets d f.heading.updated es master previous now)) ≤ 127)
keys_shown json.null f es master previous now h few small reads apart = let n = plain_from json.null f h in cc
keys_shown (json.boolean b) f es master previous now h few small reads apart = let n = plain_from (json.boolean b) f h in cc
keys_shown (json.number x) f es master previous now h few small reads apart = let n = plain_from (json.number x) f h in cc
keys_shown (json.string s) f es master previous now h few small reads apart = let n = plain_from (json.string s) f h in cc
keys_shown (json.array ds) f es master previous now h few small reads apart = let n = plain_from (json.array ds) f h in cc
keys_shown (json.object ms) f es master previous now h few small reads apart =
    let p = parts_to (json.object ms) f h in
    (keys_at ms f es master previous now small reads apart p few, (new_plain ms f es master previous now p few).levels)
