-- Metadata with one more snapshot shows its record.
use Rattle.std.proofs.Common.{◌≡◌, ◌<◌, ◌≤◌, ◌^◌, ◌+◌, ◌+ℤ◌, ℕ, ℤ, pos, List, [], ◌∷◌, ◌++◌, true, MatchOption, Option, Some, None, option_map, Ok, codes, refl, sym, ◌∙◌, subst, arith}
use Rattle.serde_json.specs.Data as json
use Rattle.serde_json.specs.Data.{Data, Members, depth, put}
use Rattle.serde_json.specs.Find.{get}
use Rattle.icb_schema.specs.Reading.{optional}
use Rattle.icb_types.specs.Lines.{int_in, long_in, number_json, uuid_in}
use Rattle.icb_meta.specs.Forms.{current_in, entries_in, entry_in, is_natural, location_in, natural_in, properties_in, snapshot_in, snapshots_in, version_in}
use Rattle.icb_meta.specs.Shown.{fields_of}
use Rattle.icb_meta.specs.declared.fields.Fields.{Fields}
use Rattle.icb_meta.specs.declared.records.KeyEntry.{KeyEntry}
use Rattle.icb_meta.specs.declared.records.Snapshot.{Snapshot}
use Rattle.icb_meta.proofs.ShownLemmas.{plain_from}
use Rattle.icb_edits.specs.Keys.{elements, members_in, with_sets}
use Rattle.icb_edits.specs.Sets.{Sets, object_of, set_all}
use Rattle.icb_edits.specs.Snapshots.{IsNext, branch_json, branch_members, change_json, change_members, snapshot_fields, snapshot_json, snapshot_members, snapshot_sets, taken}
use Rattle.icb_edits.specs.Values.{array_of, entry_json, ordered}
use Rattle.icb_edits.proofs.EditLemmas.{elements_plain, inner_plain, kept, member_or_same, member_same, pushed_plain}
use Rattle.icb_edits.proofs.EntryLemmas.{got, or_none, text_back}
use Rattle.icb_edits.proofs.HeldLemmas.{current_last, entries_pushed, keys_held, natural_back, natural_held, natural_sum, snapshots_held, snapshots_pushed}
use Rattle.icb_edits.proofs.KeyLemmas.{log_plain}
use Rattle.icb_edits.proofs.KnownLemmas.{PartsOf, heading_to, layout_same, members_plain, parts_to, state_to}
use Rattle.icb_edits.proofs.NumberLemmas.{natural_of}
use Rattle.icb_edits.proofs.PlainLemmas.{ArePlain, IsPlain, SetsPlain, array_plain, deeper, made_plain, number_plain, object_plain, put_plain, sets_plain, text_plain}
use Rattle.icb_edits.proofs.SetLemmas.{get_after}
use Rattle.icb_edits.proofs.ShownLemmas.{HeadingOf, StateOf, fields_from, heading_from, member_is, member_or_is, state_from}
use Rattle.icb_edits.proofs.TableLemmas.{entry_plain}

-- ---- a snapshot reads as it

-- the numbers of a snapshot read as they are
pub record NumbersRead (s : Snapshot) : Type 0 where
  pub id : long_in (number_json s.id) ≡ Some s.id
  pub sequence : long_in (number_json s.sequence) ≡ Some s.sequence
  pub ms : long_in (number_json s.ms) ≡ Some s.ms
  pub parent : optional long_in (option_map number_json s.parent) ≡ Some s.parent
  pub schema : optional int_in (option_map number_json s.schema) ≡ Some s.schema
  pub first_row : optional long_in (option_map number_json s.first_row) ≡ Some s.first_row
  pub added : optional long_in (option_map number_json s.added) ≡ Some s.added

snapshot_from : (d summary : Data) (s : Snapshot) → get (codes "snapshot-id") d ≡ Some (number_json s.id) → get (codes "sequence-number") d ≡ Some (number_json s.sequence)
    → get (codes "timestamp-ms") d ≡ Some (number_json s.ms) → get (codes "summary") d ≡ Some summary → get (codes "parent-snapshot-id") d ≡ option_map number_json s.parent
    → get (codes "schema-id") d ≡ option_map number_json s.schema → get (codes "first-row-id") d ≡ option_map number_json s.first_row
    → get (codes "added-rows") d ≡ option_map number_json s.added → get (codes "manifest-list") d ≡ Some (json.string s.list)
    → get (codes "operation") summary ≡ Some (json.string s.operation) → get (codes "key-id") d ≡ option_map json.string s.key → NumbersRead s → snapshot_in d ≡ Some s
unfolding snapshot_in
snapshot_from d summary s id sequence ms there parent schema first added list operation key r =
    rw (id, r.id, sequence, r.sequence, ms, r.ms, there, parent, r.parent, schema, r.schema, first, r.first_row, added, r.added, list, operation, key, text_back s.key) refl

pub snapshot_back : (s : Snapshot) → NumbersRead s → snapshot_in (snapshot_json s) ≡ Some s
unfolding snapshot_json
snapshot_back s r =
    snapshot_from (snapshot_json s) (object_of ((codes "operation", Some (json.string s.operation)) ∷ [])) s
    (got (codes "snapshot-id") (snapshot_members s)) (got (codes "sequence-number") (snapshot_members s)) (got (codes "timestamp-ms") (snapshot_members s)) (got (codes "summary") (snapshot_members s))
    (got (codes "parent-snapshot-id") (snapshot_members s) ∙ or_none (option_map number_json s.parent)) (got (codes "schema-id") (snapshot_members s) ∙ or_none (option_map number_json s.schema))
    (got (codes "first-row-id") (snapshot_members s) ∙ or_none (option_map number_json s.first_row)) (got (codes "added-rows") (snapshot_members s) ∙ or_none (option_map number_json s.added))
    (got (codes "manifest-list") (snapshot_members s)) refl (got (codes "key-id") (snapshot_members s) ∙ or_none (option_map json.string s.key)) r

-- ---- plain values

number_or_plain : (o : Option ℤ) → MatchOption (option_map number_json o) (Unit {0}) (IsPlain 1)
number_or_plain None = tt
number_or_plain (Some z) = number_plain 1 z

text_or_plain : (o : Option (List ℕ)) → MatchOption (option_map json.string o) (Unit {0}) (IsPlain 1)
text_or_plain None = tt
text_or_plain (Some s) = text_plain 1 s

snapshot_plain : (s : Snapshot) → IsPlain 2 (snapshot_json s)
unfolding snapshot_json
snapshot_plain s = made_plain 1 (snapshot_members s) (number_plain 1 s.ms, (made_plain 0 ((codes "operation", Some (json.string s.operation)) ∷ []) (text_plain 0 s.operation, tt), (number_plain 1 s.id, (number_plain 1 s.sequence, (text_plain 1 s.list, (number_or_plain s.schema, (number_or_plain s.parent, (text_or_plain s.key, (number_or_plain s.first_row, (number_or_plain s.added, tt))))))))))

change_plain : (id : ℤ) (now : ℕ) → IsPlain 1 (change_json id now)
unfolding change_json
change_plain id now = made_plain 0 (change_members id now) (number_plain 0 (pos now), (number_plain 0 id, tt))

branch_plain : (id : ℤ) → IsPlain 1 (branch_json id)
unfolding branch_json
branch_plain id = made_plain 0 (branch_members id) (text_plain 0 (codes "branch"), (number_plain 0 id, tt))

-- what the values that an edit makes read as
pub record SnapshotReads (f : Fields) (s : Snapshot) (e : KeyEntry) : Type 0 where
  pub snapshot : snapshot_in (snapshot_json s) ≡ Some s
  pub key : entry_in (entry_json e) ≡ Some (ordered e)
  pub id : long_in (number_json s.id) ≡ Some s.id
  pub sequence : long_in (number_json s.sequence) ≡ Some s.sequence
  pub next : long_in (number_json (f.state.next_row +ℤ taken s)) ≡ Some (f.state.next_row +ℤ taken s)

module _ (ms : Members) (f : Fields) (s : Snapshot) (e : KeyEntry) (previous : List ℕ) (now : ℕ) where
  abbrev old : Data
  old = json.object ms

  abbrev sets : Sets
  sets = snapshot_sets old f s e previous now

  abbrev new : Data
  new = with_sets old sets

  pushed : (name : List ℕ) (d : Data) → ArePlain 126 ms → IsPlain 125 d → IsPlain 126 (array_of (elements name old ++ d ∷ []))
  pushed name d q p = array_plain 125 (elements name old ++ d ∷ []) (pushed_plain 125 (elements name old) d (elements_plain 125 name ms q) p)

  sets_are_plain : ArePlain 126 ms → SetsPlain 126 sets
  sets_are_plain q =
      (pushed (codes "snapshots") (snapshot_json s) q (deeper 2 125 (snapshot_json s) (omega arith) (snapshot_plain s)), (pushed (codes "snapshot-log") (change_json s.id now) q (deeper 1 125 (change_json s.id now) (omega arith) (change_plain s.id now)), (object_plain 125 (put (codes "main") (branch_json s.id) (members_in (codes "refs") old)) (put_plain 125 (codes "main") (branch_json s.id) (members_in (codes "refs") old) (deeper 1 125 (branch_json s.id) (omega arith) (branch_plain s.id)) (inner_plain 125 (codes "refs") ms q)), (log_plain ms previous f.heading.updated q, (pushed (codes "encryption-keys") (entry_json e) q (deeper 2 125 (entry_json e) (omega arith) (entry_plain e)), (number_plain 126 (f.state.next_row +ℤ taken s), (number_plain 126 (pos now), (number_plain 126 s.sequence, (number_plain 126 s.id, tt)))))))))

  new_plain : PartsOf old f → depth old ≤ 127 → IsPlain 127 new
  new_plain p few = object_plain 126 (set_all sets ms) (sets_plain 126 sets ms (sets_are_plain (members_plain ms 126 p.whole few)) (members_plain ms 126 p.whole few))

  heading_new : now < 2 ^ 63 → IsNext f s e → SnapshotReads f s e → HeadingOf old f.heading → HeadingOf new (snapshot_fields f s e now).heading
  heading_new small is r h = record {
    version = (h.version.0, member_same version_in (codes "format-version") old new _ (kept (codes "format-version") sets ms refl) h.version.1);
    uuid = member_same uuid_in (codes "table-uuid") old new _ (kept (codes "table-uuid") sets ms refl) h.uuid;
    location = member_same location_in (codes "location") old new _ (kept (codes "location") sets ms refl) h.location;
    last_sequence = member_is natural_in (codes "last-sequence-number") new (number_json s.sequence) s.sequence (get_after (codes "last-sequence-number") sets ms)
        (natural_back s.sequence r.sequence (subst (λ z. is_natural z ≡ true) (sym is.sequence)
        (natural_sum f.heading.last_sequence (pos 1) (natural_held (codes "last-sequence-number") old f.heading.last_sequence h.last_sequence) refl)));
    updated = member_is long_in (codes "last-updated-ms") new (number_json (pos now)) (pos now) (get_after (codes "last-updated-ms") sets ms) (natural_of now small);
    last_column = (h.last_column.0, member_same int_in (codes "last-column-id") old new _ (kept (codes "last-column-id") sets ms refl) h.last_column.1);
  }

  snapshots_new : IsNext f s e → SnapshotReads f s e → StateOf old f.state → snapshots_in (array_of (elements (codes "snapshots") old ++ snapshot_json s ∷ [])) ≡ Some (f.state.snapshots ++ s ∷ [])
  snapshots_new is r st =
      let held = snapshots_held (codes "snapshots") old f.state.snapshots st.snapshots in
      snapshots_pushed (elements (codes "snapshots") old) (snapshot_json s) f.state.snapshots s held.0 held.1 r.snapshot is.unused

  entries_new : IsNext f s e → SnapshotReads f s e → StateOf old f.state → entries_in (array_of (elements (codes "encryption-keys") old ++ entry_json e ∷ [])) ≡ Some (f.state.entries ++ ordered e ∷ [])
  entries_new is r st =
      let held = keys_held (codes "encryption-keys") old f.state.entries st.entries in
      entries_pushed (elements (codes "encryption-keys") old) (entry_json e) f.state.entries e held.0 held.1 r.key is.key_unused

  state_new : IsNext f s e → SnapshotReads f s e → StateOf old f.state → StateOf new (snapshot_fields f s e now).state
  state_new is r st = record {
    properties = member_or_same [] properties_in (codes "properties") old new _ (kept (codes "properties") sets ms refl) st.properties;
    snapshots = member_or_is [] snapshots_in (codes "snapshots") new (array_of (elements (codes "snapshots") old ++ snapshot_json s ∷ [])) (f.state.snapshots ++ s ∷ []) (get_after (codes "snapshots") sets ms) (snapshots_new is r st);
    current = member_or_is None (current_in (f.state.snapshots ++ s ∷ [])) (codes "current-snapshot-id") new (number_json s.id) (Some s.id) (get_after (codes "current-snapshot-id") sets ms)
        (current_last f.state.snapshots s is.unused is.above r.id);
    next_row = member_is natural_in (codes "next-row-id") new (number_json (f.state.next_row +ℤ taken s)) (f.state.next_row +ℤ taken s) (get_after (codes "next-row-id") sets ms)
        (natural_back (f.state.next_row +ℤ taken s) r.next (natural_sum f.state.next_row (taken s) (natural_held (codes "next-row-id") old f.state.next_row st.next_row) is.rows.added));
    entries = member_or_is [] entries_in (codes "encryption-keys") new (array_of (elements (codes "encryption-keys") old ++ entry_json e ∷ [])) (f.state.entries ++ ordered e ∷ []) (get_after (codes "encryption-keys") sets ms) (entries_new is r st);
  }

  snapshot_at : now < 2 ^ 63 → IsNext f s e → SnapshotReads f s e → PartsOf old f → depth old ≤ 127 → fields_of new ≡ Ok (snapshot_fields f s e now)
  snapshot_at small is r p few =
      fields_from new (snapshot_fields f s e now) refl (new_plain p few).whole
      (heading_from new _ (heading_new small is r (heading_to old f.heading p.heading)))
      (layout_same old new f.layout (kept (codes "schemas") sets ms refl) (kept (codes "current-schema-id") sets ms refl) (kept (codes "partition-specs") sets ms refl)
      (kept (codes "default-spec-id") sets ms refl) (kept (codes "last-partition-id") sets ms refl) (kept (codes "sort-orders") sets ms refl)
      (kept (codes "default-sort-order-id") sets ms refl) p.layout)
      (state_from new _ (state_new is r (state_to old f.state p.state)))

-- what metadata with one more snapshot shows, and how deep it nests
pub snapshot_shown : (d : Data) (f : Fields) (s : Snapshot) (e : KeyEntry) (previous : List ℕ) (now : ℕ) → fields_of d ≡ Ok f → depth d ≤ 127 → now < 2 ^ 63 → IsNext f s e → SnapshotReads f s e
    → (fields_of (with_sets d (snapshot_sets d f s e previous now)) ≡ Ok (snapshot_fields f s e now)) × (depth (with_sets d (snapshot_sets d f s e previous now)) ≤ 127)
snapshot_shown json.null f s e previous now h few small is r = let n = plain_from json.null f h in cc
snapshot_shown (json.boolean b) f s e previous now h few small is r = let n = plain_from (json.boolean b) f h in cc
snapshot_shown (json.number x) f s e previous now h few small is r = let n = plain_from (json.number x) f h in cc
snapshot_shown (json.string t) f s e previous now h few small is r = let n = plain_from (json.string t) f h in cc
snapshot_shown (json.array ds) f s e previous now h few small is r = let n = plain_from (json.array ds) f h in cc
snapshot_shown (json.object ms) f s e previous now h few small is r =
    let p = parts_to (json.object ms) f h in
    (snapshot_at ms f s e previous now small is r p few, (new_plain ms f s e previous now p few).levels)
