-- The first key of a new table opens from the master down.
use Rattle.std.proofs.Common.{◌≡◌, ◌∙◌, ◌∷◌, [], ℕ, List, Bool, true, false, length, codes, bytes_eq, Option, Some, None, Result, Ok, Err, refl, sym, ap, inl, inr}
use Rattle.std.proofs.lemmas.Slice.Eq.{bytes_eq-Decides}
use Rattle.icb_aes.specs.Fips197.{IsKeyLength}
use Rattle.icb_base.specs.KeyMetadata.{is_key_length}
use Rattle.icb_chain.specs.Opening.{KeyTable, kek_of, opened_entry, opened_key}
use Rattle.icb_chain.specs.Opening as chain
use Rattle.icb_chain.specs.Ring.{Ring, key_named}
use Rattle.std.specs.Prelude.{IfOk}
use Rattle.serde_json.specs.Data.{Data}
use Rattle.serde_json.specs.Written.{compact_text}
use Rattle.icb_base.specs.declared.byte_list.NoMemory.{NoMemory}
use Rattle.icb_create.specs.Drawn.{uuid_of}
use Rattle.icb_create.specs.FirstVersion.{IsFirstEntry, IsFirstVersion, first_fields, first_id, table_of}
use Rattle.icb_edits.specs.Tables.{new_fields, new_json}
use Rattle.icb_meta.specs.Shown.{meta_of}
use Rattle.icb_meta.specs.declared.fields.Fields.{Fields}
use Rattle.icb_meta.specs.declared.records.NewTable.{NewTable}
use Rattle.icb_create.specs.declared.drawing.Drawn.{Drawn}
use Rattle.icb_edits.specs.Values.{in_order, ordered}
use Rattle.icb_meta.specs.declared.records.KeyEntry.{KeyEntry}
use Rattle.icb_words.specs.declared.create_words.Create.{Create}

-- an id is itself
same_id : (id other : List ℕ) → id ≡ other → bytes_eq id other ≡ true
same_id id other is = (bytes_eq-Decides id other).1 is

-- an id that isn't another is no equal of it
other_id : (id other : List ℕ) → (id ≡ other → ⊥) → bytes_eq id other ≡ false
other_id id other differs = by_test (bytes_eq id other) refl
  where
    by_test : (test : Bool) → bytes_eq id other ≡ test → bytes_eq id other ≡ false
    by_test false is = is
    by_test true is = absurd (differs ((bytes_eq-Decides id other).0 is))

-- the first key hasn't its master's id
first_is_other : (master : List ℕ) → first_id master ≡ master → ⊥
first_is_other master is = by_test (bytes_eq master (codes "key-1")) refl
  where
    by_test : (test : Bool) → bytes_eq master (codes "key-1") ≡ test → ⊥
    by_test true test =
        let first : first_id master ≡ codes "key-2" = rw test refl in
        let named : master ≡ codes "key-1" = (bytes_eq-Decides master (codes "key-1")).0 test in
        let never : codes "key-2" ≡ codes "key-1" = sym first ∙ is ∙ named in
        let test : bytes_eq (codes "key-2") (codes "key-1") ≡ true = same_id (codes "key-2") (codes "key-1") never in
        cc
    by_test false test =
        let first : first_id master ≡ codes "key-1" = rw test refl in
        let named : bytes_eq master (codes "key-1") ≡ true = same_id master (codes "key-1") (sym is ∙ first) in
        cc

-- a key of a table's one entry, which no entry sealed
opens_one : (table : KeyTable) (ring : Ring) (e : KeyEntry) (id by master key : List ℕ)
    → table.entries ≡ e ∷ [] → bytes_eq e.id id ≡ true → e.by ≡ Some by → bytes_eq e.id by ≡ false
    → key_named by ring ≡ Some master → opened_key master e ≡ Some key
    → kek_of table ring id ≡ Ok key
unfolding kek_of
opens_one table ring e id by master key only found sealed other named opens =
    rw (only, found, sealed, other, named, opens) refl

-- a key of a length that an AES key has
length_is : (n : ℕ) → IsKeyLength n → is_key_length n ≡ true
length_is n (inl is) = rw is refl
length_is n (inr (inl is)) = rw is refl
length_is n (inr (inr is)) = rw is refl

-- an entry that opens to it opens to a key
pub key_opens : (master key : List ℕ) (e : KeyEntry) → opened_entry master e ≡ Some key
    → IsKeyLength (length key) → opened_key master e ≡ Some key
key_opens master key e opens size = rw (opens, length_is (length key) size) refl

-- an entry without properties is the one that is shown
shown_so : (entry : KeyEntry) → entry.properties ≡ [] → ordered entry ≡ entry
unfolding in_order
shown_so entry none =
    ap (λ (texts : List (List ℕ × List ℕ)). record { id = entry.id; sealed = entry.sealed; by = entry.by; properties = texts })
    (ap in_order none ∙ sym none)

-- from a keyring in which the master has its key the chain opens the first key
pub first_opens : (words : Create) (master : List ℕ) (drawn : Drawn) (now_ms : ℕ) (entry : KeyEntry) (ring : Ring)
    → IsFirstEntry words master drawn entry
    → key_named words.master ring ≡ Some master
    → kek_of (chain.table_of (first_fields words drawn now_ms entry).state) ring (first_id words.master) ≡ Ok drawn.key
first_opens words master drawn now_ms entry ring is named =
    opens_one (chain.table_of (first_fields words drawn now_ms entry).state) ring entry (first_id words.master)
    words.master master drawn.key
    (ap (λ (e : KeyEntry). e ∷ []) (shown_so entry is.properties))
    (same_id entry.id (first_id words.master) is.id) is.by
    (other_id entry.id words.master (λ same. first_is_other words.master (sym is.id ∙ same)))
    named is.opens

-- the text of the metadata of a new table is its first version
pub first_is : (words : Create) (master : List ℕ) (drawn : Drawn) (now_ms : ℕ) (entry : KeyEntry)
    (table : NewTable) (uuid : ℕ) (json : Data) (fields : Fields) (result : Result (List ℕ) NoMemory)
    → IsFirstEntry words master drawn entry → table ≡ table_of words → uuid ≡ uuid_of drawn.random
    → json ≡ new_json table uuid entry now_ms → fields ≡ new_fields table uuid entry now_ms
    → IfOk result (λ text. text ≡ compact_text json)
    → IfOk result (λ text. meta_of text ≡ Ok (json, fields))
    → IfOk result (IsFirstVersion words master drawn now_ms)
first_is words master drawn now_ms entry table uuid json fields (Ok text) is is_table is_uuid is_json is_fields written shows =
    let all : json ≡ new_json (table_of words) (uuid_of drawn.random) entry now_ms = rw (is_table, is_uuid) at is_json in
    let record_is : fields ≡ first_fields words drawn now_ms entry = rw (is_table, is_uuid) at is_fields in
    record {
      entry = entry;
      is_entry = is;
      written = written ∙ ap compact_text all;
      shows = shows ∙ ap (λ (d : Data). Ok (d, fields)) all ∙ ap (λ (f : Fields). Ok (new_json (table_of words) (uuid_of drawn.random) entry now_ms, f)) record_is;
      opens = λ ring named. first_opens words master drawn now_ms entry ring is named;
    }
first_is words master drawn now_ms entry table uuid json fields (Err e) is is_table is_uuid is_json is_fields written shows = tt
