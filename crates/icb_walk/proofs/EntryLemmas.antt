-- Steps over the entries of an open manifest.
use Rattle.std.specs.Prelude.{◌≡◌, ℕ, ℤ, true, false, List, [], Option, Some, None, IfSome, option_map, Result, Ok, Err}
use Rattle.std.proofs.Common.{refl, ap, sym, subst, ◌∙◌, arith, inl, inr}
use Rattle.icb_base.specs.Objects.{Objects}
use Rattle.icb_base.specs.declared.storage.Store as store
use Rattle.icb_fields.specs.Fields as field
use Rattle.icb_manifest.specs.Entries.{entry_of}
use Rattle.icb_manifest.specs.declared.entry.Entry.{Entry}
use Rattle.icb_reader.specs.declared.records.Records.{Records}
use Rattle.icb_table.proofs.StepLemmas.{through_one}
use Rattle.icb_table.specs.Contents.{Plaintexts}
use Rattle.icb_table.specs.Listed.{Listed}
use Rattle.icb_table.specs.Tests.{data_file_of, is_deleted}
use Rattle.icb_table.specs.Trace.{Trace, one, stopped, then_read, through, whole}
use Rattle.icb_table.specs.Tree.{below_entry, file_in}
use Rattle.icb_table.specs.Tree as tree
use Rattle.icb_table.specs.Why.{Why}
use Rattle.icb_walk.proofs.CauseLemmas.{blames_as}
use Rattle.icb_walk.proofs.TraceFacts.{through_none, through_stopped}
use Rattle.icb_walk.specs.Causes.{IsAt, cause_of, refused_by}
use Rattle.icb_walk.specs.Entries.{FitsEntries, IsFileFault, RefusesAt, StepsIn, entries_left, manifest_left, placed_entry, waiting}
use Rattle.icb_walk.specs.Judged.{Judges, Lists, listing}
use Rattle.icb_walk.specs.Steps.{LeavesMore, ReadsFile, ReadsNext, Refuses, records_left}
use Rattle.icb_walk.specs.declared.fault.Cause.{Cause}
use Rattle.icb_walk.specs.declared.fault.TreeFault.{TreeFault}
use Rattle.icb_walk.specs.declared.fault.TreeFault.TheVariants as fault
use Rattle.icb_walk.specs.declared.listing.Listing.{Listing}
use Rattle.icb_walk.specs.declared.open_manifest.Found.{Found}
use Rattle.icb_walk.specs.declared.open_manifest.Found.TheVariants as found
use Rattle.icb_walk.specs.declared.open_manifest.OpenManifest.{OpenManifest}
use Rattle.icb_walk.specs.declared.open_manifest.PlacedEntry.{PlacedEntry}
use Rattle.icb_walk.specs.declared.opened.OpenFile.{OpenFile}
use Rattle.icb_walk.specs.declared.trouble.Trouble.{Trouble}
use Rattle.icb_walk.specs.declared.trouble.Trouble.TheVariants as trouble

-- ---- refusals

pub refused_is : {A : Type 0} (r : Result A Why) (c : Cause) → refused_by r ≡ Some c → (w : Why) × (r ≡ Err w) × (cause_of w ≡ Some c)
refused_is (Ok x) c e = absurd (let g : ⊥ = cc in g)
refused_is (Err w) c e = (w, refl, e)

-- what is refused of the items is refused of what is read for each of them
pub refuses_through : {A B : Type 0} (read : A → Trace B) (files : Objects) (f : Listed) (c : Cause) (left : Trace A)
    → ((e : Why) × (left ≡ stopped f e) × (cause_of e ≡ Some c)) → (e : Why) × (through read left ≡ stopped f e) × (cause_of e ≡ Some c)
refuses_through read files f c left (e, stops, told) = (e, ap (through read) stops ∙ through_stopped read f e, told)

pub refuses_lifted : {A B : Type 0} (read : ℕ × A → Trace B) (files : Objects) (f : Listed) (c : Cause) (left : Trace (ℕ × A))
    → Refuses files f c left → Refuses files f c (through read left)
refuses_lifted read files f c left (inl unshown) = inl unshown
refuses_lifted read files f c left (inr h) = inr (refuses_through read files f c left h)

pub refuses_at : {A : Type 0} (files : Objects) (f : Listed) (path : List ℕ) (left : Trace A) (t : Trouble) (e : TreeFault) → path ≡ f.path
    → IsAt path t e → ((c : Cause) → t ≡ trouble.Cause c → Refuses files f c left) → RefusesAt files f left e
refuses_at files f path left (trouble.Cause c) e same (inl is) h = subst (RefusesAt files f left) (sym is) (same, h c refl)
refuses_at files f path left (trouble.Cause c) e same (inr is) h = subst (RefusesAt files f left) (sym is) tt
refuses_at files f path left trouble.Store e same is h = subst (RefusesAt files f left) (sym is) tt
refuses_at files f path left trouble.NoMemory e same is h = subst (RefusesAt files f left) (sym is) tt

pub cause_left : {A : Type 0} (read : field.Row → Result A ℤ) (files : Objects) (plain : Plaintexts) (f : Listed) (old new : Records) (t : Trouble)
    → LeavesMore read files plain f old new (Err t) → (c : Cause) → t ≡ trouble.Cause c → Refuses files f c (records_left read plain f old)
cause_left read files plain f old new t h c is = subst (λ u. LeavesMore read files plain f old new (Err u)) is h

-- ---- reading an entry

-- before an entry is read the records alone are left
none_waits : (plain : Plaintexts) (m : OpenManifest) → m.entry ≡ None → entries_left plain m ≡ records_left entry_of plain (listing m.file) m.reader.records
none_waits plain m e = ap (λ o. then_read (waiting (option_map placed_entry o)) (records_left entry_of plain (listing m.file) m.reader.records)) e

pub entry_read : (location : List ℕ) (files : Objects) (old : OpenManifest) (now : OpenFile) (place : ℕ) (x : Entry) → old.entry ≡ None
    → place ≡ now.records.last → ReadsNext entry_of files (listing old.file) old.reader now (Ok (Some x))
    → StepsIn files location old (record { file = old.file; reader = now; row = old.row; entry = Some (record { place = place; entry = x }) }) (Ok found.More)
unfolding manifest_left
entry_read location files old now place x none at reads = record {
  fits = reads.fits;
  leaves = λ plain allows. ap (through (below_entry location (listing old.file) old.row))
      (none_waits plain old none ∙ reads.leaves plain allows
      ∙ ap (λ p. then_read (one (p, x)) (records_left entry_of plain (listing old.file) now.records)) (sym at));
}

pub entries_end : (location : List ℕ) (files : Objects) (old : OpenManifest) (now : OpenFile) → old.entry ≡ None
    → ReadsNext entry_of files (listing old.file) old.reader now (Ok None)
    → StepsIn files location old (record { file = old.file; reader = now; row = old.row; entry = old.entry }) (Ok found.End)
unfolding manifest_left
entries_end location files old now none reads = record {
  fits = tt;
  leaves = λ plain allows. ap (through (below_entry location (listing old.file) old.row))
      (none_waits plain old none ∙ reads.leaves plain allows) ∙ through_none (below_entry location (listing old.file) old.row);
}

pub entry_refused : (location : List ℕ) (files : Objects) (old : OpenManifest) (now : OpenFile) (t : Trouble) (e : TreeFault) → old.entry ≡ None
    → IsAt old.file.path t e → now.records ≡ old.reader.records → ReadsNext entry_of files (listing old.file) old.reader now (Err t)
    → StepsIn files location old (record { file = old.file; reader = now; row = old.row; entry = old.entry }) (Err e)
unfolding manifest_left
entry_refused location files old now t e none is same reads = record {
  fits = reads.fits;
  leaves = λ plain allows. (
    ap (λ r. through (below_entry location (listing old.file) old.row) (then_read (waiting (option_map placed_entry old.entry)) (records_left entry_of plain (listing old.file) r))) (sym same),
    refuses_at files (listing old.file) old.file.path (manifest_left location plain old) t e refl is
        (λ c told. subst (Refuses files (listing old.file) c) (ap (through (below_entry location (listing old.file) old.row)) (sym (none_waits plain old none)))
        (refuses_lifted (below_entry location (listing old.file) old.row) files (listing old.file) c (records_left entry_of plain (listing old.file) old.reader.records)
        (cause_left entry_of files plain (listing old.file) old.reader.records now.records t (reads.leaves plain allows) c told))),
  );
}

-- ---- passing an entry

-- an entry that waits comes first
entry_first : (location : List ℕ) (plain : Plaintexts) (m : OpenManifest) (e : PlacedEntry) → m.entry ≡ Some e
    → manifest_left location plain m ≡ then_read (below_entry location (listing m.file) m.row (e.place, e.entry))
    (through (below_entry location (listing m.file) m.row) (records_left entry_of plain (listing m.file) m.reader.records))
unfolding manifest_left
entry_first location plain m e is =
    ap (λ o. through (below_entry location (listing m.file) m.row) (then_read (waiting (option_map placed_entry o)) (records_left entry_of plain (listing m.file) m.reader.records))) is
    ∙ through_one (below_entry location (listing m.file) m.row) (e.place, e.entry) (records_left entry_of plain (listing m.file) m.reader.records)

-- behind it the records alone are left
behind_entry : (location : List ℕ) (plain : Plaintexts) (m : OpenManifest)
    → through (below_entry location (listing m.file) m.row) (records_left entry_of plain (listing m.file) m.reader.records)
    ≡ manifest_left location plain (record { file = m.file; reader = m.reader; row = m.row; entry = None })
unfolding manifest_left
behind_entry location plain m = refl

deleted_adds : (location : List ℕ) (f : Listed) (row place : ℕ) (e : Entry) → is_deleted e ≡ true → below_entry location f row (place, e) ≡ whole []
deleted_adds location f row place e is = rw is refl

live_adds : (location : List ℕ) (f : Listed) (row place : ℕ) (e : Entry) → is_deleted e ≡ false
    → below_entry location f row (place, e) ≡ file_in f row e.file (data_file_of location place e.file)
live_adds location f row place e is = rw is refl

pub entry_deleted : (location : List ℕ) (files : Objects) (old : OpenManifest) (e : PlacedEntry) → old.entry ≡ Some e → is_deleted e.entry ≡ true
    → FitsEntries files old
    → StepsIn files location old (record { file = old.file; reader = old.reader; row = old.row; entry = None }) (Ok found.More)
entry_deleted location files old e is deleted fits = record {
  fits = fits;
  leaves = λ plain allows. entry_first location plain old e is
      ∙ ap (λ t. then_read t (through (below_entry location (listing old.file) old.row) (records_left entry_of plain (listing old.file) old.reader.records)))
      (deleted_adds location (listing old.file) old.row e.place e.entry deleted) ∙ behind_entry location plain old;
}

pub entry_given : (location : List ℕ) (files : Objects) (old : OpenManifest) (e : PlacedEntry) (file : Listing) → old.entry ≡ Some e → is_deleted e.entry ≡ false
    → Lists (Ok file) (data_file_of location e.place e.entry.file) → FitsEntries files old
    → StepsIn files location old (record { file = old.file; reader = old.reader; row = old.row; entry = None })
    (Ok (found.File (record { path = file.path; key = file.key; length = file.length; file = e.entry.file; row = old.row })))
entry_given location files old e file is alive lists fits = record {
  fits = fits;
  leaves = λ plain allows. entry_first location plain old e is
      ∙ ap (λ t. then_read t (through (below_entry location (listing old.file) old.row) (records_left entry_of plain (listing old.file) old.reader.records)))
      (live_adds location (listing old.file) old.row e.place e.entry alive ∙ ap (file_in (listing old.file) old.row e.entry.file) lists)
      ∙ ap (then_read (one (tree.data_file (record { listed = listing file; file = e.entry.file; row = old.row })))) (behind_entry location plain old);
}

entry_stops : (location : List ℕ) (plain : Plaintexts) (old : OpenManifest) (e : PlacedEntry) (w : Why) → old.entry ≡ Some e → is_deleted e.entry ≡ false
    → data_file_of location e.place e.entry.file ≡ Err w → manifest_left location plain old ≡ stopped (listing old.file) w
entry_stops location plain old e w is alive refused = entry_first location plain old e is
    ∙ ap (λ t. then_read t (through (below_entry location (listing old.file) old.row) (records_left entry_of plain (listing old.file) old.reader.records)))
    (live_adds location (listing old.file) old.row e.place e.entry alive ∙ ap (file_in (listing old.file) old.row e.entry.file) refused)

-- with the entry that waited
same_entry : (location : List ℕ) (plain : Plaintexts) (m : OpenManifest) (o : Option PlacedEntry) → m.entry ≡ o
    → manifest_left location plain m ≡ manifest_left location plain (record { file = m.file; reader = m.reader; row = m.row; entry = o })
unfolding manifest_left
same_entry location plain m o is = ap (λ e. through (below_entry location (listing m.file) m.row) (then_read (waiting (option_map placed_entry e)) (records_left entry_of plain (listing m.file) m.reader.records))) is

pub file_refused : (location : List ℕ) (files : Objects) (old : OpenManifest) (e : PlacedEntry) (t : Trouble) (r : TreeFault) → old.entry ≡ Some e
    → is_deleted e.entry ≡ false → Lists (Err t) (data_file_of location e.place e.entry.file) → IsAt old.file.path t r → FitsEntries files old
    → StepsIn files location old (record { file = old.file; reader = old.reader; row = old.row; entry = Some e }) (Err r)
file_refused location files old e t r is alive lists at fits = record {
  fits = fits;
  leaves = λ plain allows. (
    same_entry location plain old (Some e) is,
    refuses_at files (listing old.file) old.file.path (manifest_left location plain old) t r refl at
        (λ c told.
        let w = refused_is (data_file_of location e.place e.entry.file) c (subst (λ u. Lists (Err u) (data_file_of location e.place e.entry.file)) told lists) in
        inr (w.0, entry_stops location plain old e w.0 is alive w.1, w.2)),
  );
}

pub lists_no_store : {A B : Type 0} (view : A → B) (t : Trouble) (r : Result B Why) → Judges view (Err t) r → t ≡ trouble.Store → ⊥
lists_no_store view trouble.Store r h e = h
lists_no_store view (trouble.Cause c) r h e = cc
lists_no_store view trouble.NoMemory r h e = cc

-- nothing is passed
pub entry_stays : (location : List ℕ) (files : Objects) (m : OpenManifest) → m.entry ≡ None → FitsEntries files m
    → StepsIn files location m (record { file = m.file; reader = m.reader; row = m.row; entry = None }) (Ok found.More)
entry_stays location files m none fits = record { fits = fits; leaves = λ plain allows. same_entry location plain m None none }

-- no entry waits then
pub none_then : (location : List ℕ) (files : Objects) (old : OpenManifest) (o : Option PlacedEntry) (r : Result Found TreeFault) → o ≡ None
    → StepsIn files location old (record { file = old.file; reader = old.reader; row = old.row; entry = None }) r
    → StepsIn files location old (record { file = old.file; reader = old.reader; row = old.row; entry = o }) r
none_then location files old o r is h =
    subst (λ (e : Option PlacedEntry). StepsIn files location old (record { file = old.file; reader = old.reader; row = old.row; entry = e }) r) (sym is) h

-- ---- refusals of the call

pub at_to : (path : List ℕ) (t : Trouble) (e : TreeFault) → IsAt path t e → t ≡ trouble.Store → e ≡ fault.Store
at_to path trouble.Store e h is = h
at_to path (trouble.Cause c) e h is = absurd (let x : ⊥ = cc in x)
at_to path trouble.NoMemory e h is = absurd (let x : ⊥ = cc in x)

pub at_from : (path : List ℕ) (t : Trouble) (e : TreeFault) → IsAt path t e → e ≡ fault.Store → t ≡ trouble.Store
at_from path trouble.Store e h is = refl
at_from path (trouble.Cause c) e (inl h) is = absurd (let x : ⊥ = cc in x)
at_from path (trouble.Cause c) e (inr h) is = absurd (let x : ⊥ = cc in x)
at_from path trouble.NoMemory e h is = absurd (let x : ⊥ = cc in x)

pub fault_at : (path : List ℕ) (t : Trouble) (e : TreeFault) → IsAt path t e → IsFileFault e
fault_at path trouble.Store e h = subst IsFileFault (sym h) tt
fault_at path (trouble.Cause c) e (inl h) = subst IsFileFault (sym h) tt
fault_at path (trouble.Cause c) e (inr h) = subst IsFileFault (sym h) tt
fault_at path trouble.NoMemory e h = subst IsFileFault (sym h) tt

pub err_to : {A E : Type 0} (e d : E) → e ≡ d → (let r : Result A E = Err e in r) ≡ Err d
err_to e d is = cc

pub err_from : {A E : Type 0} (e d : E) → (let r : Result A E = Err e in r) ≡ Err d → e ≡ d
err_from e d is = cc

-- calls for one path, whose fault is told otherwise
pub reads_as : {Self : Type 0} (of : store.Ghosts Self) (path : List ℕ) (p q : Type 0) (x y : Self) → (p → q) → (q → p) → ReadsFile of path p x y → ReadsFile of path q x y
reads_as of path p q x y to from r = record {
  same = r.same;
  count = blames_as p q (of.faults x) (of.faults y) to from r.count;
  asks = r.asks;
  moves = r.moves;
  kept = r.kept;
}

pub reads_at : {Self A B : Type 0} (of : store.Ghosts Self) (path other : List ℕ) (t : Trouble) (e : TreeFault) (x y : Self) → IsAt other t e
    → ReadsFile of path ((let r : Result A Trouble = Err t in r) ≡ Err trouble.Store) x y
    → ReadsFile of path ((let r : Result B TreeFault = Err e in r) ≡ Err fault.Store) x y
reads_at of path other t e x y at r = reads_as of path _ _ x y
    (λ h. err_to e fault.Store (at_to other t e at (err_from t trouble.Store h)))
    (λ h. err_to t trouble.Store (at_from other t e at (err_from e fault.Store h))) r

-- nothing is read
pub reads_nothing : {Self : Type 0} (of : store.Ghosts Self) (path : List ℕ) (p : Type 0) (x : Self) → (p → ⊥) → of.keeps x x → ReadsFile of path p x x
reads_nothing of path p x no_fault kept = record {
  same = refl;
  count = record { later = omega arith; rose = λ h. absurd (no_fault h); stays = λ h. refl };
  asks = any (of.held x) (record { others = λ other ne. refl; later = omega arith });
  moves = any (of.held x) (record { others = λ other ne. refl; later = omega arith });
  kept = kept;
}
  where
    any : {A P : Type 0} (o : Option A) → P → IfSome o (λ _. P)
    any None h = tt
    any (Some a) h = h
