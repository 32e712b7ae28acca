-- Steps over the rows of an open list.
use Rattle.std.specs.Prelude.{◌≡◌, ℕ, suc, true, false, List, [], Option, Some, None, IfSome, option_map, Result, Ok, Err}
use Rattle.std.proofs.Common.{refl, ap, sym, subst, ◌∙◌, inl, inr}
use Rattle.icb_base.specs.Objects.{Objects}
use Rattle.icb_base.specs.declared.storage.Store as store
use Rattle.icb_list.specs.Rows.{list_row}
use Rattle.icb_list.specs.declared.row.ListRow.{ListRow}
use Rattle.icb_manifest.specs.Entries.{entry_of}
use Rattle.icb_table.proofs.StepLemmas.{then_assoc, through_one}
use Rattle.icb_table.specs.Contents.{Plaintexts, contents_of, read_plain}
use Rattle.icb_table.specs.Known.{Allows, shown_in}
use Rattle.icb_table.specs.Listed.{Listed}
use Rattle.icb_table.specs.Records.{records_of}
use Rattle.icb_table.specs.Rows.{Columns}
use Rattle.icb_table.specs.Tests.{is_passed, manifest_of}
use Rattle.icb_table.specs.Trace.{Trace, numbered, one, then_read, through, whole}
use Rattle.icb_table.specs.Tree.{below_entry, below_manifest, below_row, tree_below}
use Rattle.icb_table.specs.Tree as tree
use Rattle.icb_walk.proofs.EntryLemmas.{cause_left, refused_is, refuses_at}
use Rattle.icb_walk.proofs.TraceFacts.{numbered_none, numbered_one, numbered_stopped, through_stopped}
use Rattle.icb_walk.specs.Causes.{IsAt}
use Rattle.icb_walk.specs.Entries.{IsFileFault, RefusesAt, manifest_left, placed_entry, waiting}
use Rattle.icb_walk.specs.Judged.{Lists, listing}
use Rattle.icb_walk.specs.Rows.{AsksAt, ComesFirst, EntersManifest, EntersRow, FitsRows, IsOf, OpensList, OpensManifest, ReadsRow, RefusesRow, SameRows, list_left, numbered_at, placed_row, rows_left}
use Rattle.icb_walk.specs.Steps.{OpensFile, ReadsFile, ReadsNext, Refuses, records_left}
use Rattle.icb_walk.specs.declared.fault.Cause.{Cause}
use Rattle.icb_walk.specs.declared.fault.TreeFault.{TreeFault}
use Rattle.icb_walk.specs.declared.fault.TreeFault.TheVariants as fault
use Rattle.icb_walk.specs.declared.listing.Listing.{Listing}
use Rattle.icb_walk.specs.declared.open_list.OpenList.{OpenList}
use Rattle.icb_walk.specs.declared.open_list.PlacedRow.{PlacedRow}
use Rattle.icb_walk.specs.declared.open_manifest.OpenManifest.{OpenManifest}
use Rattle.icb_walk.specs.declared.opened.OpenFile.{OpenFile}
use Rattle.icb_walk.specs.declared.trouble.Trouble.{Trouble}
use Rattle.icb_walk.specs.declared.trouble.Trouble.TheVariants as trouble

-- ---- opening

-- a list that was opened is left whole
pub list_opened : (files : Objects) (file : Listing) (reader : OpenFile) → OpensFile files (listing file) (Ok reader)
    → OpensList files file (Ok (record { reader = reader; count = 0; row = None }))
unfolding tree_below list_left
list_opened files file reader begins = record {
  fits = begins.fits;
  left = λ columns plain location allows.
      ap (λ t. then_read (one (tree.list (listing file))) (through (below_row location (contents_of columns plain) (listing file)) (numbered t)))
      (begins.rows plain allows);
}

fails_rows : (files : Objects) (f : Listed) (path : List ℕ) (t : Trouble) (e : TreeFault) → path ≡ f.path → IsAt path t e → OpensFile files f (Err t)
    → (plain : Plaintexts) → Allows (shown_in files f) (plain f) → RefusesAt files f (read_plain (records_of list_row) f (plain f)) e
fails_rows files f path t e same at fails plain allows = refuses_at files f path (read_plain (records_of list_row) f (plain f)) t e same at
    (λ c is. (subst (λ u. OpensFile files f (Err u)) is fails).rows plain allows)

fails_entries : (files : Objects) (f : Listed) (path : List ℕ) (t : Trouble) (e : TreeFault) → path ≡ f.path → IsAt path t e → OpensFile files f (Err t)
    → (plain : Plaintexts) → Allows (shown_in files f) (plain f) → RefusesAt files f (read_plain (records_of entry_of) f (plain f)) e
fails_entries files f path t e same at fails plain allows = refuses_at files f path (read_plain (records_of entry_of) f (plain f)) t e same at
    (λ c is. (subst (λ u. OpensFile files f (Err u)) is fails).entries plain allows)

pub list_refused : (files : Objects) (file : Listing) (t : Trouble) (e : TreeFault) → IsAt file.path t e → OpensFile files (listing file) (Err t)
    → OpensList files file (Err e)
list_refused files file t e at fails = fails_rows files (listing file) file.path t e refl at fails

pub manifest_opened : (files : Objects) (file : Listing) (row : ℕ) (reader : OpenFile) → OpensFile files (listing file) (Ok reader)
    → OpensManifest files file row (Ok (record { file = file; reader = reader; row = row; entry = None }))
manifest_opened files file row reader begins = record {
  same_file = refl;
  same_row = refl;
  none = refl;
  fits = begins.fits;
  left = begins.entries;
}

is_of : (path : List ℕ) (t : Trouble) (e : TreeFault) → IsAt path t e → IsOf path e
is_of path (trouble.Cause c) e (inl is) = subst (IsOf path) (sym is) refl
is_of path (trouble.Cause c) e (inr is) = subst (IsOf path) (sym is) tt
is_of path trouble.Store e is = subst (IsOf path) (sym is) tt
is_of path trouble.NoMemory e is = subst (IsOf path) (sym is) tt

pub manifest_refused : (files : Objects) (file : Listing) (row : ℕ) (t : Trouble) (e : TreeFault) → IsAt file.path t e → OpensFile files (listing file) (Err t)
    → OpensManifest files file row (Err e)
manifest_refused files file row t e at fails = (is_of file.path t e at, fails_entries files (listing file) file.path t e refl at fails)

-- ---- reading a row

row_waits_not : (plain : Plaintexts) (f : Listed) (l : OpenList) → l.row ≡ None
    → rows_left plain f l ≡ numbered_at l.count (records_left list_row plain f l.reader.records)
row_waits_not plain f l e = ap (λ o. then_read (waiting (option_map placed_row o)) (numbered_at l.count (records_left list_row plain f l.reader.records))) e

pub row_read : (files : Objects) (file : Listing) (old : OpenList) (now : OpenFile) (number place count : ℕ) (x : ListRow) → old.row ≡ None
    → number ≡ old.count → place ≡ now.records.last → count ≡ suc old.count
    → ReadsNext list_row files (listing file) old.reader now (Ok (Some x))
    → ReadsRow files file old (record { reader = now; count = count; row = Some (record { number = number; place = place; row = x }) }) (Ok true)
row_read files file old now number place count x none is_number at is_count reads = record {
  fits = reads.fits;
  leaves = λ plain allows.
      let next = records_left list_row plain (listing file) now.records in
      row_waits_not plain (listing file) old none
      ∙ ap (numbered_at old.count) (reads.leaves plain allows)
      ∙ numbered_one old.count (now.records.last, x) next
      ∙ ap (λ p. then_read (one (old.count, (p, x))) (numbered_at (suc old.count) next)) (sym at)
      ∙ ap (λ n. then_read (one (n, (place, x))) (numbered_at (suc old.count) next)) (sym is_number)
      ∙ ap (λ n. then_read (one (number, (place, x))) (numbered_at n next)) (sym is_count);
}

pub rows_end : (files : Objects) (file : Listing) (old new : OpenList) (now : OpenFile) → old.row ≡ None
    → ReadsNext list_row files (listing file) old.reader now (Ok None) → ReadsRow files file old new (Ok false)
rows_end files file old new now none reads = record {
  fits = tt;
  leaves = λ plain allows. row_waits_not plain (listing file) old none
      ∙ ap (numbered_at old.count) (reads.leaves plain allows) ∙ numbered_none old.count;
}

refuses_numbered : {A : Type 0} (n : ℕ) (files : Objects) (f : Listed) (c : Cause) (left : Trace A) → Refuses files f c left → Refuses files f c (numbered_at n left)
refuses_numbered n files f c left (inl unshown) = inl unshown
refuses_numbered n files f c left (inr (e, stops, told)) = inr (e, ap (numbered_at n) stops ∙ numbered_stopped n f e, told)

pub row_refused : (files : Objects) (file : Listing) (old : OpenList) (now : OpenFile) (t : Trouble) (e : TreeFault) → old.row ≡ None
    → IsAt file.path t e → now.records ≡ old.reader.records → ReadsNext list_row files (listing file) old.reader now (Err t)
    → ReadsRow files file old (record { reader = now; count = old.count; row = old.row }) (Err e)
row_refused files file old now t e none is same reads = record {
  fits = reads.fits;
  leaves = λ plain allows. (
    ap (λ r. then_read (waiting (option_map placed_row old.row)) (numbered_at old.count (records_left list_row plain (listing file) r))) (sym same),
    refuses_at files (listing file) file.path (rows_left plain (listing file) old) t e refl is
        (λ c told. subst (Refuses files (listing file) c) (sym (row_waits_not plain (listing file) old none))
        (refuses_numbered old.count files (listing file) c (records_left list_row plain (listing file) old.reader.records)
        (cause_left list_row files plain (listing file) old.reader.records now.records t (reads.leaves plain allows) c told))),
  );
}

pub row_stays : (files : Objects) (file : Listing) (l : OpenList) → FitsRows files file l → ReadsRow files file l l (Err fault.NoMemory)
row_stays files file l fits = record { fits = fits; leaves = λ plain allows. (refl, tt) }

-- ---- entering a row

-- without the row that waits
abbrev pub without : OpenList → OpenList
without l = record { reader = l.reader; count = l.count; row = None }

row_first : (columns : Columns) (plain : Plaintexts) (location : List ℕ) (f : Listed) (l : OpenList) (r : PlacedRow) → l.row ≡ Some r
    → list_left columns plain location f l ≡ then_read (below_row location (contents_of columns plain) f (r.number, (r.place, r.row)))
    (list_left columns plain location f (without l))
unfolding list_left
row_first columns plain location f l r is =
    ap (λ o. through (below_row location (contents_of columns plain) f) (then_read (waiting (option_map placed_row o)) (numbered_at l.count (records_left list_row plain f l.reader.records)))) is
    ∙ through_one (below_row location (contents_of columns plain) f) (r.number, (r.place, r.row)) (numbered_at l.count (records_left list_row plain f l.reader.records))

passed_adds : (columns : Columns) (plain : Plaintexts) (location : List ℕ) (f : Listed) (r : PlacedRow) → is_passed r.row ≡ true
    → below_row location (contents_of columns plain) f (r.number, (r.place, r.row)) ≡ whole []
passed_adds columns plain location f r is = rw is refl

counted_adds : (columns : Columns) (plain : Plaintexts) (location : List ℕ) (f : Listed) (r : PlacedRow) → is_passed r.row ≡ false
    → below_row location (contents_of columns plain) f (r.number, (r.place, r.row))
    ≡ below_manifest location (contents_of columns plain) f r.number (manifest_of location r.place r.row)
counted_adds columns plain location f r is = rw is refl

-- the row's manifest comes first
row_opens : (columns : Columns) (plain : Plaintexts) (location : List ℕ) (f : Listed) (l : OpenList) (r : PlacedRow) (g : Listing) → l.row ≡ Some r
    → is_passed r.row ≡ false → Lists (Ok g) (manifest_of location r.place r.row)
    → list_left columns plain location f l ≡ then_read (one (tree.manifest (listing g)))
    (then_read (through (below_entry location (listing g) r.number) (read_plain (records_of entry_of) (listing g) (plain (listing g))))
    (list_left columns plain location f (without l)))
row_opens columns plain location f l r g is counts lists =
    row_first columns plain location f l r is
    ∙ ap (λ t. then_read t (list_left columns plain location f (without l)))
    (counted_adds columns plain location f r counts ∙ ap (below_manifest location (contents_of columns plain) f r.number) lists)
    ∙ then_assoc (one (tree.manifest (listing g)))
    (through (below_entry location (listing g) r.number) (read_plain (records_of entry_of) (listing g) (plain (listing g))))
    (list_left columns plain location f (without l))

pub row_passed : (location : List ℕ) (file : Listing) (l : OpenList) (r : PlacedRow) → l.row ≡ Some r → is_passed r.row ≡ true
    → SameRows location file l (without l)
row_passed location file l r is passed columns plain = row_first columns plain location (listing file) l r is
    ∙ ap (λ t. then_read t (list_left columns plain location (listing file) (without l))) (passed_adds columns plain location (listing file) r passed)

pub row_stops : (files : Objects) (location : List ℕ) (file : Listing) (l : OpenList) (r : PlacedRow) (t : Trouble) (e : TreeFault) → l.row ≡ Some r
    → is_passed r.row ≡ false → Lists (Err t) (manifest_of location r.place r.row) → IsAt file.path t e → RefusesRow files location file l e
row_stops files location file l r trouble.NoMemory e is counts lists at = subst (RefusesRow files location file l) (sym at) tt
row_stops files location file l r trouble.Store e is counts lists at = absurd lists
row_stops files location file l r (trouble.Cause c) e is counts lists (inr at) = subst (RefusesRow files location file l) (sym at) tt
row_stops files location file l r (trouble.Cause c) e is counts lists (inl at) =
    let w = refused_is (manifest_of location r.place r.row) c lists in
    subst (RefusesRow files location file l) (sym at) (inl (
      refl,
      (
        w.0,
        w.2,
        λ columns plain.
            row_first columns plain location (listing file) l r is
            ∙ ap (λ t. then_read t (list_left columns plain location (listing file) (without l)))
            (counted_adds columns plain location (listing file) r counts
            ∙ ap (below_manifest location (contents_of columns plain) (listing file) r.number) w.1),
      ),
    ))

pub row_comes : (location : List ℕ) (file : Listing) (l : OpenList) (r : PlacedRow) (g : Listing) → l.row ≡ Some r
    → is_passed r.row ≡ false → Lists (Ok g) (manifest_of location r.place r.row)
    → (columns : Columns) (plain : Plaintexts) → ComesFirst columns plain location (listing file) l (listing g)
row_comes location file l r g is counts lists columns plain =
    (_, row_opens columns plain location (listing file) l r g is counts lists)

pub row_entered : (files : Objects) (location : List ℕ) (file : Listing) (l : OpenList) (r : PlacedRow) (g : Listing) (m : OpenManifest) → l.row ≡ Some r
    → is_passed r.row ≡ false → Lists (Ok g) (manifest_of location r.place r.row) → OpensManifest files g r.number (Ok m)
    → EntersManifest files location file l (without l) m
unfolding manifest_left
row_entered files location file l r g m is counts lists opens = record {
  fits = opens.fits;
  comes = λ columns plain. subst (λ h. ComesFirst columns plain location (listing file) l (listing h)) (sym opens.same_file)
      (row_comes location file l r g is counts lists columns plain);
  leaves = λ columns plain allows.
      let behind = list_left columns plain location (listing file) (without l) in
      let a : Allows (shown_in files (listing g)) (plain (listing g)) =
      subst (λ h. Allows (shown_in files (listing h)) (plain (listing h))) opens.same_file allows in
      let inner : read_plain (records_of entry_of) (listing g) (plain (listing g)) ≡ records_left entry_of plain (listing g) m.reader.records =
      opens.left plain a in
      row_opens columns plain location (listing file) l r g is counts lists
      ∙ ap (λ t. then_read (one (tree.manifest (listing g))) (then_read (through (below_entry location (listing g) r.number) t) behind)) inner
      ∙ ap (λ n. then_read (one (tree.manifest (listing g))) (then_read (through (below_entry location (listing g) n) (records_left entry_of plain (listing g) m.reader.records)) behind)) (sym opens.same_row)
      ∙ ap (λ h. then_read (one (tree.manifest (listing h))) (then_read (through (below_entry location (listing h) m.row) (records_left entry_of plain (listing h) m.reader.records)) behind)) (sym opens.same_file)
      ∙ ap (λ o. then_read (one (tree.manifest (listing m.file))) (then_read (through (below_entry location (listing m.file) m.row) (then_read (waiting (option_map placed_entry o)) (records_left entry_of plain (listing m.file) m.reader.records))) behind)) (sym opens.none);
}

refuses_behind : {A B : Type 0} (read : ℕ × A → Trace B) (files : Objects) (f : Listed) (c : Cause) (left : Trace (ℕ × A)) (more : Trace B)
    → Refuses files f c left → Refuses files f c (then_read (through read left) more)
refuses_behind read files f c left more (inl unshown) = inl unshown
refuses_behind read files f c left more (inr (e, stops, told)) =
    inr (e, ap (λ t. then_read (through read t) more) stops ∙ ap (λ t. then_read t more) (through_stopped read f e), told)

pub row_fails : (files : Objects) (location : List ℕ) (file : Listing) (l : OpenList) (r : PlacedRow) (g : Listing) (e : TreeFault) → l.row ≡ Some r
    → is_passed r.row ≡ false → Lists (Ok g) (manifest_of location r.place r.row) → OpensManifest files g r.number (Err e)
    → IsFileFault e → RefusesRow files location file l e
row_fails files location file l r g (fault.At path c) is counts lists opens plain_fault = inr (record {
  manifest = listing g;
  at = opens.0;
  refuses = λ columns plain. (
    _,
    row_opens columns plain location (listing file) l r g is counts lists,
    λ allows. refuses_behind (below_entry location (listing g) r.number) files (listing g) c
        (read_plain (records_of entry_of) (listing g) (plain (listing g)))
        (list_left columns plain location (listing file) (without l)) (opens.1 plain allows).1,
  );
})
row_fails files location file l r g fault.Store is counts lists opens plain_fault = tt
row_fails files location file l r g fault.NoMemory is counts lists opens plain_fault = tt
row_fails files location file l r g (fault.NoSnapshot id) is counts lists opens plain_fault = plain_fault
row_fails files location file l r g (fault.PlainList id) is counts lists opens plain_fault = plain_fault
row_fails files location file l r g (fault.Chain x) is counts lists opens plain_fault = plain_fault
row_fails files location file l r g (fault.BadList id list what) is counts lists opens plain_fault = plain_fault

-- with the row that waited
pub same_row : (location : List ℕ) (file : Listing) (l : OpenList) (o : Option PlacedRow) → l.row ≡ o
    → SameRows location file l (record { reader = l.reader; count = l.count; row = o })
unfolding list_left
same_row location file l o is columns plain =
    ap (λ r. through (below_row location (contents_of columns plain) (listing file)) (then_read (waiting (option_map placed_row r)) (numbered_at l.count (records_left list_row plain (listing file) l.reader.records)))) is

-- no row waits then
pub none_then : {Self : Type 0} (of : store.Ghosts Self) (files : Objects) (location : List ℕ) (file : Listing) (old : OpenList) (o : Option PlacedRow) (x y : Self)
    (r : Result (Option OpenManifest) TreeFault) → o ≡ None → EntersRow of files location file old (without old) x y r
    → EntersRow of files location file old (record { reader = old.reader; count = old.count; row = o }) x y r
none_then of files location file old o x y r is h =
    subst (λ (p : Option PlacedRow). EntersRow of files location file old (record { reader = old.reader; count = old.count; row = p }) x y r) (sym is) h

-- only the manifest was asked for
pub asks_told : {Self : Type 0} (of : store.Ghosts Self) (files : Objects) (path : List ℕ) (failed : Type 0) (x y : Self)
    → of.held x ≡ Some files → ReadsFile of path failed x y → AsksAt of path x y
asks_told of files path failed x y told reads = record {
  asks = if_told (of.held x) files told reads.asks;
  moves = if_told (of.held x) files told reads.moves;
}
  where
    if_told : {A P : Type 0} (o : Option A) (a : A) → o ≡ Some a → IfSome o (λ _. P) → P
    if_told None a e h = absurd (let g : ⊥ = cc in g)
    if_told (Some b) a e h = h
