-- A step of a walk, by the answer of the call that it makes.
use Rattle.std.specs.Prelude.{◌≡◌, ℕ, List, Bool, true, false, Option, Some, None, IfSome, Ok, Err}
use Rattle.std.proofs.Common.{refl, ap, subst, inl, inr}
use Rattle.icb_base.specs.Objects.{Objects}
use Rattle.icb_base.specs.declared.storage.Store as store
use Rattle.icb_table.specs.Contents.{Plaintexts}
use Rattle.icb_table.specs.Rows.{Columns}
use Rattle.icb_walk.proofs.OpenLemmas.{if_held}
use Rattle.icb_walk.proofs.RowLemmas.{asks_told}
use Rattle.icb_walk.proofs.WalkLemmas.{asks_none, asks_one, at_end, in_end, in_leaf, in_manifest_err, in_more, list_stops, needs_first, needs_manifest, over_ended, over_entered, over_nothing, over_opened, over_read, over_rows, row_stopped, rows_stop, with_manifest, with_rows}
use Rattle.icb_walk.specs.Answers.{AsksNeeded, PassedOver, StepsOn}
use Rattle.icb_walk.specs.Entries.{FitsEntries, StepsIn}
use Rattle.icb_walk.specs.Judged.{listing}
use Rattle.icb_walk.specs.Rows.{AsksRow, EntersRow, FitsRows, OpensList, ReadsRow}
use Rattle.icb_walk.specs.Steps.{ReadsFile}
use Rattle.icb_walk.specs.Walks.{FitsList, FitsStore}
use Rattle.icb_walk.specs.declared.fault.TreeFault.{TreeFault}
use Rattle.icb_walk.specs.declared.leaf.Leaf.{Leaf}
use Rattle.icb_walk.specs.declared.listing.Listing.{Listing}
use Rattle.icb_walk.specs.declared.open_list.OpenList.{OpenList}
use Rattle.icb_walk.specs.declared.open_list.Rows.{Rows}
use Rattle.icb_walk.specs.declared.open_list.Rows.TheVariants as place
use Rattle.icb_walk.specs.declared.open_manifest.Found.TheVariants as found
use Rattle.icb_walk.specs.declared.open_manifest.OpenManifest.{OpenManifest}
use Rattle.icb_walk.specs.declared.walk.Walk.{Walk}

-- ---- what fits

pub manifest_fits : (files : Objects) (w : Walk) (m : OpenManifest) → w.manifest ≡ Some m → FitsStore files w → FitsEntries files m
manifest_fits files w m is fits = if_held w.manifest m (FitsEntries files) is fits.manifest

pub rows_fit : (files : Objects) (w : Walk) (l : OpenList) → w.rows ≡ place.Open l → FitsStore files w → FitsRows files w.list l
rows_fit files w l is fits = subst (FitsList files w.list) is fits.list

none_fits : (files : Objects) (o : Option OpenManifest) → o ≡ None → IfSome o (FitsEntries files)
none_fits files None is = tt
none_fits files (Some m) is = absurd (let g : ⊥ = cc in g)

pub fits_more : (files : Objects) (w : Walk) (now : OpenManifest) → FitsStore files w → FitsEntries files now → FitsStore files (with_manifest w (Some now))
fits_more files w now fits h = record { list = fits.list; manifest = h }

pub fits_end : (files : Objects) (w : Walk) → FitsStore files w → FitsStore files (with_manifest w None)
fits_end files w fits = record { list = fits.list; manifest = tt }

pub fits_rows : (files : Objects) (w : Walk) (rows : Rows) → w.manifest ≡ None → FitsList files w.list rows → FitsStore files (with_rows w rows)
fits_rows files w rows none h = record { list = h; manifest = none_fits files w.manifest none }

pub fits_entered : (files : Objects) (w : Walk) (now : OpenList) (m : OpenManifest) → FitsRows files w.list now → FitsEntries files m
    → FitsStore files (record { location = w.location; list = w.list; rows = place.Open now; manifest = Some m })
fits_entered files w now m rows entries = record { list = rows; manifest = entries }

-- ---- in the open manifest

-- what is asked in the open manifest
manifest_asks : {Self : Type 0} (of : store.Ghosts Self) (columns : Columns) (plain : Plaintexts) (files : Objects) (w : Walk) (m : OpenManifest) (failed : Type 0) (x y : Self)
    → w.manifest ≡ Some m → of.held x ≡ Some files → FitsStore files w → ReadsFile of m.reader.stream.path failed x y
    → AsksNeeded columns plain w (of.asked x) (of.asked y) × AsksNeeded columns plain w (of.moved x) (of.moved y)
manifest_asks of columns plain files w m failed x y is told fits reads =
    let a = asks_told of files m.reader.stream.path failed x y told reads in
    let same = (manifest_fits files w m is fits).opened.same_path in
    let needs = needs_manifest columns plain w m is in (
      asks_one columns plain w m.reader.stream.path (listing m.file) (of.asked x) (of.asked y) same needs a.asks,
      asks_one columns plain w m.reader.stream.path (listing m.file) (of.moved x) (of.moved y) same needs a.moves,
    )

pub turn_more : {Self : Type 0} (of : store.Ghosts Self) (files : Objects) (w : Walk) (m now : OpenManifest) (failed : Type 0) (x y : Self)
    → w.manifest ≡ Some m → of.held x ≡ Some files → now.file ≡ m.file → StepsIn files w.location m now (Ok found.More)
    → ReadsFile of m.reader.stream.path failed x y → FitsStore files w → StepsOn of files w (with_manifest w (Some now)) x y (Ok None)
turn_more of files w m now failed x y is told same steps reads fits columns plain allows =
    let asks = manifest_asks of columns plain files w m failed x y is told fits reads in
    record {
      step = in_more columns plain w m now is same (steps.leaves plain (allows (listing m.file) (needs_manifest columns plain w m is)));
      asks = asks.0;
      moves = asks.1;
    }

pub turn_end : {Self : Type 0} (of : store.Ghosts Self) (files : Objects) (w : Walk) (m now : OpenManifest) (failed : Type 0) (x y : Self)
    → w.manifest ≡ Some m → of.held x ≡ Some files → StepsIn files w.location m now (Ok found.End)
    → ReadsFile of m.reader.stream.path failed x y → FitsStore files w → StepsOn of files w (with_manifest w None) x y (Ok None)
turn_end of files w m now failed x y is told steps reads fits columns plain allows =
    let asks = manifest_asks of columns plain files w m failed x y is told fits reads in
    record {
      step = in_end columns plain w m is (steps.leaves plain (allows (listing m.file) (needs_manifest columns plain w m is)));
      asks = asks.0;
      moves = asks.1;
    }

pub turn_leaf : {Self : Type 0} (of : store.Ghosts Self) (files : Objects) (w : Walk) (m now : OpenManifest) (leaf : Leaf) (failed : Type 0) (x y : Self)
    → w.manifest ≡ Some m → of.held x ≡ Some files → now.file ≡ m.file → StepsIn files w.location m now (Ok (found.File leaf))
    → ReadsFile of m.reader.stream.path failed x y → FitsStore files w → StepsOn of files w (with_manifest w (Some now)) x y (Ok (Some (Some leaf)))
turn_leaf of files w m now leaf failed x y is told same steps reads fits columns plain allows =
    let asks = manifest_asks of columns plain files w m failed x y is told fits reads in
    record {
      step = in_leaf columns plain w m now leaf is same (steps.leaves plain (allows (listing m.file) (needs_manifest columns plain w m is)));
      asks = asks.0;
      moves = asks.1;
    }

pub turn_err : {Self : Type 0} (of : store.Ghosts Self) (files : Objects) (w : Walk) (m now : OpenManifest) (e : TreeFault) (failed : Type 0) (x y : Self)
    → w.manifest ≡ Some m → of.held x ≡ Some files → now.file ≡ m.file → StepsIn files w.location m now (Err e)
    → ReadsFile of m.reader.stream.path failed x y → FitsStore files w → StepsOn of files w (with_manifest w (Some now)) x y (Err e)
turn_err of files w m now e failed x y is told same steps reads fits columns plain allows =
    let asks = manifest_asks of columns plain files w m failed x y is told fits reads in
    record {
      step = in_manifest_err columns plain files w m now e is same (steps.leaves plain (allows (listing m.file) (needs_manifest columns plain w m is)));
      asks = asks.0;
      moves = asks.1;
    }

-- ---- in the list

-- what is asked of the list
list_asks : {Self : Type 0} (of : store.Ghosts Self) (columns : Columns) (plain : Plaintexts) (files : Objects) (w : Walk) (path : List ℕ) (failed : Type 0) (x y : Self)
    → path ≡ (listing w.list).path → of.held x ≡ Some files → ReadsFile of path failed x y
    → AsksNeeded columns plain w (of.asked x) (of.asked y) × AsksNeeded columns plain w (of.moved x) (of.moved y)
list_asks of columns plain files w path failed x y same told reads =
    let a = asks_told of files path failed x y told reads in (
      asks_one columns plain w path (listing w.list) (of.asked x) (of.asked y) same (inl refl) a.asks,
      asks_one columns plain w path (listing w.list) (of.moved x) (of.moved y) same (inl refl) a.moves,
    )

pub turn_opened : {Self : Type 0} (of : store.Ghosts Self) (files : Objects) (w : Walk) (l : OpenList) (failed : Type 0) (x y : Self)
    → w.manifest ≡ None → w.rows ≡ place.Before → of.held x ≡ Some files → OpensList files w.list (Ok l)
    → ReadsFile of w.list.path failed x y → StepsOn of files w (with_rows w (place.Open l)) x y (Ok None)
turn_opened of files w l failed x y none is told opens reads columns plain allows =
    let asks = list_asks of columns plain files w w.list.path failed x y refl told reads in
    record {
      step = over_opened columns plain files w l none is (allows (listing w.list) (inl refl)) opens;
      asks = asks.0;
      moves = asks.1;
    }

pub turn_unopened : {Self : Type 0} (of : store.Ghosts Self) (files : Objects) (w : Walk) (e : TreeFault) (failed : Type 0) (x y : Self)
    → w.manifest ≡ None → w.rows ≡ place.Before → of.held x ≡ Some files → OpensList files w.list (Err e)
    → ReadsFile of w.list.path failed x y → StepsOn of files w w x y (Err e)
turn_unopened of files w e failed x y none is told opens reads columns plain allows =
    let asks = list_asks of columns plain files w w.list.path failed x y refl told reads in
    record {
      step = (over_nothing columns plain w, list_stops columns plain files w e none is (opens plain (allows (listing w.list) (inl refl))));
      asks = asks.0;
      moves = asks.1;
    }

pub turn_row : {Self : Type 0} (of : store.Ghosts Self) (files : Objects) (w : Walk) (l now : OpenList) (failed : Type 0) (x y : Self)
    → w.manifest ≡ None → w.rows ≡ place.Open l → of.held x ≡ Some files → FitsStore files w → ReadsRow files w.list l now (Ok true)
    → ReadsFile of l.reader.stream.path failed x y → StepsOn of files w (with_rows w (place.Open now)) x y (Ok None)
turn_row of files w l now failed x y none is told fits row reads columns plain allows =
    let asks = list_asks of columns plain files w l.reader.stream.path failed x y (rows_fit files w l is fits).opened.same_path told reads in
    record {
      step = over_read columns plain w l now none is (row.leaves plain (allows (listing w.list) (inl refl)));
      asks = asks.0;
      moves = asks.1;
    }

pub turn_behind : {Self : Type 0} (of : store.Ghosts Self) (files : Objects) (w : Walk) (l now : OpenList) (failed : Type 0) (x y : Self)
    → w.manifest ≡ None → w.rows ≡ place.Open l → of.held x ≡ Some files → FitsStore files w → ReadsRow files w.list l now (Ok false)
    → ReadsFile of l.reader.stream.path failed x y → StepsOn of files w (with_rows w place.Behind) x y (Ok None)
turn_behind of files w l now failed x y none is told fits row reads columns plain allows =
    let asks = list_asks of columns plain files w l.reader.stream.path failed x y (rows_fit files w l is fits).opened.same_path told reads in
    record {
      step = over_ended columns plain w l none is (row.leaves plain (allows (listing w.list) (inl refl)));
      asks = asks.0;
      moves = asks.1;
    }

pub turn_row_err : {Self : Type 0} (of : store.Ghosts Self) (files : Objects) (w : Walk) (l now : OpenList) (e : TreeFault) (failed : Type 0) (x y : Self)
    → w.manifest ≡ None → w.rows ≡ place.Open l → of.held x ≡ Some files → FitsStore files w → ReadsRow files w.list l now (Err e)
    → ReadsFile of l.reader.stream.path failed x y → StepsOn of files w (with_rows w (place.Open now)) x y (Err e)
turn_row_err of files w l now e failed x y none is told fits row reads columns plain allows =
    let asks = list_asks of columns plain files w l.reader.stream.path failed x y (rows_fit files w l is fits).opened.same_path told reads in
    let leaves = row.leaves plain (allows (listing w.list) (inl refl)) in
    record {
      step = (over_read columns plain w l now none is leaves.0, rows_stop columns plain files w l e none is leaves.1);
      asks = asks.0;
      moves = asks.1;
    }

-- what is asked where a row is entered
row_asks : {Self : Type 0} (of : store.Ghosts Self) (columns : Columns) (plain : Plaintexts) (w : Walk) (l : OpenList) (x y : Self)
    → w.manifest ≡ None → w.rows ≡ place.Open l → AsksRow of w.location w.list l x y
    → AsksNeeded columns plain w (of.asked x) (of.asked y) × AsksNeeded columns plain w (of.moved x) (of.moved y)
row_asks of columns plain w l x y none is (inl same) =
    (asks_none columns plain w (of.asked x) (of.asked y) (ap of.asked same), asks_none columns plain w (of.moved x) (of.moved y) (ap of.moved same))
row_asks of columns plain w l x y none is (inr (g, comes, a)) =
    let needs = needs_first columns plain w l g none is (comes columns plain) in
    (asks_one columns plain w g.path g (of.asked x) (of.asked y) refl needs a.asks, asks_one columns plain w g.path g (of.moved x) (of.moved y) refl needs a.moves)

pub turn_passed : {Self : Type 0} (of : store.Ghosts Self) (files : Objects) (w : Walk) (l now : OpenList) (x y : Self)
    → w.manifest ≡ None → w.rows ≡ place.Open l → EntersRow of files w.location w.list l now x y (Ok None)
    → StepsOn of files w (record { location = w.location; list = w.list; rows = place.Open now; manifest = None }) x y (Ok None)
turn_passed of files w l now x y none is enters columns plain allows =
    let asks = row_asks of columns plain w l x y none is enters.asks in
    record {
      step = subst (λ o. PassedOver columns plain w (record { location = w.location; list = w.list; rows = place.Open now; manifest = o })) none
          (over_rows columns plain w l now none is (enters.answers columns plain));
      asks = asks.0;
      moves = asks.1;
    }

pub turn_entered : {Self : Type 0} (of : store.Ghosts Self) (files : Objects) (w : Walk) (l now : OpenList) (m : OpenManifest) (x y : Self)
    → w.manifest ≡ None → w.rows ≡ place.Open l → EntersRow of files w.location w.list l now x y (Ok (Some m))
    → StepsOn of files w (record { location = w.location; list = w.list; rows = place.Open now; manifest = Some m }) x y (Ok None)
turn_entered of files w l now m x y none is enters columns plain allows =
    let asks = row_asks of columns plain w l x y none is enters.asks in
    record {
      step = over_entered columns plain files w l now m none is allows enters.answers;
      asks = asks.0;
      moves = asks.1;
    }

pub turn_enter : {Self : Type 0} (of : store.Ghosts Self) (files : Objects) (w : Walk) (l now : OpenList) (o : Option OpenManifest) (x y : Self)
    → w.manifest ≡ None → w.rows ≡ place.Open l → EntersRow of files w.location w.list l now x y (Ok o)
    → StepsOn of files w (record { location = w.location; list = w.list; rows = place.Open now; manifest = o }) x y (Ok None)
turn_enter of files w l now None x y none is enters = turn_passed of files w l now x y none is enters
turn_enter of files w l now (Some m) x y none is enters = turn_entered of files w l now m x y none is enters

pub fits_enter : {Self : Type 0} (of : store.Ghosts Self) (files : Objects) (w : Walk) (l now : OpenList) (o : Option OpenManifest) (x y : Self)
    → EntersRow of files w.location w.list l now x y (Ok o) → FitsStore files (record { location = w.location; list = w.list; rows = place.Open now; manifest = o })
fits_enter of files w l now None x y enters = record { list = enters.fits; manifest = tt }
fits_enter of files w l now (Some m) x y enters = record { list = enters.fits; manifest = enters.answers.fits }

pub turn_enter_err : {Self : Type 0} (of : store.Ghosts Self) (files : Objects) (w : Walk) (l now : OpenList) (e : TreeFault) (x y : Self)
    → w.manifest ≡ None → w.rows ≡ place.Open l → EntersRow of files w.location w.list l now x y (Err e)
    → StepsOn of files w (with_rows w (place.Open now)) x y (Err e)
turn_enter_err of files w l now e x y none is enters columns plain allows =
    let asks = row_asks of columns plain w l x y none is enters.asks in
    record {
      step = (over_rows columns plain w l now none is (enters.answers.0 columns plain), row_stopped columns plain files w l e none is allows enters.answers.1);
      asks = asks.0;
      moves = asks.1;
    }

pub turn_at_end : {Self : Type 0} (of : store.Ghosts Self) (files : Objects) (w : Walk) (x : Self)
    → w.manifest ≡ None → w.rows ≡ place.Behind → StepsOn of files w w x x (Ok (Some None))
turn_at_end of files w x none is columns plain allows = record {
  step = at_end columns plain w none is;
  asks = asks_none columns plain w (of.asked x) (of.asked x) refl;
  moves = asks_none columns plain w (of.moved x) (of.moved x) refl;
}

-- the same answer
pub row_is : (files : Objects) (file : Listing) (old new : OpenList) (b d : Bool) → b ≡ d → ReadsRow files file old new (Ok b) → ReadsRow files file old new (Ok d)
row_is files file old new b d is h = subst (λ (x : Bool). ReadsRow files file old new (Ok x)) is h
