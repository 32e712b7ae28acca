-- What a walk keeps when the store grows, and what is left to one that has opened nothing.
use Rattle.std.specs.Prelude.{◌≡◌, ℕ, List, [], Option, Some, None, IfSome, Result, Ok, Err}
use Rattle.std.proofs.Common.{refl, ap, sym, subst, ◌∙◌}
use Rattle.icb_base.specs.Objects.{Grows, Objects, object_at}
use Rattle.icb_reader.specs.declared.records.Records.{Records}
use Rattle.icb_stream.specs.Belongs.{StreamValue}
use Rattle.icb_stream.specs.Layout.{Layout}
use Rattle.icb_stream.specs.declared.fault.StreamFault.{StreamFault}
use Rattle.icb_table.proofs.KnownLemmas.{grown_seen}
use Rattle.icb_table.specs.Contents.{contents_of, of_object, opening_in}
use Rattle.icb_table.specs.Listed.{Listed}
use Rattle.icb_table.specs.Trace.{then_read, whole}
use Rattle.icb_table.specs.Tree.{tree_below}
use Rattle.icb_walk.specs.Entries.{FitsEntries}
use Rattle.icb_walk.specs.Fits.{FitsOpen}
use Rattle.icb_walk.specs.Judged.{listing}
use Rattle.icb_walk.specs.Laws.{FitsWhenGrown, UnopenedFits, UnopenedHasAll}
use Rattle.icb_walk.specs.Start.{StandsBefore}
use Rattle.icb_walk.specs.Walks.{FitsList, left, left_in_list, left_in_manifest}
use Rattle.icb_walk.specs.declared.listing.Listing.{Listing}
use Rattle.icb_walk.specs.declared.open_list.Rows.{Rows}
use Rattle.icb_walk.specs.declared.open_list.Rows.TheVariants as place
use Rattle.icb_walk.specs.declared.open_manifest.OpenManifest.{OpenManifest}
use Rattle.icb_walk.specs.declared.walk.Walk.{Walk}

-- ---- growth

-- how an object is read
abbrev layout_seen : List ℕ → Layout → Option Layout
layout_seen bytes layout = Some layout

was_seen : (object : Option (List ℕ)) (bytes : List ℕ) (r : Result Layout StreamFault) (layout : Layout) → object ≡ Some bytes → r ≡ Ok layout
    → of_object layout_seen object r ≡ Some layout
was_seen object bytes r layout held is = rw (held, is) refl

is_seen : (object : Option (List ℕ)) (r : Result Layout StreamFault) (layout : Layout) → of_object layout_seen object r ≡ Some layout → r ≡ Ok layout
is_seen None r layout e = absurd (let g : ⊥ = cc in g)
is_seen (Some bytes) (Err f) layout e = absurd (let g : ⊥ = cc in g)
is_seen (Some bytes) (Ok l) layout e = let same : l ≡ layout = cc in ap (λ x. Ok x) same

pub open_grown : (f : Listed) (stream : StreamValue) (records : Records) (before now : Objects) → Grows before now
    → FitsOpen before f stream records → FitsOpen now f stream records
open_grown f stream records before now grows fits =
    let o = fits.opened in
    let b = o.belongs in
    let held : object_at before f.path ≡ Some b.object = ap (object_at before) (sym o.same_path) ∙ b.held in
    record {
      opened = record {
        opening = is_seen (object_at now f.path) (opening_in now f) stream.layout
            (grown_seen layout_seen before now f stream.layout grows
            (was_seen (object_at before f.path) b.object (opening_in before f) stream.layout held o.opening));
        same_path = o.same_path;
        belongs = record {
          object = b.object;
          held = grows.stays stream.path b.object b.held;
          is_open = b.is_open;
          keeps = b.keeps;
        };
      };
      reached = fits.reached;
    }

list_grown : (list : Listing) (rows : Rows) (before now : Objects) → Grows before now → FitsList before list rows → FitsList now list rows
list_grown list place.Before before now grows fits = tt
list_grown list (place.Open l) before now grows fits = open_grown (listing list) l.reader.stream l.reader.records before now grows fits
list_grown list place.Behind before now grows fits = tt

manifest_grown : (o : Option OpenManifest) (before now : Objects) → Grows before now → IfSome o (FitsEntries before) → IfSome o (FitsEntries now)
manifest_grown None before now grows fits = tt
manifest_grown (Some m) before now grows fits = open_grown (listing m.file) m.reader.stream m.reader.records before now grows fits

pub fits_when_grown : FitsWhenGrown
fits_when_grown w before now grows fits = record {
  list = list_grown w.list w.rows before now grows fits.list;
  manifest = manifest_grown w.manifest before now grows fits.manifest;
}

-- ---- nothing opened

before_fits : (files : Objects) (list : Listing) (rows : Rows) → rows ≡ place.Before → FitsList files list rows
before_fits files list rows is = subst (FitsList files list) (sym is) tt

none_fits : (files : Objects) (o : Option OpenManifest) → o ≡ None → IfSome o (FitsEntries files)
none_fits files o is = subst (λ p. IfSome p (FitsEntries files)) (sym is) tt

pub unopened_fits : UnopenedFits
unopened_fits location f w files stands = record {
  list = before_fits files w.list w.rows stands.unopened;
  manifest = none_fits files w.manifest stands.none_open;
}

pub unopened_has_all : UnopenedHasAll
unfolding left
unopened_has_all location f w columns plain stands =
    let none : left_in_manifest plain w.location w.manifest ≡ whole [] =
    ap (left_in_manifest plain w.location) stands.none_open in
    ap (λ t. then_read t (left_in_list columns plain w.location w.list w.rows)) none
    ∙ ap (left_in_list columns plain w.location w.list) stands.unopened
    ∙ ap (λ l. tree_below l (contents_of columns plain) (listing w.list)) stands.same_location
    ∙ ap (tree_below location (contents_of columns plain)) (listed_by_ok f w stands)
  where
    listed_by_ok : (f : Listed) (w : Walk) → StandsBefore location (Ok f) w → listing w.list ≡ f
    listed_by_ok f w s = let e = s.is_list in cc
