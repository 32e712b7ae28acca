-- Where a walk stands: what is left to it, which files it needs next, and when it belongs to what a
-- store holds.
use Rattle.std.specs.Prelude.{ℕ, ◌≡◌, ◌⊎◌, List, [], ◌∷◌, Option, Some, None, IfSome}
use Rattle.icb_base.specs.Objects.{Objects}
use Rattle.icb_table.specs.Contents.{Plaintexts, contents_of}
use Rattle.icb_table.specs.Known.{Allows, shown_in}
use Rattle.icb_table.specs.Listed.{Listed}
use Rattle.icb_table.specs.Rows.{Columns}
use Rattle.icb_table.specs.Trace.{Trace, then_read, whole}
use Rattle.icb_table.specs.Tree.{TreeFile, tree_below}
use Rattle.icb_table.specs.Tree as tree
use Rattle.icb_walk.specs.Entries.{FitsEntries, manifest_left}
use Rattle.icb_walk.specs.Judged.{listing}
use Rattle.icb_walk.specs.Rows.{FitsRows, list_left}
use Rattle.icb_walk.specs.declared.listing.Listing.{Listing}
use Rattle.icb_walk.specs.declared.open_list.Rows.{Rows}
use Rattle.icb_walk.specs.declared.open_list.Rows.TheVariants as place
use Rattle.icb_walk.specs.declared.open_manifest.OpenManifest.{OpenManifest}
use Rattle.icb_walk.specs.declared.walk.Walk.{Walk}

-- ---- what is left

-- what is left of the open manifest, where one is open
abbrev pub left_in_manifest : Plaintexts → List ℕ → Option OpenManifest → Trace TreeFile
left_in_manifest plain location None = whole []
left_in_manifest plain location (Some m) = manifest_left location plain m

-- what is left below the list
abbrev pub left_in_list : Columns → Plaintexts → List ℕ → Listing → Rows → Trace TreeFile
left_in_list columns plain location list place.Before =
    tree_below location (contents_of columns plain) (listing list)
left_in_list columns plain location list (place.Open l) =
    list_left columns plain location (listing list) l
left_in_list columns plain location list place.Behind = whole []

-- the files that a walk hasn't passed yet, of all below its list
unfoldable pub left : Columns → Plaintexts → Walk → Trace TreeFile
left columns plain w = then_read (left_in_manifest plain w.location w.manifest)
    (left_in_list columns plain w.location w.list w.rows)

-- ---- which files are needed

-- a file is among the lists and manifests before the first data file
abbrev pub IsAhead : Listed → List TreeFile → Type 0
IsAhead f [] = ⊥
IsAhead f (tree.list g ∷ files) = (f ≡ g) ⊎ IsAhead f files
IsAhead f (tree.manifest g ∷ files) = (f ≡ g) ⊎ IsAhead f files
IsAhead f (tree.data_file g ∷ files) = ⊥

-- a file is the open manifest
abbrev pub IsOpenManifest : Listed → Option OpenManifest → Type 0
IsOpenManifest f None = ⊥
IsOpenManifest f (Some m) = f ≡ listing m.file

-- a walk needs a file to find its next data file: its list, the manifest that it has open, or a
-- file that comes before the next data file
abbrev pub Needs : Columns → Plaintexts → Walk → Listed → Type 0
Needs columns plain w f = (f ≡ listing w.list) ⊎ (IsOpenManifest f w.manifest
    ⊎ IsAhead f (left columns plain w).items)

-- the objects of a store allow the plaintexts of all files that a walk needs
abbrev pub AllowsNext : Columns → Plaintexts → Objects → Walk → Type 0
AllowsNext columns plain files w =
    (f : Listed) → Needs columns plain w f → Allows (shown_in files f) (plain f)

-- ---- what a store holds

-- the open list belongs to what a store holds
abbrev pub FitsList : Objects → Listing → Rows → Type 0
FitsList files list place.Before = Unit {0}
FitsList files list (place.Open l) = FitsRows files list l
FitsList files list place.Behind = Unit {0}

-- a walk belongs to what a store holds: so do the list and the manifest that it has open
pub record FitsStore (files : Objects) (w : Walk) : Type 0 where
  pub list : FitsList files w.list w.rows
  pub manifest : IfSome w.manifest (FitsEntries files)
