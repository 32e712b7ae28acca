-- Which files of a tree a query visits: those that its bounds don't exclude (Apache Iceberg Table
-- Spec, "Scan Planning"), up to the data file with the last row that is chosen.
use Rattle.std.specs.Prelude.{ℕ, zero, suc, ◌+◌, ◌-◌, ℤ, List, [], ◌∷◌, length, filter, Bool, true}
use Rattle.std.specs.Prelude.{bytes_eq, if◌then◌else◌, Option, Some, None}
use Rattle.std.specs.List.{flat_map}
use Rattle.std.specs.Ordering.{int_eq}
use Rattle.icb_rows.specs.Ranges.{may_hold}
use Rattle.icb_rows.specs.Records.{Row}
use Rattle.icb_manifest.specs.declared.file.DataFile.{DataFile}
use Rattle.icb_table.specs.Selection.{ColumnRange, Selection, is_within}
use Rattle.icb_table.specs.Tree.{Contents, TreeFile, listed_as, rows_in}
use Rattle.icb_table.specs.Tree as tree

-- the bound of a column: the first with its id
unfoldable pub bound_of : ℤ → List (ℤ × List ℕ) → Option (List ℕ)
bound_of id [] = None
bound_of id (bound ∷ bounds) = if int_eq bound.0 id then Some bound.1 else bound_of id bounds

-- the bounds of a data file leave it open whether it has a row in the range
abbrev pub may_match : Option ColumnRange → DataFile → Bool
may_match None file = true
may_match (Some r) file =
    may_hold r.range (bound_of r.id file.lower) (bound_of r.id file.upper)

-- the bounds don't exclude a file; lists and manifests have none
abbrev pub is_open : Option ColumnRange → TreeFile → Bool
is_open range (tree.list f) = true
is_open range (tree.manifest f) = true
is_open range (tree.data_file f) = may_match range f.file

-- how many rows in the range a file of a tree has
abbrev pub matches_in : Contents → Option ColumnRange → TreeFile → ℕ
matches_in contents range file = length (filter (is_within range) (rows_in contents file).items)

-- the files up to the one with the last of so many rows that match
unfoldable pub up_to : (TreeFile → ℕ) → ℕ → List TreeFile → List TreeFile
up_to matches zero files = []
up_to matches (suc n) [] = []
up_to matches (suc n) (file ∷ files) = file ∷ up_to matches (suc n - matches file) files

-- the files that are read for at most so many rows behind those that are left out
abbrev pub files_for : (TreeFile → ℕ) → ℕ → Option ℕ → List TreeFile → List TreeFile
files_for matches skip None files = files
files_for matches skip (Some zero) files = []
files_for matches skip (Some (suc n)) files = up_to matches (skip + suc n) files

-- the files of a tree that a query visits
abbrev pub visited : Contents → Selection → List TreeFile → List TreeFile
visited contents s files = files_for (matches_in contents s.range) s.skip s.most
    (filter (is_open s.range) files)

-- the files before the first one at a path; all of them where none is there
unfoldable pub before_path : List ℕ → List TreeFile → List TreeFile
before_path path [] = []
before_path path (file ∷ files) = if bytes_eq (listed_as file).path path then []
    else file ∷ before_path path files

-- the rows of files, one file after another
abbrev pub rows_of_files : Contents → List TreeFile → List Row
rows_of_files contents files = flat_map (λ file. (rows_in contents file).items) files
