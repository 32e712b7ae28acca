-- What a scan below a list answers, for each choice of plaintexts that the store allows of the
-- files that are visited.
use Rattle.std.specs.Prelude.{◌≡◌, ◌≢◌, ◌⊎◌, ℕ, ◌-◌, ◌^◌, ◌<◌, ◌≤◌, List, [], ◌∷◌, ◌++◌}
use Rattle.std.specs.Prelude.{length, map, filter}
use Rattle.std.specs.Prelude.{Option, Some, None, IfSome, Result, Ok, Err}
use Rattle.std.specs.List.{Contains, flat_map}
use Rattle.icb_base.specs.Calls.{WritesText}
use Rattle.icb_base.specs.Objects.{Objects}
use Rattle.icb_base.specs.declared.storage.Store as store
use Rattle.icb_base.specs.declared.transfer.Sink as sink
use Rattle.icb_rows.specs.Records.{Row}
use Rattle.icb_stream.specs.declared.fault.StreamFault.{StreamFault}
use Rattle.icb_table.specs.Contents.{Plaintexts, contents_of}
use Rattle.icb_table.specs.Differing.{Differs}
use Rattle.icb_table.specs.Known.{AllowsAt}
use Rattle.icb_table.specs.Listed.{Listed}
use Rattle.icb_table.specs.Rows.{Columns}
use Rattle.icb_table.specs.Selection.{Selection, chosen, line_of}
use Rattle.icb_table.specs.Trace.{Trace, through}
use Rattle.icb_table.specs.Tree.{Contents, TreeFile, listed_as, rows_in, tree_below}
use Rattle.icb_table.specs.Visited.{before_path, is_open, rows_of_files, visited}
use Rattle.icb_table.specs.Why.{Why}
use Rattle.icb_walk.specs.Causes.{cause_of, stream_cause}
use Rattle.icb_walk.specs.Fits.{IsUnshown}
use Rattle.icb_walk.specs.declared.fault.Cause.{Cause}
use Rattle.icb_walk.specs.declared.fault.TreeFault.{TreeFault}
use Rattle.icb_walk.specs.declared.fault.TreeFault.TheVariants as tree
use Rattle.icb_scan.specs.Leaves.{IsSink}
use Rattle.icb_scan.specs.declared.fault.ScanFault.{ScanFault}
use Rattle.icb_scan.specs.declared.fault.ScanFault.TheVariants as fault

-- ---- what is read

-- the rows of files, in order, without those of files that the bounds exclude
abbrev pub rows_read : Contents → Selection → Trace TreeFile → Trace Row
rows_read contents s files = through (rows_in contents)
    (record { items = filter (is_open s.range) files.items; stop = files.stop })

-- ---- why it is refused

-- the rows stop for the cause that is told of a file's path, and all that are chosen were shown
pub record StopsAt (rows : Trace Row) (unshown : List Row) (path : List ℕ) (c : Cause)
    : Type 0 where
  pub file : Listed
  pub why : Why
  pub stops : rows.stop ≡ Some (record { file = file; why = why })
  pub told : cause_of why ≡ Some c
  pub at : path ≡ file.path
  pub none_left : unshown ≡ []

-- a file that is visited isn't shown, for the cause that is told of its path; all chosen rows of
-- the files before the first one at that path were shown
pub record UnshownAt (contents : Contents) (files : Objects) (s : Selection)
    (visits : List TreeFile) (shown : List Row) (path : List ℕ) (c : Cause) : Type 0 where
  pub file : Listed
  pub is_visited : Contains (map listed_as visits) file
  pub unshown : IsUnshown files file c
  pub at : path ≡ file.path
  pub more : List Row
  pub has_before : shown
      ≡ chosen s (rows_of_files contents (before_path path visits)) ++ more

-- fewer rows were shown than are asked for
abbrev pub AreFewer : Option ℕ → List Row → Type 0
AreFewer most shown = IfSome most (λ n. length shown < n)

-- why the rows aren't all shown; a file is named only where further rows are asked for
abbrev pub IsRefused : Contents → Objects → Selection → List TreeFile → Trace Row → List Row
    → List Row → TreeFault → Type 0
IsRefused contents files s visits rows shown unshown (tree.At path c) =
    AreFewer s.most shown
    × (StopsAt rows unshown path c ⊎ UnshownAt contents files s visits shown path c)
IsRefused contents files s visits rows shown unshown tree.Store = Unit {0}
IsRefused contents files s visits rows shown unshown e = ⊥

-- ---- what is answered

-- all chosen rows were shown, and they are as many as are asked for, or there are no more; the
-- number of them is answered
pub record ShowsAll (s : Selection) (rows : Trace Row) (shown unshown : List Row) (n : ℕ)
    : Type 0 where
  pub none_left : unshown ≡ []
  pub ends : (s.most ≡ Some (length shown)) ⊎ (rows.stop ≡ None)
  pub number : length shown < 2 ^ 64 → n ≡ length shown

-- all chosen rows were shown, or why not
abbrev pub IsAnswer : Contents → Objects → Selection → List TreeFile → Trace Row → List Row
    → List Row → Result ℕ ScanFault → Type 0
IsAnswer contents files s visits rows shown unshown (Ok n) = ShowsAll s rows shown unshown n
IsAnswer contents files s visits rows shown unshown (Err (fault.Tree e)) =
    IsRefused contents files s visits rows shown unshown e
IsAnswer contents files s visits rows shown unshown (Err fault.Sink) = Unit {0}
IsAnswer contents files s visits rows shown unshown (Err fault.NoMemory) = Unit {0}
IsAnswer contents files s visits rows shown unshown (Err e) = ⊥

-- only files that are visited were asked for
abbrev pub AsksVisited : List TreeFile → (List ℕ → ℕ) → (List ℕ → ℕ) → Type 0
AsksVisited visits before now = (path : List ℕ)
    → ((f : Listed) → Contains (map listed_as visits) f → path ≢ f.path) → now path ≡ before path

-- a front of the chosen rows of files was shown, a line for each
pub record Shows {Self Out : Type 0} (of : store.Ghosts Self) (out : sink.Ghosts Out)
    (contents : Contents) (files : Objects) (s : Selection) (tree : Trace TreeFile) (x y : Self)
    (before after : Out) (result : Result ℕ ScanFault) : Type 0 where
  pub shown : List Row
  pub unshown : List Row
  pub are_chosen : chosen s (rows_read contents s tree).items ≡ shown ++ unshown
  pub writes : WritesText out (flat_map (line_of s.columns) shown) (IsSink result) before after
  pub answer : IsAnswer contents files s (visited contents s tree.items)
      (rows_read contents s tree) shown unshown result
  pub asks : AsksVisited (visited contents s tree.items) (of.asked x) (of.asked y)
  pub moves : AsksVisited (visited contents s tree.items) (of.moved x) (of.moved y)

-- the rows of none of these files stop among the first so many of all
unfoldable pub HaveFirst : Contents → ℕ → List TreeFile → Type 0
HaveFirst contents n [] = Unit {0}
HaveFirst contents n (file ∷ files) =
    (((rows_in contents file).stop ≡ None) ⊎ (n ≤ length (rows_in contents file).items))
    × HaveFirst contents (n - length (rows_in contents file).items) files

-- where no range is asked, the rows of no visited file stop among those that are left out
abbrev pub HaveLeftOut : Contents → Selection → List TreeFile → Type 0
HaveLeftOut contents s visits = s.range ≡ None → HaveFirst contents s.skip visits

-- so it is below a list, for each choice of plaintexts that the store allows of the visited files,
-- in which the rows that are left out are there
abbrev pub ShowsBelow : {Self Out : Type 0} → store.Ghosts Self → sink.Ghosts Out → Objects
    → Columns → List ℕ → Selection → Listed → Self → Self → Out → Out → Result ℕ ScanFault → Type 0
ShowsBelow of out files columns location s list x y before after result = (plain : Plaintexts)
    → AllowsAt (map listed_as (visited (contents_of columns plain) s
    (tree_below location (contents_of columns plain) list).items)) files plain
    → HaveLeftOut (contents_of columns plain) s (visited (contents_of columns plain) s
    (tree_below location (contents_of columns plain) list).items)
    → Shows of out (contents_of columns plain) files s
    (tree_below location (contents_of columns plain) list) x y before after result

-- ---- what is answered of a table's rows

-- all chosen rows of a snapshot were shown, and their number is answered; or a file that is visited
-- isn't shown, and the chosen rows of the files before were, and fewer than are asked for; or the
-- store or the sink failed
abbrev pub IsTableAnswer : Contents → Objects → Selection → List TreeFile → List Row → List Row
    → Result ℕ ScanFault → Type 0
IsTableAnswer contents files s visits shown unshown (Ok n) =
    (unshown ≡ []) × (length shown < 2 ^ 64 → n ≡ length shown)
IsTableAnswer contents files s visits shown unshown (Err (fault.Tree (tree.At path c))) =
    AreFewer s.most shown × UnshownAt contents files s visits shown path c
IsTableAnswer contents files s visits shown unshown (Err (fault.Tree tree.Store)) = Unit {0}
IsTableAnswer contents files s visits shown unshown (Err fault.Sink) = Unit {0}
IsTableAnswer contents files s visits shown unshown (Err fault.NoMemory) = Unit {0}
IsTableAnswer contents files s visits shown unshown (Err e) = ⊥

-- a front of the chosen rows of a snapshot was shown, a line for each
pub record ShowsRows {Self Out : Type 0} (of : store.Ghosts Self) (out : sink.Ghosts Out)
    (contents : Contents) (files : Objects) (s : Selection) (visits : List TreeFile)
    (rows : List Row) (x y : Self) (before after : Out) (result : Result ℕ ScanFault)
    : Type 0 where
  pub shown : List Row
  pub unshown : List Row
  pub are_chosen : chosen s rows ≡ shown ++ unshown
  pub writes : WritesText out (flat_map (line_of s.columns) shown) (IsSink result) before after
  pub answer : IsTableAnswer contents files s visits shown unshown result
  pub asks : AsksVisited visits (of.asked x) (of.asked y)
  pub moves : AsksVisited visits (of.moved x) (of.moved y)

-- a refusal of a path is that of a visited file there, and says where that differs in the store
-- from the objects that hold the table
pub record ChangedAt (committed found : Objects) (visits : List TreeFile) (path : List ℕ)
    (c : Cause) : Type 0 where
  pub file : Listed
  pub is_visited : Contains (map listed_as visits) file
  pub at : path ≡ file.path
  pub fault : StreamFault
  pub told : stream_cause fault ≡ Some c
  pub differs : Differs committed found file fault

-- so it is where a file is refused
abbrev pub NamesChange : Objects → Objects → List TreeFile → Result ℕ ScanFault → Type 0
NamesChange committed found visits (Err (fault.Tree (tree.At path c))) =
    ChangedAt committed found visits path c
NamesChange committed found visits result = Unit {0}
