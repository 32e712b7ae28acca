-- The plaintexts of a snapshot's files are allowed by the objects that hold them.
use Rattle.std.specs.Prelude.{◌≡◌, ℕ, Bool, true, false, List, [], ◌∷◌, ◌++◌, map, Option, Some, None, Result, Ok, Err, if◌then◌else◌}
use Rattle.std.specs.List.{AllByRecursion}
use Rattle.std.proofs.Common.{refl, ap, subst}
use Rattle.icb_base.specs.Objects.{Objects}
use Rattle.icb_list.specs.Rows.{list_row}
use Rattle.icb_table.specs.Contents.{contents_of, plaintexts_in, read_plain}
use Rattle.icb_manifest.specs.declared.file.DataFile.{DataFile}
use Rattle.icb_manifest.specs.declared.entry.Entry.{Entry}
use Rattle.icb_manifest.specs.Entries.{entry_of}
use Rattle.icb_table.specs.Known.{Allows, AllowsAt, shown_in}
use Rattle.icb_table.specs.Laws.{TableIsAllowed}
use Rattle.icb_table.specs.Listed.{Listed}
use Rattle.icb_table.specs.Records.{records_of}
use Rattle.icb_table.specs.Rows.{Columns, rows_of}
use Rattle.icb_table.specs.Snapshots.{columns_of}
use Rattle.icb_table.specs.Table.{contents_in}
use Rattle.icb_table.specs.Tests.{data_file_of, is_deleted, is_passed, manifest_of}
use Rattle.icb_table.specs.Trace.{Stop, Trace, behind, each_in, ended, numbered, through, whole}
use Rattle.icb_table.specs.Tree.{Contents, TreeFile, below_entry, below_manifest, below_row, file_in, list, listed_as, manifest, data_file, rows_in, tree_below}
use Rattle.icb_table.specs.Why.{Why}
use Rattle.icb_table.proofs.KnownLemmas.{own_plaintext_is_allowed}
use Rattle.icb_table.proofs.TraceLemmas.{behind_first, behind_second, through_reads}
use Rattle.icb_table.proofs.VisitedLemmas.{AllRead, all_read}

-- ---- what holds of all that is read

all_append : {A : Type 0} (P : A → Type 0) (xs ys : List A) → AllByRecursion P xs → AllByRecursion P ys
    → AllByRecursion P (xs ++ ys)
all_append P [] ys a b = b
all_append P (x ∷ xs) ys a b = (a.0, all_append P xs ys a.1 b)

all_behind : {A : Type 0} (P : A → Type 0) (items : List A) (stop : Option Stop) (more : Trace A)
    → stop ≡ None → AllByRecursion P items → AllByRecursion P more.items
    → AllByRecursion P (behind items stop more).items
all_behind P items None more e a b = all_append P items more.items a b
all_behind P items (Some s) more e a b = a

all_each : {A B : Type 0} (P : B → Type 0) (read : A → Trace B)
    → ((x : A) → (read x).stop ≡ None → AllByRecursion P (read x).items) → (xs : List A)
    → (each_in read xs).stop ≡ None → AllByRecursion P (each_in read xs).items
unfolding each_in
all_each P read h [] e = tt
all_each P read h (x ∷ xs) e =
    let stop = behind_first (read x).items (read x).stop (each_in read xs) e in
    all_behind P (read x).items (read x).stop (each_in read xs) stop (h x stop)
    (all_each P read h xs (behind_second (read x).items (read x).stop (each_in read xs) e))

all_through : {A B : Type 0} (P : B → Type 0) (read : A → Trace B)
    → ((x : A) → (read x).stop ≡ None → AllByRecursion P (read x).items) → (t : Trace A)
    → (through read t).stop ≡ None → AllByRecursion P (through read t).items
all_through {B = B} P read h t e =
    let stop = behind_first (each_in read t.items).items (each_in read t.items).stop (ended {A = B} t.stop) e in
    all_behind P (each_in read t.items).items (each_in read t.items).stop (ended t.stop) stop
    (all_each P read h t.items stop) tt

-- ---- files of a whole tree

-- the records of a list or a manifest are all read
abbrev pub IsRead : Contents → TreeFile → Type 0
IsRead contents (list f) = (contents.list_rows f).stop ≡ None
IsRead contents (manifest f) = (contents.entries f).stop ≡ None
IsRead contents (data_file f) = Unit {0}

file_read : (contents : Contents) (parent : Listed) (row : ℕ) (file : DataFile) (found : Result Listed Why)
    → AllByRecursion (IsRead contents) (file_in parent row file found).items
file_read contents parent row file (Ok f) = (tt, tt)
file_read contents parent row file (Err why) = tt

entry_read : (contents : Contents) (location : List ℕ) (parent : Listed) (row : ℕ) (entry : ℕ × Entry) (deleted : Bool)
    → AllByRecursion (IsRead contents) (if deleted then whole []
    else file_in parent row entry.1.file (data_file_of location entry.0 entry.1.file)).items
entry_read contents location parent row entry true = tt
entry_read contents location parent row entry false =
    file_read contents parent row entry.1.file (data_file_of location entry.0 entry.1.file)

manifest_read : (contents : Contents) (location : List ℕ) (parent : Listed) (row : ℕ) (found : Result Listed Why)
    → (below_manifest location contents parent row found).stop ≡ None
    → AllByRecursion (IsRead contents) (below_manifest location contents parent row found).items
manifest_read contents location parent row (Ok f) e = (
  through_reads (below_entry location f row) (contents.entries f) e,
  all_through (IsRead contents) (below_entry location f row)
      (λ entry s. entry_read contents location f row entry (is_deleted entry.1)) (contents.entries f) e,
)
manifest_read contents location parent row (Err why) e = tt

row_read : (contents : Contents) (location : List ℕ) (parent : Listed) (row : ℕ) (found : Result Listed Why) (passed : Bool)
    → (if passed then whole [] else below_manifest location contents parent row found).stop ≡ None
    → AllByRecursion (IsRead contents) (if passed then whole [] else below_manifest location contents parent row found).items
row_read contents location parent row found true e = tt
row_read contents location parent row found false e = manifest_read contents location parent row found e

pub tree_read : (contents : Contents) (location : List ℕ) (f : Listed) → (tree_below location contents f).stop ≡ None
    → AllByRecursion (IsRead contents) (tree_below location contents f).items
unfolding tree_below
tree_read contents location f e = (
  through_reads (below_row location contents f) (numbered (contents.list_rows f)) e,
  all_through (IsRead contents) (below_row location contents f)
      (λ row s. row_read contents location f row.0 (manifest_of location row.1.0 row.1.1) (is_passed row.1.1) s)
      (numbered (contents.list_rows f)) e,
)

-- ---- plaintexts

-- what is read to its end has a plaintext, which is allowed
plain_allowed : {A : Type 0} (read : Listed → List ℕ → Trace A) (files : Objects) (f : Listed) (plain : Option (List ℕ))
    → plaintexts_in files f ≡ plain → (read_plain read f plain).stop ≡ None
    → Allows (shown_in files f) plain
plain_allowed read files f None p e = absurd (let g : ⊥ = cc in g)
plain_allowed read files f (Some bytes) p e = own_plaintext_is_allowed files f bytes p

file_allowed : (files : Objects) (columns : Columns) (file : TreeFile)
    → IsRead (contents_of columns (plaintexts_in files)) file
    → (rows_in (contents_of columns (plaintexts_in files)) file).stop ≡ None
    → Allows (shown_in files (listed_as file)) (plaintexts_in files (listed_as file))
file_allowed files columns (list f) a b = plain_allowed (records_of list_row) files f (plaintexts_in files f) refl a
file_allowed files columns (manifest f) a b = plain_allowed (records_of entry_of) files f (plaintexts_in files f) refl a
file_allowed files columns (data_file f) a b =
    plain_allowed (rows_of columns) files f.listed (plaintexts_in files f.listed) refl b

all_allowed : (files : Objects) (columns : Columns) (tree : List TreeFile)
    → AllByRecursion (IsRead (contents_of columns (plaintexts_in files))) tree
    → AllRead (contents_of columns (plaintexts_in files)) tree
    → AllowsAt (map listed_as tree) files (plaintexts_in files)
all_allowed files columns [] a b = tt
all_allowed files columns (file ∷ tree) a b =
    (file_allowed files columns file a.0 b.0, all_allowed files columns tree a.1 b.1)

pub table_is_allowed : TableIsAllowed
table_is_allowed files meta ring id rows has =
    let contents : Contents = contents_in meta files in
    let whole_tree = has.has_tree.is_tree in
    let read = tree_read contents meta.heading.location has.has_tree.list (ap (λ t. t.stop) whole_tree) in
    all_allowed files (columns_of meta) has.tree
    (subst (λ t. AllByRecursion (IsRead contents) t.items) whole_tree read)
    (all_read contents has.tree (ap (λ t. t.stop) has.are_rows))
