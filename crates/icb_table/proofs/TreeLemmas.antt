-- Trees and rows where more files show something.
use Rattle.std.specs.Prelude.{◌≡◌, ℕ, List, [], Bool, true, false, Option, Some, None, Result, Ok, Err, if◌then◌else◌}
use Rattle.std.proofs.Common.{refl, ap, ◌∙◌}
use Rattle.icb_manifest.specs.Entries.{entry_of}
use Rattle.icb_list.specs.Rows.{list_row}
use Rattle.icb_table.specs.Contents.{Plaintexts, contents_of, read_plain}
use Rattle.icb_table.specs.Laws.{AreAmong, WholeTreeStays}
use Rattle.icb_table.specs.Listed.{Listed}
use Rattle.icb_table.specs.Records.{records_of}
use Rattle.icb_table.specs.Rows.{Columns, rows_of}
use Rattle.icb_table.specs.Tests.{is_passed, manifest_of}
use Rattle.icb_table.specs.Trace.{Trace, numbered, one, then_read, through, whole}
use Rattle.icb_table.specs.Tree.{Contents, below_entry, below_manifest, below_row, list, manifest, data_file, rows_in, tree_below}
use Rattle.icb_table.specs.Why.{Why}
use Rattle.icb_table.proofs.TraceLemmas.{Extends, through_extends, through_reads}

-- what files show extends what they show by less
pub record ContentsExtend (less more : Contents) : Type 0 where
  pub list_rows : Extends less.list_rows more.list_rows
  pub entries : Extends less.entries more.entries
  pub data_rows : Extends less.data_rows more.data_rows

-- below a manifest
manifest_extends : (location : List ℕ) (less more : Contents) → ContentsExtend less more
    → (parent : Listed) (row : ℕ) (found : Result Listed Why)
    → (below_manifest location less parent row found).stop ≡ None
    → below_manifest location more parent row found ≡ below_manifest location less parent row found
manifest_extends location less more h parent row (Ok f) e =
    ap (λ t. then_read (one (manifest f)) (through (below_entry location f row) t))
    (h.entries f (through_reads (below_entry location f row) (less.entries f) e))
manifest_extends location less more h parent row (Err why) e = refl

-- below a row that may be passed over
row_extends : (location : List ℕ) (less more : Contents) → ContentsExtend less more
    → (parent : Listed) (row : ℕ) (found : Result Listed Why) (passed : Bool)
    → (if passed then whole [] else below_manifest location less parent row found).stop ≡ None
    → (if passed then whole [] else below_manifest location more parent row found)
    ≡ (if passed then whole [] else below_manifest location less parent row found)
row_extends location less more h parent row found true e = refl
row_extends location less more h parent row found false e =
    manifest_extends location less more h parent row found e

-- below a list
pub tree_extends : (location : List ℕ) (less more : Contents) → ContentsExtend less more
    → (f : Listed) → (tree_below location less f).stop ≡ None
    → tree_below location more f ≡ tree_below location less f
unfolding tree_below
tree_extends location less more h f e =
    let same : more.list_rows f ≡ less.list_rows f =
    h.list_rows f (through_reads (below_row location less f) (numbered (less.list_rows f)) e) in
    ap (λ t. then_read (one (list f)) (through (below_row location more f) (numbered t))) same
    ∙ ap (then_read (one (list f))) (through_extends (below_row location less f) (below_row location more f)
    (λ row. row_extends location less more h f row.0 (manifest_of location row.1.0 row.1.1) (is_passed row.1.1))
    (numbered (less.list_rows f)) e)

-- the rows of a file of a tree
pub rows_in_extends : (less more : Contents) → ContentsExtend less more
    → Extends (rows_in less) (rows_in more)
rows_in_extends less more h (list f) e = refl
rows_in_extends less more h (manifest f) e = refl
rows_in_extends less more h (data_file f) e = h.data_rows f.listed e

-- ---- plaintexts

-- what is read of a plaintext that is there is read of it among others
plain_extends : {A : Type 0} (read : Listed → List ℕ → Trace A) (f : Listed) (one two : Option (List ℕ))
    → ((bytes : List ℕ) → one ≡ Some bytes → two ≡ Some bytes)
    → (read_plain read f one).stop ≡ None → read_plain read f two ≡ read_plain read f one
plain_extends read f None two h e = absurd cc
plain_extends read f (Some bytes) two h e = ap (read_plain read f) (h bytes refl)

pub contents_extend : (columns : Columns) (plain more : Plaintexts) → AreAmong plain more
    → ContentsExtend (contents_of columns plain) (contents_of columns more)
contents_extend columns plain more h = record {
  list_rows = λ f e. plain_extends (records_of list_row) f (plain f) (more f) (h f) e;
  entries = λ f e. plain_extends (records_of entry_of) f (plain f) (more f) (h f) e;
  data_rows = λ f e. plain_extends (rows_of columns) f (plain f) (more f) (h f) e;
}

pub whole_tree_stays : WholeTreeStays
whole_tree_stays columns location f plain more files h is =
    tree_extends location (contents_of columns plain) (contents_of columns more)
    (contents_extend columns plain more h) f (ap (λ t. t.stop) is) ∙ is
