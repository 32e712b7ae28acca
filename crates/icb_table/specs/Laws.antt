-- The laws of the definitions. Each is the contract of a function of `src/laws.rt`.
use Rattle.std.specs.Prelude.{◌≡◌, ◌<◌, ℕ, ℤ, pos, List, [], ◌∷◌, ◌++◌, codes, map}
use Rattle.std.specs.Prelude.{Option, Some, None, IsSome, Result, Ok, Err, true}
use Rattle.std.specs.List.{AllByRecursion, Contains}
use Rattle.std.specs.FinMap as finite
use Rattle.serde_json.specs.Data.{Data}
use Rattle.icb_base.specs.Objects.{Grows, Objects, object_at, with_object}
use Rattle.icb_schema.specs.Tree.{root_form}
use Rattle.icb_schema.specs.Shape.{shape}
use Rattle.icb_avro.specs.declared.value.Value.{out-Value}
use Rattle.icb_container.specs.Content.{Content, content_of}
use Rattle.icb_chain.specs.Ring.{Ring}
use Rattle.icb_fields.specs.Fields as field
use Rattle.icb_meta.specs.Shown.{meta_of}
use Rattle.icb_meta.specs.declared.fields.Fields.{Fields}
use Rattle.icb_rows.specs.Laws.{has_required}
use Rattle.icb_rows.specs.Records.{Row, file_fields, first_unfit}
use Rattle.icb_rows.specs.Rows.{field_values}
use Rattle.icb_rows.specs.Rows as file
use Rattle.icb_types.specs.declared.columns.Column.{Column}
use Rattle.icb_tree.specs.Versions.{version_path}
use Rattle.icb_stream.specs.Layout.{Layout, blocks, part_at}
use Rattle.icb_stream.specs.declared.fault.StreamFault.{StreamFault}
use Rattle.icb_table.specs.Contents.{Plaintexts, contents_of, opening_in, plaintexts_in}
use Rattle.icb_table.specs.Differing.{Differs, DiffersAt}
use Rattle.icb_table.specs.Foreign.{HasNoForeignBlock, IsBlockOf, IsCommitted, SealedBlock}
use Rattle.icb_table.specs.Inherited.{file_sequence_of, first_rows, sequence_of, snapshot_of}
use Rattle.icb_table.specs.Known.{Allows, AllowsAt, ShowsNoMoreAt, shown_in}
use Rattle.icb_table.specs.Listed.{Listed}
use Rattle.icb_table.specs.Records.{records_of, values_in}
use Rattle.icb_table.specs.Rows.{Columns, record_shape, rows_of, unfit}
use Rattle.icb_table.specs.Selection.{ColumnRange, Selection, chosen, line_of, selection_of}
use Rattle.icb_table.specs.Selection.{text_of}
use Rattle.icb_table.specs.Small as small
use Rattle.icb_table.specs.Snapshots.{columns_of, list_of}
use Rattle.icb_table.specs.Standing.{IsLast, Stands}
use Rattle.icb_table.specs.Table.{HasRows, IsInTable, IsTable, Table, contents_in}
use Rattle.icb_table.specs.Table.{snapshot_asked}
use Rattle.icb_table.specs.Tests.{data_file_of, is_passed, manifest_of}
use Rattle.icb_reader.specs.Records.{Reading, Refusal, next_of, opening_of}
use Rattle.icb_table.specs.Steps.{IsReached, rest_of, why_of}
use Rattle.icb_table.specs.Trace.{Trace, each_in, one, stopped, then_read, whole}
use Rattle.icb_table.specs.Tree.{Contents, TreeFile, listed_as, rows_below, rows_in, tree_below}
use Rattle.icb_table.specs.Visited.{before_path, bound_of, visited}

-- ---- the small table

-- its trees: the deleted entry and the row of delete files add no file, and the position of a row
-- counts that row
pub record SmallTrees : Type 0 where
  pub first : tree_below small.location small.contents small.list_1 ≡ whole small.tree_1
  pub second : tree_below small.location small.contents small.list_2 ≡ whole small.tree_2

-- where a manifest has no plaintext, the files before it are there, and nothing behind it
abbrev pub SmallTreeStops : Type 0
SmallTreeStops =
    tree_below small.location small.without_manifests small.list_2 ≡ small.tree_without

-- the tests of a data file, in their order; a length that key metadata tell counts before the
-- record's
abbrev pub SmallRefusals : Type 0
SmallRefusals =
    AllByRecursion (λ c. data_file_of small.location 7 c.0 ≡ c.1) small.refusals

-- rows of a list: one of delete files is passed over where none of them was added or exists
abbrev pub SmallRowsJudged : Type 0
SmallRowsJudged = AllByRecursion (λ c. (is_passed c.0 ≡ c.1.0)
    × (manifest_of small.location 7 c.0 ≡ c.1.1)) small.rows_judged

-- its rows, in the order of the files
abbrev pub SmallRows : Type 0
SmallRows = rows_below small.location small.contents small.list_2 ≡ whole small.rows_2

-- the rows from 2 on without the first one, at most one: the row 3; its text, and its line with the
-- columns in another order, one of which it doesn't have
pub record SmallText : Type 0 where
  pub rows : chosen (small.from_on 2 1 (Some 1)) small.rows_2 ≡ small.row_of 3 ∷ []
  pub text : text_of (small.from_on 2 1 (Some 1)) small.rows_2 ≡ codes "[3]" ++ 10 ∷ []
  pub line : line_of (small.column ∷ small.other ∷ []) (small.row_of 3)
      ≡ codes "[3,null]" ++ 10 ∷ []

-- what a query's words mean
abbrev pub SmallWords : Type 0
SmallWords = AllByRecursion (λ c. selection_of (small.other ∷ small.column ∷ []) c.0 ≡ c.1)
    small.words_judged

-- the files that are visited: without the first data file where its bounds exclude it, up to it
-- where it has the last row that is chosen, and none where no row is asked
pub record SmallVisits : Type 0 where
  pub all : visited small.contents (small.from_on 2 1 None) small.tree_2 ≡ small.tree_2
  pub excluded : visited small.contents (small.from_on 3 0 None) small.tree_2
      ≡ small.files_excluded
  pub ended : visited small.contents (small.from_on 1 1 (Some 1)) small.tree_2
      ≡ small.files_ended
  pub none : visited small.contents (small.from_on 1 0 (Some 0)) small.tree_2 ≡ []
  pub before : before_path (codes "data/2") small.tree_2 ≡ small.files_before

-- of a column's bounds the first counts
abbrev pub SmallBound : Type 0
SmallBound = bound_of (pos 1) ((pos 2, 7 ∷ []) ∷ (pos 1, 8 ∷ []) ∷ (pos 1, 9 ∷ []) ∷ [])
    ≡ Some (8 ∷ [])

-- the lists of snapshots, and the snapshot that a query asks for
pub record SmallLists : Type 0 where
  pub judged : AllByRecursion (λ c. list_of small.meta [] c.0 ≡ c.1) small.lists_judged
  pub current : snapshot_asked small.meta (small.words_of None None 0 None) ≡ Some (pos 2)

-- the records of a block stand one behind the other, the first where its bytes begin
abbrev pub SmallPlaces : Type 0
SmallPlaces = values_in small.number small.numbers ≡ small.numbers_placed

-- what an entry says counts before the row of the list, which counts where it says nothing
pub record SmallInherited : Type 0 where
  pub snapshot : snapshot_of small.row_inherited (small.entry_of 1 small.first_file) ≡ pos 6
  pub sequence : sequence_of small.row_inherited (small.entry_of 1 small.first_file) ≡ pos 5
  pub file_sequence :
      file_sequence_of small.row_inherited (small.entry_of 1 small.first_file) ≡ pos 5
  pub own_snapshot : snapshot_of small.row_inherited small.entry_said ≡ pos 1
  pub own_sequence : sequence_of small.row_inherited small.entry_said ≡ pos 2
  pub own_file_sequence : file_sequence_of small.row_inherited small.entry_said ≡ pos 3

-- first row ids: a null one is the next, and one of its own takes none from it
abbrev pub SmallRowIds : Type 0
SmallRowIds = first_rows (Some (pos 10)) small.files_numbered
    ≡ Some (pos 10) ∷ Some (pos 77) ∷ Some (pos 12) ∷ []

-- ---- text

-- the text of a front of the rows is a front of the text
abbrev pub TextOfFront : Type 0
TextOfFront = (s : Selection) (front rest : List Row)
    → (more : List ℕ) × (text_of s (front ++ rest) ≡ text_of s front ++ more)

-- ---- more plaintexts

-- the plaintexts that are there are there among others too
abbrev pub AreAmong : Plaintexts → Plaintexts → Type 0
AreAmong plain more = (f : Listed) (bytes : List ℕ) → plain f ≡ Some bytes → more f ≡ Some bytes

-- a tree that is whole is the same where more plaintexts are there
abbrev pub WholeTreeStays : Type 0
WholeTreeStays = (columns : Columns) (location : List ℕ) (list : Listed) (plain more : Plaintexts)
    (files : List TreeFile) → AreAmong plain more
    → tree_below location (contents_of columns plain) list ≡ whole files
    → tree_below location (contents_of columns more) list ≡ whole files

-- ---- knowledge

-- the objects of a store that only grew show no less
abbrev pub GrownShowsNoLess : Type 0
GrownShowsNoLess = (before now : Objects) (listed : List Listed) → Grows before now
    → ShowsNoMoreAt listed before now

-- what is allowed by objects is allowed by those that show no more
abbrev pub AllowedByLess : Type 0
AllowedByLess = (less more : Objects) (listed : List Listed) (plain : Plaintexts)
    → ShowsNoMoreAt listed less more → AllowsAt listed more plain → AllowsAt listed less plain

-- where each byte is known one plaintext is allowed alone
abbrev pub WholeAllowsOne : Type 0
WholeAllowsOne = (text : List ℕ) (plain : Option (List ℕ)) → Allows (Some (map Some text)) plain
    → plain ≡ Some text

-- a file's own plaintext is allowed
abbrev pub OwnPlaintextIsAllowed : Type 0
OwnPlaintextIsAllowed = (files : Objects) (f : Listed) (bytes : List ℕ)
    → plaintexts_in files f ≡ Some bytes → Allows (shown_in files f) (Some bytes)

-- the plaintexts of a snapshot's files are allowed by the objects that hold them
abbrev pub TableIsAllowed : Type 0
TableIsAllowed = (files : Objects) (meta : Fields) (ring : Ring) (id : ℤ) (rows : List Row)
    (has : HasRows files meta ring id rows)
    → AllowsAt (map listed_as has.tree) files (plaintexts_in files)

-- ---- tables

-- a store that only grew holds the table that it held
abbrev pub TableWhenGrown : Type 0
TableWhenGrown = (before now : Objects) (meta : Fields) (ring : Ring) (table : Table)
    → Grows before now → IsTable before meta ring table → IsTable now meta ring table

-- a store that holds nothing but version 1 has the versions 1 to 1
abbrev pub OneVersionIsLast : Type 0
OneVersionIsLast = (bytes : List ℕ) → IsLast (with_object finite.empty (version_path 1) bytes) 1

-- a store whose only version shows metadata without a snapshot stands for the table of no snapshot
abbrev pub EmptyStands : Type 0
EmptyStands = (files : Objects) (meta : Fields) (ring : Ring) (bytes : List ℕ) (json : Data)
    → meta.state.snapshots ≡ [] → IsLast files 1 → object_at files (version_path 1) ≡ Some bytes
    → meta_of bytes ≡ Ok (json, meta) → Stands files meta ring finite.empty

-- ---- the files of a query

-- a range is one of one of these columns, by its id and its kind
abbrev pub IsRangeOf : List Column → Option ColumnRange → Type 0
IsRangeOf columns None = Unit {0}
IsRangeOf columns (Some r) =
    (c : Column) × Contains columns c × (c.id ≡ r.id) × (c.kind ≡ r.range.kind)

-- the files that a query visits have all rows that it chooses, and no others come to be chosen
pub record HasChosen (contents : Contents) (s : Selection) (files : List TreeFile)
    (rows : List Row) : Type 0 where
  pub seen : List Row
  pub are_rows : each_in (rows_in contents) (visited contents s files) ≡ whole seen
  pub same : chosen s seen ≡ chosen s rows

-- so it is for each snapshot of a table
abbrev pub VisitedSuffice : Type 0
VisitedSuffice = (files : Objects) (meta : Fields) (ring : Ring) (id : ℤ) (rows : List Row)
    (s : Selection) (has : HasRows files meta ring id rows)
    → IsRangeOf (columns_of meta).kept s.range
    → HasChosen (contents_in meta files) s has.tree rows

-- ---- blocks

-- A block that is found as one of a listed file, and was committed, is that file's own committed
-- block of this number.
abbrev pub CommittedIsOwn : Type 0
CommittedIsOwn = (committed found : Objects) (meta : Fields) (ring : Ring) (table : Table)
    (f : Listed) (number : ℕ) (block : SealedBlock) → IsTable committed meta ring table
    → IsInTable committed meta ring f → IsBlockOf found f number block
    → IsCommitted committed meta ring block → IsBlockOf committed f number block

-- ---- refusals

-- A file that has a plaintext in the committed objects, and isn't open in the found ones, differs
-- there as its refusal says.
abbrev pub OpeningsDiffer : Type 0
OpeningsDiffer = (committed found : Objects) (f : Listed) (e : StreamFault)
    → IsSome (plaintexts_in committed f) → opening_in found f ≡ Err e
    → Differs committed found f e

-- A block that doesn't open, of a file of the table that is open in found objects without a foreign
-- block in it, differs from the committed one.
abbrev pub BlocksDiffer : Type 0
BlocksDiffer = (committed found : Objects) (meta : Fields) (ring : Ring) (table : Table)
    (listed : List Listed) (f : Listed) (bytes : List ℕ) (layout : Layout) (number : ℕ)
    → IsTable committed meta ring table → HasNoForeignBlock committed found meta ring listed
    → Contains listed f → IsInTable committed meta ring f → IsSome (plaintexts_in committed f)
    → object_at found f.path ≡ Some bytes → opening_in found f ≡ Ok layout
    → number < blocks layout → part_at bytes layout number ≡ None
    → DiffersAt committed found f number

-- ---- containers

-- the fields of a record, with nothing asked of them
abbrev pub as_it_is : field.Row → Result field.Row ℤ
as_it_is row = Ok row

-- all of it is read, and without their places these are the records
pub record RecordsAre (read : Trace (ℕ × field.Row)) (rows : List field.Row) : Type 0 where
  pub all : read.stop ≡ None
  pub same : map (λ r. r.1) read.items ≡ rows

-- The records that are read of a container that has a content are those of its content.
abbrev pub RecordsAreContent : Type 0
RecordsAreContent = (f : Listed) (bytes : List ℕ) (content : Content)
    → content_of bytes ≡ Ok content → RecordsAre (records_of as_it_is f bytes)
    (map (λ v. field.record_of (root_form content.schema) (out-Value v)) content.records)

-- no block of the table's own files is foreign to it
abbrev pub OwnBlocksAreCommitted : Type 0
OwnBlocksAreCommitted = (files : Objects) (meta : Fields) (ring : Ring) (listed : List Listed)
    → AllByRecursion (IsInTable files meta ring) listed
    → HasNoForeignBlock files files meta ring listed

-- files are in the table, and each has a plaintext in its objects
abbrev pub AreWhole : Objects → Fields → Ring → List Listed → Type 0
AreWhole files meta ring listed =
    AllByRecursion (λ f. IsInTable files meta ring f × IsSome (plaintexts_in files f)) listed

-- Objects that have no foreign block in a table's files show no more of them than the objects that
-- hold the table.
abbrev pub NoForeignShowsNoMore : Type 0
NoForeignShowsNoMore = (committed found : Objects) (meta : Fields) (ring : Ring) (table : Table)
    (listed : List Listed) → IsTable committed meta ring table
    → AreWhole committed meta ring listed → HasNoForeignBlock committed found meta ring listed
    → ShowsNoMoreAt listed found committed

-- a content is one of rows of these columns: of records, in which each column is there with its
-- type, or may be missing, and no required one is null
pub record IsDataFile (columns : List Column) (content : Content) : Type 0 where
  pub records : shape content.schema ≡ record_shape (file_fields content.schema)
  pub fits : first_unfit columns (file_fields content.schema) ≡ None
  pub required : AllByRecursion (λ v. has_required columns (file_fields content.schema)
      (field_values v) ≡ true) content.records

-- The rows that are read of such a data file are those of its content.
abbrev pub DataRowsAreContent : Type 0
DataRowsAreContent = (columns : List Column) (f : Listed) (bytes : List ℕ) (content : Content)
    → content_of bytes ≡ Ok content → IsDataFile columns content
    → rows_of (record { kept = columns; shown = columns }) f bytes
    ≡ whole (file.rows_in columns content)

-- Nothing is read of a data file that doesn't fit a column, also where it has no rows.
abbrev pub UnfitIsRefused : Type 0
UnfitIsRefused = (columns : Columns) (f : Listed) (bytes : List ℕ) (content : Content) (id : ℤ)
    → content_of bytes ≡ Ok content
    → first_unfit columns.shown (file_fields content.schema) ≡ Some id
    → rows_of columns f bytes ≡ unfit f id

-- ---- steps of a reader

-- what a step of a reader of records leaves: the record that it gives comes first, with its place,
-- and then what is left behind it; at the end nothing is left; and a refusal is the reason why
abbrev pub LeavesRest : {A : Type 0} → (field.Row → Result A ℤ) → Listed → List ℕ → Trace (ℕ × A)
    → Result (Option A × Reading) Refusal → Type 0
LeavesRest read f bytes rest (Ok (Some x, r)) =
    (rest ≡ then_read (one (r.last, x)) (rest_of read f r bytes)) × IsReached r bytes
LeavesRest read f bytes rest (Ok (None, r)) = rest ≡ whole []
LeavesRest read f bytes rest (Err e) = rest ≡ stopped f (why_of e)

-- the records that are read of a file are what is left to a reader that opened it
abbrev pub OpeningLeavesAll : {A : Type 0} → (field.Row → Result A ℤ) → Type 0
OpeningLeavesAll read = (f : Listed) (bytes : List ℕ) (r : Reading) → opening_of bytes ≡ Ok r
    → (records_of read f bytes ≡ rest_of read f r bytes) × IsReached r bytes

-- and each of its steps leaves the rest
abbrev pub StepsLeaveRest : {A : Type 0} → (field.Row → Result A ℤ) → Type 0
StepsLeaveRest read = (f : Listed) (bytes : List ℕ) (r : Reading) → IsReached r bytes
    → LeavesRest read f bytes (rest_of read f r bytes) (next_of read r bytes)
