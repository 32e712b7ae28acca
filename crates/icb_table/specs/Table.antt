-- When files hold a table: metadata and a keyring, and the rows of each snapshot.
use Rattle.std.specs.Prelude.{◌≡◌, ℕ, ℤ, false, List, [], map, Option, Some, None, IfSome, IsSome}
use Rattle.std.specs.Prelude.{IsSomeAnd, Result, Ok, unwrap_or}
use Rattle.std.specs.List.{AllByRecursion, Contains}
use Rattle.std.specs.Ordering.{int_cmp}
use Rattle.std.specs.FinMap as finite
use Rattle.icb_base.specs.Objects.{Objects}
use Rattle.icb_chain.specs.Ring.{Ring}
use Rattle.icb_meta.specs.Forms.{snapshot_named}
use Rattle.icb_meta.specs.declared.fields.Fields.{Fields}
use Rattle.icb_types.specs.declared.columns.Column.{Column}
use Rattle.icb_types.specs.Steps.{◌>>=◌}
use Rattle.icb_rows.specs.Bounds.{IsLowerBound, IsUpperBound}
use Rattle.icb_rows.specs.declared.fault.RangeFault.{RangeFault}
use Rattle.icb_rows.specs.Ranges.{is_uuid}
use Rattle.icb_rows.specs.Records.{Row}
use Rattle.icb_table.specs.Contents.{contents_of, plaintexts_in}
use Rattle.icb_manifest.specs.declared.file.DataFile.{DataFile}
use Rattle.icb_table.specs.Listed.{Listed}
use Rattle.icb_table.specs.Selection.{Query, datum_in, selection_of, text_of}
use Rattle.icb_table.specs.Snapshots.{columns_of, list_of}
use Rattle.icb_table.specs.Trace.{each_in, whole}
use Rattle.icb_table.specs.Tree.{Contents, LiveFile, TreeFile, listed_as, live_files, rows_in}
use Rattle.icb_table.specs.Tree.{tree_below}
use Rattle.icb_table.specs.Visited.{bound_of}

-- the rows of each snapshot, by its id
abbrev pub Table : Type 0
Table = finite.FinMap int_cmp (List Row)

-- what the objects of a store show as files of a table with this metadata
abbrev pub contents_in : Fields → Objects → Contents
contents_in meta files = contents_of (columns_of meta) (plaintexts_in files)

-- ---- one snapshot

-- a snapshot has this tree: its list and each manifest are there whole, and no test refuses
pub record HasTree (files : Objects) (meta : Fields) (ring : Ring) (id : ℤ)
    (tree : List TreeFile) : Type 0 where
  pub list : Listed
  pub is_list : list_of meta ring id ≡ Ok list
  pub is_tree : tree_below meta.heading.location (contents_in meta files) list ≡ whole tree

-- the recorded bounds of a column bound its data; those of identifiers say nothing
pub record BoundsHold (file : DataFile) (rows : List Row) (c : Column) : Type 0 where
  pub lower : is_uuid c.kind ≡ false → IfSome (bound_of c.id file.lower)
      (λ bytes. IsLowerBound c.kind bytes (map (λ row. datum_in row c.id) rows))
  pub upper : is_uuid c.kind ≡ false → IfSome (bound_of c.id file.upper)
      (λ bytes. IsUpperBound c.kind bytes (map (λ row. datum_in row c.id) rows))

-- the bounds of each column of a data file do
abbrev pub AllBoundsHold : List Column → Contents → LiveFile → Type 0
AllBoundsHold columns contents f =
    AllByRecursion (BoundsHold f.file (contents.data_rows f.listed).items) columns

-- a snapshot has these rows: those of all data files of its tree, which are there whole and whose
-- bounds hold
pub record HasRows (files : Objects) (meta : Fields) (ring : Ring) (id : ℤ)
    (rows : List Row) : Type 0 where
  pub tree : List TreeFile
  pub has_tree : HasTree files meta ring id tree
  pub are_rows : each_in (rows_in (contents_in meta files)) tree ≡ whole rows
  pub bounds : AllByRecursion (AllBoundsHold (columns_of meta).kept (contents_in meta files))
      (live_files tree)

-- ---- all snapshots

-- a file is listed so in the tree of a snapshot
pub record IsInTable (files : Objects) (meta : Fields) (ring : Ring) (f : Listed) : Type 0 where
  pub id : ℤ
  pub is_snapshot : IsSome (snapshot_named id meta.state.snapshots)
  pub tree : List TreeFile
  pub has_tree : HasTree files meta ring id tree
  pub is_in : Contains (map listed_as tree) f

-- The objects of a store hold a table: each snapshot of the metadata has its rows, and no other id
-- has any; and over all trees a path is listed in one way, and no two paths share key and prefix.
pub record IsTable (files : Objects) (meta : Fields) (ring : Ring) (table : Table) : Type 0 where
  pub only_snapshots : (id : ℤ) → IsSome (finite.get table id)
      → IsSome (snapshot_named id meta.state.snapshots)
  pub each_snapshot : (id : ℤ) → IsSome (snapshot_named id meta.state.snapshots)
      → IsSomeAnd (finite.get table id) (HasRows files meta ring id)
  pub one_way : (f g : Listed) → IsInTable files meta ring f → IsInTable files meta ring g
      → f.path ≡ g.path → f ≡ g
  pub own_keys : (f g : Listed) → IsInTable files meta ring f → IsInTable files meta ring g
      → f.key ≡ g.key → f.prefix ≡ g.prefix → f.path ≡ g.path

-- ---- what a query asks

-- the snapshot that a query asks for: the one that it names, or else the current one, if any
abbrev pub snapshot_asked : Fields → Query → Option ℤ
snapshot_asked meta query = named query.snapshot
  where
    named : Option ℤ → Option ℤ
    named None = meta.state.current
    named (Some id) = Some id

-- the columns that a query's words name: those of the current schema
abbrev pub columns_asked : Fields → List Column
columns_asked meta = meta.layout.schema.columns

-- the rows of a snapshot, and none where there is no snapshot
abbrev pub rows_asked : Table → Option ℤ → List Row
rows_asked table None = []
rows_asked table (Some id) = unwrap_or (finite.get table id) []

-- the text that a query asks for of a table, or the first refusal of its words
abbrev pub text_asked : Table → Fields → Query → Result (List ℕ) RangeFault
text_asked table meta query = selection_of (columns_asked meta) query
    >>= (λ s. Ok (text_of s (rows_asked table (snapshot_asked meta query))))
