-- The laws of the commands: what they answer where nothing stands in their way. Their proofs are in
-- `proofs/CompletionLemmas.antt`.
use Rattle.std.specs.Prelude.{ℕ, ◌+◌, ◌≡◌, ◌<◌, ◌≤◌, ◌⊎◌, List, length, Some, None, Ok}
use Rattle.serde_json.specs.Data.{Data}
use Rattle.icb_base.specs.Objects.{Objects, object_at}
use Rattle.icb_base.specs.declared.limits.Limited.TheVariants as limit
use Rattle.icb_chain.specs.Opening.{table_of}
use Rattle.icb_chain.specs.Ring.{Ring}
use Rattle.icb_meta.specs.declared.fields.Fields.{Fields}
use Rattle.icb_rotate.specs.Keys.{new_master_of}
use Rattle.icb_scan.specs.Complete.{HasVisited}
use Rattle.icb_stream.specs.Layout.{Layout}
use Rattle.icb_stream.specs.Opening.{opening_of}
use Rattle.icb_run.specs.Answers.{Appends, version_line}
use Rattle.icb_run.specs.CatFile.{IsCatFile, held_object, slice_front}
use Rattle.icb_run.specs.Create.{HasMaster, IsCreate}
use Rattle.icb_run.specs.Inputs.{input_limit}
use Rattle.icb_run.specs.Keyrings.{keyring_of}
use Rattle.icb_run.specs.Listing.{IsListing}
use Rattle.icb_run.specs.Metadata.{metadata_told}
use Rattle.icb_run.specs.Rotate.{IsRotate}
use Rattle.icb_run.specs.Scan.{IsScan, query_of}
use Rattle.icb_run.specs.ScanComplete.{IsFit}
use Rattle.icb_run.specs.Outside.{FaultsEnd, NoneRose, Outside}
use Rattle.icb_run.specs.SealFile.{IsSealFile}
use Rattle.icb_run.specs.Texts.{IsText}
use Rattle.icb_run.specs.declared.listing.Listing.{Listing}
use Rattle.icb_run.specs.declared.status.Status.{Status}
use Rattle.icb_run.specs.declared.status.Status.TheVariants as status
use Rattle.icb_table.specs.Selection.{Selection, text_of}
use Rattle.icb_table.specs.Standing.{Stands}
use Rattle.icb_table.specs.Table.{Table, rows_asked, snapshot_asked}
use Rattle.icb_tree.specs.Versions.{current_of, most_bytes, most_versions, version_path}
use Rattle.icb_words.specs.declared.create_words.Create.{Create}
use Rattle.icb_words.specs.declared.rotate_words.Rotate.{Rotate}
use Rattle.icb_words.specs.declared.scan_words.Scan.{Scan}
use Rattle.icb_words.specs.declared.words.CatFile.{CatFile}
use Rattle.icb_words.specs.declared.words.SealFile.{SealFile}

-- `cat-file` of an open stream of whose slice no block is refused writes the slice and ends with
-- Ok, where no count rose and memory is enough
abbrev pub CatFileCompletes : Type 0
CatFileCompletes = (words : CatFile) (before now : Outside) (answer : Status) (files : Objects)
    (layout : Layout) → before.table ≡ Some files
    → opening_of files words.path words.meta words.file_length ≡ Ok layout
    → (slice_front words (held_object files words.path) layout).refused ≡ None
    → IsCatFile words before now answer → FaultsEnd before now answer → NoneRose before now
    → ((answer ≡ status.Ok)
    × Appends before.out now.out (slice_front words (held_object files words.path) layout).bytes)
    ⊎ (answer ≡ status.NoMemory)

-- `seal-file` of an input within the limit at a path that isn't held ends with Ok, where no count
-- rose and memory is enough
abbrev pub SealFileCompletes : Type 0
SealFileCompletes = (words : SealFile) (before now : Outside) (answer : Status) (files : Objects)
    (text : List ℕ) → before.table ≡ Some files → before.input ≡ Some text
    → length text ≤ input_limit → object_at files words.path ≡ None
    → IsSealFile words before now answer → FaultsEnd before now answer → NoneRose before now
    → (answer ≡ status.Ok) ⊎ (answer ≡ status.NoMemory)

-- `create` with a keyring that has the master, of a first version within the limit where none is
-- held, ends with Ok, where no count rose and memory is enough
abbrev pub CreateCompletes : Type 0
CreateCompletes = (words : Create) (before now : Outside) (answer : Status) (files : Objects)
    (keyring master : List ℕ) → before.table ≡ Some files → before.keys ≡ Some keyring
    → HasMaster words keyring master → object_at files (version_path 1) ≡ None
    → (is : IsCreate words before now answer) → length is.object ≤ most_bytes
    → FaultsEnd before now answer → NoneRose before now
    → (answer ≡ status.Ok) ⊎ (answer ≡ status.NoMemory)

-- `snapshots` and `keys` of a table whose current version shows metadata print its lines and end
-- with Ok, where no count rose and memory is enough
abbrev pub ListingCompletes : Type 0
ListingCompletes = (which : Listing) (before now : Outside) (answer : Status) (files : Objects)
    (current : ℕ × (Data × Fields)) → before.table ≡ Some files → current_of files ≡ Ok current
    → IsListing which before now answer → FaultsEnd before now answer → NoneRose before now
    → (answer ≡ status.Ok) ⊎ (answer ≡ status.NoMemory)

-- `scan` whose keyring and metadata are read, over a table that has each file that it visits as it
-- was committed, prints the lines of all chosen rows and ends with Ok, where no count rose and
-- memory is enough
abbrev pub ScanCompletes : Type 0
ScanCompletes = (words : Scan) (before now : Outside) (answer : Status) (files committed : Objects)
    (keyring : List ℕ) (ring : Ring) (meta : Fields) (table : Table) (s : Selection)
    → before.table ≡ Some files → before.keys ≡ Some keyring → keyring_of keyring ≡ Ok ring
    → metadata_told words.is_handed_in before.table before.trusted ≡ Some (Ok meta)
    → IsFit meta ring (query_of words) committed table s
    → HasVisited files committed meta ring (query_of words)
    → IsScan words before now answer → FaultsEnd before now answer → NoneRose before now
    → ((answer ≡ status.Ok) × Appends before.out now.out
    (text_of s (rows_asked table (snapshot_asked meta (query_of words)))))
    ⊎ (answer ≡ status.NoMemory)

-- `rotate` of a table for which the store stands and whose keys the new master, which is in the
-- keyring, may seal, prints the next version and ends with Ok, where no count rose and memory is
-- enough; unless the current or the next version's text is too long
abbrev pub RotateCompletes : Type 0
RotateCompletes = (words : Rotate) (before now : Outside) (answer : Status) (files : Objects)
    (keyring : List ℕ) (ring : Ring) (meta : Fields) (table : Table) (key : List ℕ)
    → before.table ≡ Some files → before.keys ≡ Some keyring → keyring_of keyring ≡ Ok ring
    → (stands : Stands files meta ring table) → stands.last < most_versions
    → new_master_of (table_of meta.state) ring words.master ≡ Ok key
    → IsRotate words before now answer → FaultsEnd before now answer → NoneRose before now
    → ((answer ≡ status.Ok) × Appends before.out now.out (version_line (stands.last + 1)))
    ⊎ ((answer ≡ status.NoMemory) ⊎ (answer ≡ status.Limit limit.Metadata most_bytes))

-- a text of the program's own is written and the command ends with Ok, where no count rose and
-- memory is enough
abbrev pub TextCompletes : Type 0
TextCompletes = (text : List ℕ) (before now : Outside) (answer : Status)
    → IsText text before now answer → FaultsEnd before now answer → NoneRose before now
    → (answer ≡ status.Ok) ⊎ (answer ≡ status.NoMemory)
