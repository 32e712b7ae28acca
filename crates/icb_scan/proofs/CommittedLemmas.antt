-- The files of a table's tree are its own, and each has a plaintext.
use Rattle.std.specs.Prelude.{◌≡◌, ◌⊎◌, ℕ, ℤ, List, [], ◌∷◌, ◌++◌, map, Option, Some, None, IsSome, Result, Ok, Err}
use Rattle.std.specs.List.{AllByRecursion, Contains}
use Rattle.std.specs.FinMap as finite
use Rattle.std.proofs.Common.{refl, ap, sym, subst, ◌∙◌, arith, append_assoc, inl, inr}
use Rattle.std.proofs.lemmas.List.Elements.{All-contains, All-from_recursion, Contains-append_right}
use Rattle.icb_base.specs.Objects.{Objects}
use Rattle.icb_base.specs.declared.storage.Store as store
use Rattle.icb_base.specs.declared.transfer.Sink as sink
use Rattle.icb_chain.specs.Ring.{Ring}
use Rattle.icb_meta.specs.Forms.{snapshot_named}
use Rattle.icb_meta.specs.declared.fields.Fields.{Fields}
use Rattle.icb_rows.specs.Records.{Row}
use Rattle.icb_list.specs.Rows.{list_row}
use Rattle.icb_manifest.specs.Entries.{entry_of}
use Rattle.icb_stream.specs.declared.fault.StreamFault.{StreamFault}
use Rattle.icb_table.proofs.AllowedLemmas.{IsRead, tree_read}
use Rattle.icb_table.proofs.DifferingLemmas.{blocks_differ, openings_differ}
use Rattle.icb_table.proofs.ReductionLemmas.{no_foreign_shows_no_more}
use Rattle.icb_table.proofs.VisitedLemmas.{AllRead, all_read}
use Rattle.icb_table.specs.Contents.{contents_of, opening_in, plaintexts_in, read_plain}
use Rattle.icb_table.specs.Differing.{Differs}
use Rattle.icb_table.specs.Foreign.{HasNoForeignBlock}
use Rattle.icb_table.specs.Listed.{Listed}
use Rattle.icb_table.specs.Records.{records_of}
use Rattle.icb_table.specs.Rows.{Columns, rows_of}
use Rattle.icb_table.specs.Selection.{Query, Selection}
use Rattle.icb_table.specs.Snapshots.{columns_of}
use Rattle.icb_table.specs.Table.{HasRows, IsInTable, IsTable, Table, contents_in}
use Rattle.icb_table.specs.Trace.{Trace}
use Rattle.icb_table.specs.Tree.{Contents, TreeFile, list, listed_as, manifest, data_file, rows_in}
use Rattle.icb_table.specs.Visited.{visited}
use Rattle.icb_walk.specs.Fits.{IsGone}
use Rattle.icb_walk.specs.declared.fault.TreeFault.TheVariants as tree
use Rattle.icb_scan.proofs.TableLemmas.{all_visited, has_rows, same_tree, some_told, told_then}
use Rattle.icb_scan.specs.Answers.{NamesChange, UnshownAt}
use Rattle.icb_scan.specs.Answers as answers
use Rattle.icb_scan.specs.Committed.{ScansCommitted}
use Rattle.icb_scan.specs.Tables.{ScansTable}
use Rattle.icb_scan.specs.declared.fault.ScanFault.{ScanFault}
use Rattle.icb_scan.specs.declared.fault.ScanFault.TheVariants as fault

-- ---- plaintexts

-- what is read to its end has a plaintext
plain_there : {A : Type 0} (read : Listed → List ℕ → Trace A) (f : Listed) (plain : Option (List ℕ)) → (read_plain read f plain).stop ≡ None → IsSome plain
plain_there read f None e = absurd (let g : ⊥ = cc in g)
plain_there read f (Some bytes) e = refl

file_there : (files : Objects) (columns : Columns) (file : TreeFile) → IsRead (contents_of columns (plaintexts_in files)) file
    → (rows_in (contents_of columns (plaintexts_in files)) file).stop ≡ None → IsSome (plaintexts_in files (listed_as file))
file_there files columns (list f) a b = plain_there (records_of list_row) f (plaintexts_in files f) a
file_there files columns (manifest f) a b = plain_there (records_of entry_of) f (plaintexts_in files f) a
file_there files columns (data_file f) a b = plain_there (rows_of columns) f.listed (plaintexts_in files f.listed) b

all_there : (files : Objects) (columns : Columns) (tree : List TreeFile) → AllByRecursion (IsRead (contents_of columns (plaintexts_in files))) tree
    → AllRead (contents_of columns (plaintexts_in files)) tree → AllByRecursion (λ f. IsSome (plaintexts_in files f)) (map listed_as tree)
all_there files columns [] a b = tt
all_there files columns (file ∷ tree) a b = (file_there files columns file a.0 b.0, all_there files columns tree a.1 b.1)

-- ---- files of the table

pub all_among : (P : Listed → Type 0) (all before xs : List Listed) → all ≡ before ++ xs → ((f : Listed) → Contains all f → P f) → AllByRecursion P xs
all_among P all before [] e h = tt
all_among P all before (x ∷ xs) e h = (
  h x (subst (λ (fs : List Listed). Contains fs x) (sym e) (Contains-append_right before (x ∷ xs) x (0, omega arith, refl))),
  all_among P all (before ++ x ∷ []) xs (e ∙ sym (append_assoc before (x ∷ []) xs)) h,
)

both_all : (P Q : Listed → Type 0) (xs : List Listed) → AllByRecursion P xs → AllByRecursion Q xs → AllByRecursion (λ f. P f × Q f) xs
both_all P Q [] p q = tt
both_all P Q (x ∷ xs) p q = ((p.0, q.0), both_all P Q xs p.1 q.1)

pub whole_files : (files : Objects) (meta : Fields) (ring : Ring) (id : ℤ) (rows : List Row) → IsSome (snapshot_named id meta.state.snapshots) → (has : HasRows files meta ring id rows)
    → AllByRecursion (λ f. IsInTable files meta ring f × IsSome (plaintexts_in files f)) (map listed_as has.tree)
whole_files files meta ring id rows there has =
    let contents : Contents = contents_in meta files in
    let whole_tree = has.has_tree.is_tree in
    let read = tree_read contents meta.heading.location has.has_tree.list (ap (λ (t : Trace TreeFile). t.stop) whole_tree) in
    both_all (IsInTable files meta ring) (λ f. IsSome (plaintexts_in files f)) (map listed_as has.tree)
    (all_among (IsInTable files meta ring) (map listed_as has.tree) [] (map listed_as has.tree) refl
    (λ f is_in. record { id = id; is_snapshot = there; tree = has.tree; has_tree = has.has_tree; is_in = is_in }))
    (all_there files (columns_of meta) has.tree (subst (λ (t : Trace TreeFile). AllByRecursion (IsRead contents) t.items) whole_tree read)
    (all_read contents has.tree (ap (λ (t : Trace Row). t.stop) has.are_rows)))

-- ---- refusals

-- a visited file that isn't shown differs
module _ (committed found : Objects) (meta : Fields) (ring : Ring) (table : Table) (is_table : IsTable committed meta ring table) (listed : List Listed)
    (own : AllByRecursion (λ f. IsInTable committed meta ring f × IsSome (plaintexts_in committed f)) listed) (none : HasNoForeignBlock committed found meta ring listed) where
  own_at : (f : Listed) → Contains listed f → IsInTable committed meta ring f × IsSome (plaintexts_in committed f)
  own_at f is_in =
      let P : Listed → Type 0 = λ g. IsInTable committed meta ring g × IsSome (plaintexts_in committed g) in
      All-contains P listed f (All-from_recursion P listed own) is_in

  differs_by : (f : Listed) (e : StreamFault) → Contains listed f → (opening_in found f ≡ Err e) ⊎ IsGone found f e → Differs committed found f e
  differs_by f e is_in (inl refused) = openings_differ committed found f e (own_at f is_in).1 refused
  differs_by f e is_in (inr gone) = subst (Differs committed found f) (sym gone.is)
      (blocks_differ committed found meta ring table listed f gone.object gone.layout gone.number is_table none is_in (own_at f is_in).0 (own_at f is_in).1
      gone.held gone.is_open gone.within gone.gone)

  names_change : {Self Out : Type 0} (of : store.Ghosts Self) (out : sink.Ghosts Out) (contents : Contents) (s : Selection) (visits : List TreeFile) (rows : List Row) (x y : Self) (before after : Out)
      (result : Result ℕ ScanFault) → map listed_as visits ≡ listed → answers.ShowsRows of out contents found s visits rows x y before after result → NamesChange committed found visits result
  names_change of out contents s visits rows x y before after (Ok n) same h = tt
  names_change of out contents s visits rows x y before after (Err (fault.Tree (tree.At path c))) same h =
      let u : UnshownAt contents found s visits h.shown path c = h.answer.1 in
      record {
        file = u.file;
        is_visited = u.is_visited;
        at = u.at;
        fault = u.unshown.fault;
        told = u.unshown.told;
        differs = differs_by u.file u.unshown.fault (subst (λ (fs : List Listed). Contains fs u.file) same u.is_visited) u.unshown.refused;
      }
  names_change of out contents s visits rows x y before after (Err (fault.Tree tree.Store)) same h = tt
  names_change of out contents s visits rows x y before after (Err fault.Sink) same h = tt
  names_change of out contents s visits rows x y before after (Err fault.NoMemory) same h = tt
  names_change of out contents s visits rows x y before after (Err (fault.Tree tree.NoMemory)) same h = tt
  names_change of out contents s visits rows x y before after (Err (fault.Tree (tree.NoSnapshot id))) same h = tt
  names_change of out contents s visits rows x y before after (Err (fault.Tree (tree.PlainList id))) same h = tt
  names_change of out contents s visits rows x y before after (Err (fault.Tree (tree.Chain inner))) same h = tt
  names_change of out contents s visits rows x y before after (Err (fault.Tree (tree.BadList id file what))) same h = tt
  names_change of out contents s visits rows x y before after (Err (fault.NoColumn name)) same h = tt
  names_change of out contents s visits rows x y before after (Err (fault.BadRange name)) same h = tt

-- where no visited block is foreign no more is shown
pub scans_committed : {Self Out : Type 0} (of : store.Ghosts Self) (out : sink.Ghosts Out) (meta : Fields) (ring : Ring) (q : Query) (x y : Self) (before after : Out) (result : Result ℕ ScanFault)
    → ScansTable of out meta ring q x y before after result → ScansCommitted of out meta ring q x y before after result
scans_committed of out meta ring q x y before after result scans committed table id rows files s is_table asked has_id has_tree sel =
    let there : IsSome (snapshot_named id meta.state.snapshots) = is_table.only_snapshots id (some_told (finite.get table id) rows has_id) in
    let has = has_rows committed meta ring id rows (finite.get table id) has_id (is_table.each_snapshot id there) in
    let same : has.tree ≡ files = same_tree committed meta ring id has.tree files has.has_tree has_tree in
    let c : Contents = contents_in meta committed in
    let P : Listed → Type 0 = λ f. IsInTable committed meta ring f × IsSome (plaintexts_in committed f) in
    let own : AllByRecursion P (map listed_as files) = subst (λ (fs : List TreeFile). AllByRecursion P (map listed_as fs)) same (whole_files committed meta ring id rows there has) in
    let visits : List TreeFile = visited c s files in
    let mine : AllByRecursion P (map listed_as visits) = all_visited P c s files own in
    told_then (of.held x) _ _ (λ found shows no_foreign.
    let shown = shows (no_foreign_shows_no_more committed found meta ring table (map listed_as visits) is_table mine no_foreign) in
    (shown, names_change committed found meta ring table is_table (map listed_as visits) mine no_foreign of out c s visits rows x y before after result refl shown))
    (scans committed table id rows files s is_table asked has_id has_tree sel)
