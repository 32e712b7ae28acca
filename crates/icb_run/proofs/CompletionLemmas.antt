-- Where no count rose a command gives its answer, or memory ran out.
use Rattle.std.proofs.Common.{◌≡◌, ◌⊎◌, ◌∙◌, ◌+◌, ◌<◌, ℕ, List, length, false, inl, inr, refl, subst, Some, Result, Ok, Err}
use Rattle.std.specs.Prelude.{nat_lt}
use Rattle.std.proofs.lemmas.Bool.{le-ltb}
use Rattle.icb_base.specs.Objects.{Objects}
use Rattle.icb_base.specs.declared.limits.Limited.TheVariants as limit
use Rattle.icb_chain.specs.Opening.{table_of}
use Rattle.icb_chain.specs.Ring.{Ring}
use Rattle.icb_meta.specs.declared.fields.Fields.{Fields}
use Rattle.icb_rotate.specs.Complete as rotation
use Rattle.icb_rotate.specs.Keys.{new_master_of}
use Rattle.icb_rotate.specs.Whole.{RotatesFiles}
use Rattle.icb_rotate.proofs.CompleteLemmas.{files_complete}
use Rattle.icb_rows.specs.Records.{Row}
use Rattle.icb_scan.specs.Complete.{HasVisited}
use Rattle.icb_scan.specs.declared.fault.ScanFault.{ScanFault}
use Rattle.icb_scan.specs.declared.fault.ScanFault.TheVariants as scan
use Rattle.icb_table.specs.Selection.{Selection, text_of}
use Rattle.icb_table.specs.Standing.{Stands}
use Rattle.icb_table.specs.Table.{Table, rows_asked, snapshot_asked}
use Rattle.icb_turns.specs.declared.fault.JobFault.{JobFault}
use Rattle.icb_turns.specs.declared.fault.JobFault.TheVariants as job
use Rattle.icb_walk.specs.declared.fault.TreeFault.TheVariants as tree
use Rattle.icb_words.specs.declared.rotate_words.Rotate.{Rotate}
use Rattle.icb_words.specs.declared.scan_words.Scan.{Scan}
use Rattle.icb_run.specs.Answers.{Answer, Appends, EndsEarly, Gives, Prints, version_line}
use Rattle.icb_run.specs.CatFile.{cat_file_answer}
use Rattle.icb_run.specs.Create.{create_answer}
use Rattle.icb_run.specs.Inputs.{input_limit}
use Rattle.icb_run.specs.Laws.{CatFileCompletes, CreateCompletes, ListingCompletes, RotateCompletes, ScanCompletes, SealFileCompletes, TextCompletes}
use Rattle.icb_run.specs.Listing.{listed}
use Rattle.icb_run.specs.Outside.{FaultsEnd, NoneRose, Outside}
use Rattle.icb_run.specs.Rotate.{RotateAnswers, TellsRotation, told_of}
use Rattle.icb_run.specs.Scan.{ScanAnswers, query_of}
use Rattle.icb_run.specs.ScanComplete.{IsComplete, IsFit}
use Rattle.icb_run.specs.ScanStatus.{status_of_scan}
use Rattle.icb_run.specs.SealFile.{seal_file_answer}
use Rattle.icb_run.specs.declared.status.Status.{Status}
use Rattle.icb_run.specs.declared.status.Status.TheVariants as status
use Rattle.icb_tree.specs.Versions.{current_of, most_bytes, most_versions}

-- none of two
neither : {A B : Type 0} → A ⊎ B → (A → ⊥) → (B → ⊥) → ⊥
neither (inl a) not_a not_b = not_a a
neither (inr b) not_a not_b = not_b b

-- an early end without a count that rose is want of memory
early_none : (before now : Outside) (s : Status) → EndsEarly s → FaultsEnd before now s
    → NoneRose before now → s ≡ status.NoMemory
early_none before now status.NoMemory early ends none = refl
early_none before now status.StoreFault early ends none =
    absurd (neither (ends.store refl) none.table none.genuine)
early_none before now status.InputFault early ends none =
    absurd (neither (ends.source refl) none.input (λ other. neither other none.keys none.trusted))
early_none before now status.OutputFault early ends none = absurd (none.out (ends.out.rose refl))
early_none before now status.RandomFault early ends none = absurd (none.draws (ends.draws.rose refl))
early_none before now s early ends none = absurd early

-- an answer of a command that writes as it goes on
gives_all : (answer : Answer) (before now : Outside) (s : Status)
    → Gives answer before.out now.out s → FaultsEnd before now s → NoneRose before now
    → ((s ≡ answer.status) × Appends before.out now.out answer.text) ⊎ (s ≡ status.NoMemory)
gives_all answer before now s (inl given) ends none = inl given
gives_all answer before now s (inr (early, wrote)) ends none = inr (early_none before now s early ends none)

-- an answer of a command that writes when all else is done
prints_all : (answer : Answer) (before now : Outside) (s : Status)
    → Prints answer before.out now.out s → FaultsEnd before now s → NoneRose before now
    → (s ≡ answer.status) ⊎ (s ≡ status.NoMemory)
prints_all answer before now s (inl given) ends none = inl given.0
prints_all answer before now s (inr (inl (is, wrote))) ends none =
    absurd (none.out (ends.out.rose is))
prints_all answer before now s (inr (inr (early, same))) ends none =
    inr (early_none before now s early ends none)

-- `cat-file` does its work
pub cat_file_completes : CatFileCompletes
cat_file_completes words before now s files layout table opening whole is ends none =
    let given : Gives (cat_file_answer files words) before.out now.out s = rw table at is.answered in
    let all = gives_all (cat_file_answer files words) before now s given ends none in
    rw (opening, whole) at all

-- `seal-file` does
pub seal_file_completes : SealFileCompletes
seal_file_completes words before now s files text table input short free is ends none =
    let printed : Prints (seal_file_answer files words text is.drawn is.object) before.out now.out s
    = rw (table, input) at is.answered in
    let fits : nat_lt input_limit (length text) ≡ false = le-ltb input_limit (length text) short in
    let all = prints_all (seal_file_answer files words text is.drawn is.object) before now s printed ends none in
    rw (fits, free) at all

-- `create` does
pub create_completes : CreateCompletes
create_completes words before now s files keyring master table keys has free is short ends none =
    let printed : Prints (create_answer files words keyring is.object) before.out now.out s
    = rw (table, keys) at is.answered in
    let fits : nat_lt most_bytes (length is.object) ≡ false = le-ltb most_bytes (length is.object) short in
    let all = prints_all (create_answer files words keyring is.object) before now s printed ends none in
    rw (has.is_ring, has.is_master, fits, free) at all

-- `snapshots` and `keys` do
pub listing_completes : ListingCompletes
listing_completes which before now s files current table shows is ends none =
    let printed : Prints (listed which (current_of files)) before.out now.out s = rw table at is.answered in
    let all = prints_all (listed which (current_of files)) before now s printed ends none in
    rw shows at all

-- and a text is written
pub text_completes : TextCompletes
text_completes text before now s is ends none =
    prints_all (record { status = status.Ok; text = text }) before now s is.written ends none

-- a scan of a table that has each visited file as it was committed
scan_all : (o now : Outside) (s : Status) (choice : Selection) (rows : List Row) (result : Result ℕ ScanFault)
    → s ≡ status_of_scan result → IsComplete choice rows o.out now.out result → FaultsEnd o now s → NoneRose o now
    → ((s ≡ status.Ok) × Appends o.out now.out (text_of choice rows)) ⊎ (s ≡ status.NoMemory)
scan_all o now s choice rows (Ok count) is done ends none = inl (is, done)
scan_all o now s choice rows (Err (scan.Tree tree.Store)) is done ends none =
    absurd (neither (ends.store is) none.table none.genuine)
scan_all o now s choice rows (Err scan.Sink) is done ends none = absurd (none.out (ends.out.rose is))
scan_all o now s choice rows (Err scan.NoMemory) is done ends none = inr is
scan_all o now s choice rows (Err (scan.Tree (tree.NoSnapshot id))) is done ends none = absurd done
scan_all o now s choice rows (Err (scan.Tree (tree.PlainList snapshot))) is done ends none = absurd done
scan_all o now s choice rows (Err (scan.Tree (tree.Chain e))) is done ends none = absurd done
scan_all o now s choice rows (Err (scan.Tree (tree.BadList snapshot file what))) is done ends none = absurd done
scan_all o now s choice rows (Err (scan.Tree (tree.At path c))) is done ends none = absurd done
scan_all o now s choice rows (Err (scan.Tree tree.NoMemory)) is done ends none = absurd done
scan_all o now s choice rows (Err (scan.NoColumn name)) is done ends none = absurd done
scan_all o now s choice rows (Err (scan.BadRange name)) is done ends none = absurd done

scan_ends : (words : Scan) (o now : Outside) (s : Status) (files committed : Objects) (ring : Ring) (meta : Fields)
    (table : Table) (choice : Selection) → IsFit meta ring (query_of words) committed table choice
    → HasVisited files committed meta ring (query_of words)
    → ScanAnswers (Some files) (query_of words) (Ok ring) (Ok meta) o.out now.out s → FaultsEnd o now s → NoneRose o now
    → ((s ≡ status.Ok) × Appends o.out now.out (text_of choice (rows_asked table (snapshot_asked meta (query_of words)))))
    ⊎ (s ≡ status.NoMemory)
scan_ends words o now s files committed ring meta table choice fit has (inl prints) ends none =
    scan_all o now s choice (rows_asked table (snapshot_asked meta (query_of words))) prints.result prints.is_status
    (prints.complete committed table choice fit has) ends none
scan_ends words o now s files committed ring meta table choice fit has (inr early) ends none =
    inr (early_none o now s early.0 ends none)

-- and `scan` does
pub scan_completes : ScanCompletes
scan_completes words before now s files committed keyring ring meta table choice held keys is_ring told fit has is ends none =
    let answered : ScanAnswers (Some files) (query_of words) (Ok ring) (Ok meta) before.out now.out s
    = rw (keys, told, is_ring, held) at is.answered in
    scan_ends words before now s files committed ring meta table choice fit has answered ends none

-- a rotation of a table for which the store stands
rotated_all : (o now : Outside) (s : Status) (last : ℕ) (result : Result ℕ JobFault) → rotation.IsComplete last result
    → TellsRotation result o.out now.out s → FaultsEnd o now s → NoneRose o now
    → ((s ≡ status.Ok) × Appends o.out now.out (version_line (last + 1))) ⊎ ((s ≡ status.NoMemory) ⊎ (s ≡ status.Limit limit.Metadata most_bytes))
rotated_all o now s last (Ok version) done (inl (is, line)) ends none =
    inl (is, subst (λ (n : ℕ). Appends o.out now.out (version_line n)) done line)
rotated_all o now s last (Ok version) done (inr (is, front)) ends none = absurd (none.out (ends.out.rose is))
rotated_all o now s last (Err job.Store) done (is, same) ends none = absurd (neither (ends.store is) none.table none.genuine)
rotated_all o now s last (Err job.Random) done (is, same) ends none = absurd (none.draws (ends.draws.rose is))
rotated_all o now s last (Err job.NoMemory) done (is, same) ends none = inr (inl is)
rotated_all o now s last (Err (job.Limit what number)) (is_what, is_number) (is, same) ends none = inr (inr (is ∙ rw (is_what, is_number) refl))
rotated_all o now s last (Err job.NoTable) done tells ends none = absurd done
rotated_all o now s last (Err (job.BadMeta field)) done tells ends none = absurd done
rotated_all o now s last (Err (job.BadInput line row)) done tells ends none = absurd done
rotated_all o now s last (Err (job.Cannot what)) done tells ends none = absurd done
rotated_all o now s last (Err (job.SameKey id)) done tells ends none = absurd done
rotated_all o now s last (Err (job.KeyName id)) done tells ends none = absurd done
rotated_all o now s last (Err (job.Tree e)) done tells ends none = absurd done
rotated_all o now s last (Err (job.NameTaken path)) done tells ends none = absurd done
rotated_all o now s last (Err (job.Contended versions)) done tells ends none = absurd done

rotate_ends : (words : Rotate) (o now : Outside) (s : Status) (files : Objects) (ring : Ring) (meta : Fields) (table : Table) (key : List ℕ)
    → o.table ≡ Some files → (stands : Stands files meta ring table) → stands.last < most_versions
    → new_master_of (table_of meta.state) ring words.master ≡ Ok key
    → RotateAnswers words.master (Ok ring) o.now_ms (told_of o) (told_of now) s → FaultsEnd o now s → NoneRose o now
    → ((s ≡ status.Ok) × Appends o.out now.out (version_line (stands.last + 1))) ⊎ ((s ≡ status.NoMemory) ⊎ (s ≡ status.Limit limit.Metadata most_bytes))
rotate_ends words o now s files ring meta table key held stands few may (inl r) ends none =
    let rotates : RotatesFiles files ring words.master o.now_ms r.drawn r.result now.table = rw held at r.rotates in
    rotated_all o now s stands.last r.result
    (files_complete files meta ring table words.master o.now_ms r.drawn key r.result now.table stands few may rotates) r.tells ends none
rotate_ends words o now s files ring meta table key held stands few may (inr early) ends none =
    inr (inl (early_none o now s early.0 ends none))

-- and `rotate` does
pub rotate_completes : RotateCompletes
rotate_completes words before now s files keyring ring meta table key held keys is_ring stands few may is ends none =
    let answered : RotateAnswers words.master (Ok ring) before.now_ms (told_of before) (told_of now) s = rw (keys, is_ring) at is.answered in
    rotate_ends words before now s files ring meta table key held stands few may answered ends none
