-- A run of an append tells a failure of its store as one, also where it reads a list.
use Rattle.std.proofs.Common.{◌≡◌, ◌∙◌, ℕ, ℤ, Bool, true, false, List, Option, Some, None, Result, Ok, Err, refl, sym, subst, ap}
use Rattle.std.specs.Prelude.{IsSomeAnd, Vec, length, nat_le, int_lt, pos, ◌+ℤ◌}
use Rattle.std.specs.declared.alloc.Global.{Global}
use Rattle.icb_base.specs.KeyMetadata.{KeyRecord}
use Rattle.icb_base.specs.declared.limits.Limited.{Limited}
use Rattle.icb_base.specs.declared.limits.Limited.TheVariants as limit
use Rattle.icb_base.specs.declared.storage.Put.{Put}
use Rattle.icb_base.specs.declared.storage.Put.TheVariants as put
use Rattle.icb_base.specs.declared.storage.Store as store
use Rattle.icb_base.specs.declared.transfer.Draws as draws
use Rattle.icb_chain.specs.Opening.{kek_of, table_of}
use Rattle.icb_chain.specs.Ring.{Ring}
use Rattle.icb_chain.specs.declared.fault.ChainFault.{ChainFault}
use Rattle.icb_list.specs.declared.row.ListRow.{ListRow}
use Rattle.icb_manifest.specs.declared.file.DataFile.{DataFile}
use Rattle.icb_meta.specs.Answers.{shown_of}
use Rattle.icb_meta.specs.declared.fields.Fields.{Fields}
use Rattle.icb_meta.specs.declared.fields.Layout.{Layout}
use Rattle.icb_meta.specs.declared.table.TableMeta.{TableMeta}
use Rattle.icb_seal.specs.Keys.{FileKeyValue}
use Rattle.icb_seal.specs.declared.file_key.KeySize.{KeySize}
use Rattle.icb_tree.specs.Versions.{most_versions}
use Rattle.icb_tree.specs.declared.fault.CurrentFault.{CurrentFault}
use Rattle.icb_tree.specs.declared.fault.CurrentFault.TheVariants as current
use Rattle.icb_turns.specs.Answers.{◌>>=◌, of_chain, or_refused, refused_where}
use Rattle.icb_turns.specs.Probing.{MayFind}
use Rattle.icb_turns.specs.declared.fault.JobFault.{JobFault}
use Rattle.icb_turns.specs.declared.fault.JobFault.TheVariants as fault
use Rattle.icb_turns.specs.declared.fault.Step.TheVariants as step
use Rattle.icb_turns.specs.declared.probing.Probed.{Probed}
use Rattle.icb_walk.specs.declared.fault.TreeFault.{TreeFault}
use Rattle.icb_walk.specs.declared.fault.TreeFault.TheVariants as tree
use Rattle.icb_append.specs.Beginning.{AnswersBegun, AnswersMeta, begun_of, current_fault, of_input}
use Rattle.icb_append.specs.Committing.{AnswersVersion, PutsVersion}
use Rattle.icb_append.specs.Drafts.{ComesOfFile, PutsManifest, PutsNext, PutsNextRows, holds_all, settings_for}
use Rattle.icb_append.specs.Lines.{rows_of_input}
use Rattle.icb_append.specs.NewLists.{have_row_ids, parent_rows}
use Rattle.icb_append.specs.Puts.{AnswersFile, PutsFile}
use Rattle.icb_append.specs.Reading.{current_key, has_room, may_add, most_number, most_snapshots, wrapper_for}
use Rattle.icb_append.specs.Turning.{Commits, IsTurnAt, OnWork, Probes, PutsFiles, PutsList, ReadsList, ReadsVersion, comes_to, of_version, step_of}
use Rattle.icb_append.specs.Whole.{Runs}
use Rattle.icb_append.specs.declared.draft.Draft.{Draft}
use Rattle.icb_append.specs.declared.fault.InputFault.{InputFault}
use Rattle.icb_append.specs.declared.fault.InputFault.TheVariants as input
use Rattle.icb_append.specs.declared.place.Place.{Place}
use Rattle.icb_append.specs.declared.place.Place.TheVariants as place
use Rattle.icb_append.specs.declared.place.Turn.{Turn}
use Rattle.icb_append.specs.declared.place.Turn.TheVariants as turn
use Rattle.icb_append.specs.declared.tried.Tried.{Tried}
use Rattle.icb_append.specs.declared.whole.Committed.{Committed}
use Rattle.icb_append.specs.declared.work.Work.{Work}

-- an answer that isn't a tree's failure of the store
abbrev IsOther : {A : Type 0} → Result A JobFault → Type 0
IsOther r = r ≡ Err (fault.Tree tree.Store) → ⊥

-- ---- answers that are made of others

abbrev refusal : {A : Type 0} → JobFault → Result A JobFault
refusal e = Err e

refusal_same : {A B : Type 0} (e : JobFault) → IsOther (refusal {A = A} e) → IsOther (refusal {A = B} e)
refusal_same {A} e other is = let same : e ≡ fault.Tree tree.Store = cc in other (ap (refusal {A = A}) same)

behind : {A B : Type 0} (r : Result A JobFault) (f : A → Result B JobFault) → IsOther r
    → ((x : A) → IsOther (f x)) → IsOther (r >>= f)
behind (Ok x) f first next = next x
behind (Err e) f first next = refusal_same e first

comes : {A : Type 0} (f : A → Place) (r : Result A JobFault) → IsOther r → IsOther (comes_to f r)
comes f (Ok x) other = λ is. cc
comes f (Err e) other = refusal_same e other

as_answered : {A : Type 0} (r given : Result A JobFault) → r ≡ given → IsOther given → IsOther r
as_answered r given same other = λ is. other (sym same ∙ is)

refused : (e : JobFault) (test : Bool) → (e ≡ fault.Tree tree.Store → ⊥) → IsOther (refused_where e test)
refused e true other = λ is. other (let same : e ≡ fault.Tree tree.Store = cc in same)
refused e false other = λ is. cc

-- ---- a version

chain_other : {A : Type 0} (r : Result A ChainFault) → IsOther (of_chain r)
chain_other (Ok x) = λ is. cc
chain_other (Err e) = λ is. cc

there_other : {A : Type 0} (e : JobFault) (x : Option A) → (e ≡ fault.Tree tree.Store → ⊥) → IsOther (or_refused e x)
there_other e (Some x) other = λ is. cc
there_other e None other = λ is. other (let same : e ≡ fault.Tree tree.Store = cc in same)

input_other : {A : Type 0} (r : Result A InputFault) → IsOther (of_input r)
input_other (Ok x) = λ is. cc
input_other (Err (input.BadLine line row)) = λ is. cc
input_other (Err input.NoMemory) = λ is. cc

add_other : (layout : Layout) → IsOther (may_add layout)
add_other layout = behind _ _ (refused _ layout.partitioned (λ is. cc))
    (λ whole. behind _ _ (refused _ layout.sorted (λ is. cc)) (λ unsorted. refused _ _ (λ is. cc)))

limit_other : (what : Limited) (number : ℕ) (test : Bool) → IsOther (refused_where (fault.Limit what number) test)
limit_other what number test = refused (fault.Limit what number) test (λ is. cc)

room_other : (meta : Fields) (version rows : ℕ) → IsOther (has_room meta version rows)
room_other meta version rows = behind _ _ (limit_other limit.Versions most_versions (nat_le most_versions version)) (λ versions.
    behind _ _ (limit_other limit.Snapshots most_snapshots (nat_le most_snapshots (length meta.state.snapshots))) (λ snapshots.
    behind _ _ (limit_other limit.Sequence most_number (int_lt (pos most_number) (meta.heading.last_sequence +ℤ pos 1))) (λ sequence.
    limit_other limit.RowIds most_number (int_lt (pos most_number) (meta.state.next_row +ℤ pos rows)))))

wrapper_other : (meta : Fields) (ring : Ring) (version rows : ℕ) → IsOther (wrapper_for meta ring version rows)
unfolding wrapper_for
wrapper_other meta ring version rows = behind _ _ (there_other _ (current_key (table_of meta.state)) (λ is. cc)) (λ entry.
    behind _ _ (add_other meta.layout) (λ added.
    behind _ _ (chain_other (kek_of (table_of meta.state) ring entry.id)) (λ key.
    behind _ _ (room_other meta version rows) (λ room is. cc))))

begun_other : (meta : Fields) (ring : Ring) (version : ℕ) (lines : List ℕ) → IsOther (begun_of meta ring version lines)
begun_other meta ring version lines =
    behind _ _ (input_other (rows_of_input meta.layout.schema.columns lines)) (λ rows.
    behind _ _ (wrapper_other meta ring version (length rows)) (λ wrapper is. cc))

current_other : (e : CurrentFault) → current_fault e ≡ fault.Tree tree.Store → ⊥
current_other current.NoTable is = cc
current_other (current.Limit what number) is = cc
current_other (current.BadMeta field) is = cc
current_other current.Store is = cc
current_other current.NoMemory is = cc

version_other : (given : Result TableMeta CurrentFault) (ring : Ring) (version : ℕ) (lines unique : List ℕ)
    (answer : Result Work JobFault) → AnswersBegun given ring version lines unique answer → IsOther answer
version_other (Ok meta) ring version lines unique answer answers = λ is.
    begun_other (shown_of meta) ring version lines
    (subst (λ (x : Result Work JobFault). AnswersMeta meta ring version lines unique x) is answers).0
version_other (Err e) ring version lines unique answer answers = λ is.
    current_other e (let same : Err (current_fault e) ≡ Err (fault.Tree tree.Store) = sym answers.0 ∙ is in cc)

-- ---- files

file_other : {A : Type 0} (path : List ℕ) (makes : FileKeyValue → List ℕ → List ℕ → KeyRecord → Type 0)
    (may : List ℕ → Bool) (says : KeyRecord → ℕ → A → Type 0) (key : FileKeyValue) (marker object : List ℕ)
    (meta : KeyRecord) (answer : Result A JobFault)
    → AnswersFile path makes may says key marker object meta answer → IsOther answer
file_other {A} path makes may says key marker object meta answer answers = λ is.
    subst (λ (x : Result A JobFault). AnswersFile path makes may says key marker object meta x) is answers

comes_other : (draft : Draft) (file : Result DataFile JobFault) (now : Draft) (answer : Result (Option ListRow) JobFault)
    → IsOther file → ComesOfFile draft file now answer → IsOther answer
comes_other draft (Ok file) now answer other come = λ is.
    subst (λ (x : Result (Option ListRow) JobFault). ComesOfFile draft (Ok file) now x) is come
comes_other draft (Err e) now answer other come = as_answered answer (Err e) come.1 (refusal_same e other)

-- ---- the list of the parent

parent_other : (rows : Result (Vec ListRow Global) TreeFault) → IsOther (parent_rows rows)
parent_other (Ok rows) = by_test (have_row_ids rows.items) refl
  where
    by_test : (test : Bool) → have_row_ids rows.items ≡ test → IsOther (parent_rows (Ok rows))
    by_test true e = rw e (λ is. cc)
    by_test false e = rw e (λ is. cc)
parent_other (Err tree.Store) = λ is. cc
parent_other (Err tree.NoMemory) = λ is. cc
parent_other (Err (tree.NoSnapshot id)) = λ is. cc
parent_other (Err (tree.PlainList id)) = λ is. cc
parent_other (Err (tree.Chain e)) = λ is. cc
parent_other (Err (tree.BadList id file what)) = λ is. cc
parent_other (Err (tree.At path c)) = λ is. cc

-- ---- the version

version_put_other : (tried : Tried) (taken : List ℕ) (is_text : List ℕ → List ℕ → Type 0) (nonce text : List ℕ)
    (result : Result Put JobFault) → AnswersVersion is_text nonce text result → IsOther (of_version tried taken result)
version_put_other tried taken is_text nonce text (Ok put.Done) answers = λ is. cc
version_put_other tried taken is_text nonce text (Ok put.Taken) answers = λ is. cc
version_put_other tried taken is_text nonce text (Err e) answers = λ is.
    let same : e ≡ fault.Tree tree.Store = cc in
    subst (λ (x : JobFault). AnswersVersion is_text nonce text (Err x)) same answers

-- ---- turns

module _ {S D : Type 0} (of : store.Ghosts S) (random : draws.Ghosts D) where
  probe_other : (version : ℕ) (answer : Result Turn JobFault) (x y : S) → Probes of version answer x y → IsOther answer
  probe_other version answer x y turn = as_answered answer _ turn.goes (comes _ turn.found (λ is.
      subst (λ (r : Result Probed JobFault). MayFind version r) is turn.may))

  put_other : {A : Type 0} (size : KeySize) (path : List ℕ)
      (makes : FileKeyValue → List ℕ → List ℕ → KeyRecord → Type 0) (may : List ℕ → Bool)
      (says : KeyRecord → ℕ → A → Type 0) (result : Result A JobFault) (x y : S) (d e : D)
      → PutsFile of random size path makes may says result x y d e → IsOther result
  put_other size path makes may says result x y d e puts =
      file_other path makes may says puts.key puts.marker puts.object puts.meta result puts.answers

  next_other : (tried : Tried) (draft now : Draft) (answer : Result (Option ListRow) JobFault) (x y : S) (d e : D)
      (test : Bool) → holds_all (settings_for tried).rows draft.rows (length draft.entries) ≡ test
      → PutsNext of random tried draft now answer x y d e → IsOther answer
  next_other tried draft now answer x y d e false left next = let puts = next.rows left in
      comes_other draft puts.file now answer (put_other _ _ _ _ _ puts.file x y d e puts.puts) puts.comes
  next_other tried draft now answer x y d e true none next = let puts = next.manifest none in
      as_answered answer _ puts.answers (behind puts.row _ (put_other _ _ _ _ _ puts.row x y d e puts.puts) (λ row is. cc))

  files_other : (work now : Work) (answer : Result Turn JobFault) (x y : S) (d e : D)
      → PutsFiles of random work now answer x y d e → IsOther answer
  files_other work now answer x y d e turn = as_answered answer _ turn.goes (comes _ turn.put
      (next_other work.tried work.draft now.draft turn.put x y d e _ refl turn.puts))

  list_other : (work now : Work) (answer : Result Turn JobFault) (x y : S) (d e : D)
      → PutsList of random work now answer x y d e → IsOther answer
  list_other work now answer x y d e turn = as_answered answer _ turn.goes (comes _ turn.list
      (put_other _ _ _ _ _ turn.list x y d e turn.puts))

  put_version_other : (tried : Tried) (taken : List ℕ) (is_text : List ℕ → List ℕ → Type 0) (version : ℕ)
      (result : Result Put JobFault) (x y : S) (d e : D) → PutsVersion of random is_text version result x y d e
      → IsOther (of_version tried taken result)
  put_version_other tried taken is_text version result x y d e puts =
      version_put_other tried taken is_text puts.nonce puts.text result puts.answers

  commit_other : (now_ms : ℕ) (work : Work) (taken now : List ℕ) (answer : Result Turn JobFault) (x y : S) (d e : D)
      → Commits of random now_ms work taken now answer x y d e → IsOther answer
  commit_other now_ms work taken now answer x y d e turn = as_answered answer _ turn.goes
      (put_version_other work.tried taken _ _ turn.put x y d e turn.puts)

  turn_other : (ring : Ring) (now_ms : ℕ) (lines : List ℕ) (at : Place) (work now : Option Work)
      (taken taken_now : List ℕ) (answer : Result Turn JobFault) (x y : S) (d e : D)
      → IsTurnAt of random ring now_ms lines at work now taken taken_now answer x y d e → IsOther answer
  turn_other ring now_ms lines (place.Probing version) work now taken taken_now answer x y d e turn =
      probe_other version answer x y turn.0
  turn_other ring now_ms lines (place.Reading version) work now taken taken_now answer x y d e turn =
      as_answered answer _ turn.0.goes (comes _ turn.0.begun
      (version_other turn.0.begins.given ring version lines turn.0.begins.unique turn.0.begun turn.0.begins.answers))
  turn_other ring now_ms lines place.Filing (Some had) (Some has) taken taken_now answer x y d e turn =
      files_other had has answer x y d e turn.0
  turn_other ring now_ms lines place.Filing (Some had) None taken taken_now answer x y d e turn = absurd turn.0
  turn_other ring now_ms lines place.Filing None now taken taken_now answer x y d e turn = absurd turn.0
  turn_other ring now_ms lines (place.Listing parent) (Some had) (Some has) taken taken_now answer x y d e turn =
      as_answered answer _ turn.0.goes (comes _ turn.0.rows
      (as_answered turn.0.rows _ turn.0.reads.answers (parent_other turn.0.reads.rows)))
  turn_other ring now_ms lines (place.Listing parent) (Some had) None taken taken_now answer x y d e turn = absurd turn.0
  turn_other ring now_ms lines (place.Listing parent) None now taken taken_now answer x y d e turn = absurd turn.0
  turn_other ring now_ms lines place.Writing (Some had) (Some has) taken taken_now answer x y d e turn =
      list_other had has answer x y d e turn.0
  turn_other ring now_ms lines place.Writing (Some had) None taken taken_now answer x y d e turn = absurd turn.0
  turn_other ring now_ms lines place.Writing None now taken taken_now answer x y d e turn = absurd turn.0
  turn_other ring now_ms lines place.Committing (Some had) now taken taken_now answer x y d e turn =
      commit_other now_ms had taken taken_now answer x y d e turn.0
  turn_other ring now_ms lines place.Committing None now taken taken_now answer x y d e turn = absurd turn.0
  turn_other ring now_ms lines place.Ended work now taken taken_now answer x y d e turn = absurd turn

  refusal_of : (e : JobFault) (r : Result Turn JobFault) → step.Refused e ≡ step_of r → r ≡ Err e
  refusal_of e (Ok (turn.To at)) is = cc
  refusal_of e (Ok (turn.Done snapshot version)) is = cc
  refusal_of e (Err other) is = let same : other ≡ e = cc in ap (λ (x : JobFault). Err x) same

  -- a run's refusal isn't a tree's failure of the store
  pub run_other : (ring : Ring) (lines : List ℕ) (now_ms : ℕ) (refused : JobFault) (x y : S) (d e : D)
      → Runs of random ring lines now_ms (Err refused) x y d e → refused ≡ fault.Tree tree.Store → ⊥
  run_other ring lines now_ms refused x y d e runs is =
      turn_other ring now_ms runs.last.job.lines runs.last.job.place runs.last.job.work runs.ended.work
      runs.last.job.taken runs.ended.taken runs.ends.turn runs.last.store y runs.last.draws e runs.ends.is_turn
      (refusal_of refused runs.ends.turn runs.ends.answers ∙ ap (λ (x : JobFault). Err x) is)
