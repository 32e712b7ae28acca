-- How many steps a job may still take: each one that goes on leaves fewer.
use Rattle.std.proofs.Common.{◌≡◌, ◌+◌, ◌-◌, ◌*◌, ◌<◌, ◌≤◌, ◌^◌, ◌==◌, ◌&&◌, ℕ, ℤ, zero, suc, Bool, true, false, List, [], length, Option, Some, None, IsSomeAnd, Result, Ok, Err, refl, sym, ap, ◌∙◌, subst, arith, if◌then◌else◌, nat_le}
use Rattle.std.proofs.lemmas.Bool.Decides.{nat_tests}
use Rattle.std.proofs.lemmas.List.{length-append}
use Rattle.std.specs.Prelude.{codes}
use Rattle.icb_base.specs.KeyMetadata.{KeyRecord}
use Rattle.icb_base.specs.declared.storage.Put.{Put}
use Rattle.icb_base.specs.declared.storage.Put.TheVariants as put
use Rattle.icb_base.specs.declared.storage.Store as store
use Rattle.icb_base.specs.declared.transfer.Draws as draws
use Rattle.icb_chain.specs.Ring.{Ring}
use Rattle.icb_list.specs.declared.row.ListRow.{ListRow}
use Rattle.icb_manifest.specs.declared.file.DataFile.{DataFile}
use Rattle.icb_meta.specs.Answers.{shown_of}
use Rattle.icb_meta.specs.Forms.{text_named}
use Rattle.icb_meta.specs.declared.table.TableMeta.{TableMeta}
use Rattle.icb_tree.specs.declared.fault.CurrentFault.{CurrentFault}
use Rattle.icb_turns.specs.Answers.{◌>>=◌}
use Rattle.icb_turns.specs.Probing.{MayFind}
use Rattle.icb_turns.specs.declared.fault.JobFault.{JobFault}
use Rattle.icb_turns.specs.declared.fault.Step.TheVariants as step
use Rattle.icb_turns.specs.declared.probing.Probed.{Probed}
use Rattle.icb_turns.specs.declared.probing.Probed.TheVariants as probed
use Rattle.icb_append.specs.Beginning.{AnswersBegun}
use Rattle.icb_append.specs.Drafts.{ComesOfFile, PutsNext, holds_all, settings_for}
use Rattle.icb_append.specs.Settings.{decimal_in, in_range, number_of}
use Rattle.icb_append.specs.Turning.{Commits, IsTurnAt, PutsFiles, PutsList, ReadsList, behind_begun, behind_file, behind_files, behind_probe, comes_to, is_ended, of_version, parent_for, place_after, step_of, work_after}
use Rattle.icb_append.specs.declared.draft.Draft.{Draft}
use Rattle.icb_append.specs.declared.place.Place.{Place}
use Rattle.icb_append.specs.declared.place.Place.TheVariants as place
use Rattle.icb_append.specs.declared.place.Turn.{Turn}
use Rattle.icb_append.specs.declared.place.Turn.TheVariants as turn
use Rattle.icb_append.specs.declared.tried.Tried.{Tried}
use Rattle.icb_append.specs.declared.work.Work.{Work}
use Rattle.icb_append.proofs.CountLemmas.{on_work, some_work}

-- ---- a data file has a row at least

in_range_least : (low high default : ℕ) (o : Option ℕ) → low ≤ default → low ≤ in_range low high default o
in_range_least low high default None h = h
in_range_least low high default (Some n) h = by_tests (nat_le low n) (nat_le n high) refl
  where
    by_tests : (one two : Bool) → nat_le low n ≡ one → low ≤ (if one && two then n else default)
    by_tests true true e = grind (arith, nat_tests)
    by_tests true false e = h
    by_tests false two e = h

number_least : (low high default : ℕ) (o : Option (List ℕ)) → low ≤ default → low ≤ number_of low high default o
number_least low high default None h = h
number_least low high default (Some text) h = in_range_least low high default (decimal_in text) h

some_rows : (tried : Tried) → 1 ≤ (settings_for tried).rows
some_rows tried = number_least 1 1000000 100000 (text_named (codes "icb.rows-per-file") (shown_of tried.meta).state.properties) (omega arith)

fewer_files : (size rows files : ℕ) → 1 ≤ size → nat_le rows (size * files) ≡ false → files < rows
fewer_files size rows files some left =
    let past : size * files < rows = grind (arith, nat_tests) in
    omega (arith, past, least size files some)
  where
    least : (size files : ℕ) → 1 ≤ size → files ≤ size * files
    least zero files h = absurd (let g : ⊥ = omega (arith, h) in g)
    least (suc n) files h = grind (arith)

-- ---- how many steps are left

-- behind a file: the rest, and the three turns behind the manifest
abbrev pub files_left : Option Work → ℕ
files_left None = 4
files_left (Some work) = 4 + ((length work.draft.rows + 1) - length work.draft.entries)

abbrev pub steps_left : Place → Option Work → ℕ
steps_left (place.Probing n) work = (1000002 - n) + (2 ^ 62 + 8)
steps_left (place.Reading n) work = 2 ^ 62 + 7
steps_left place.Filing work = files_left work
steps_left (place.Listing parent) work = 3
steps_left place.Writing work = 2
steps_left place.Committing work = 1
steps_left place.Ended work = 0

-- fewer are left, and the job hasn't ended
abbrev pub Fewer : Place → Option Work → Place → Option Work → Type 0
Fewer p work q work_now = (steps_left q work_now < steps_left p work) × (is_ended q ≡ false)

-- so it is where the job goes on
abbrev pub FewerIf : Place → Option Work → Result Turn JobFault → Option Work → Type 0
FewerIf p work (Ok (turn.To q)) work_now = Fewer p work q work_now
FewerIf p work other work_now = Unit {0}

behind_fewer : (parent : Option ℤ) (work : Option Work) (n : ℕ) → 3 < n → (steps_left (behind_files parent) work < n) × (is_ended (behind_files parent) ≡ false)
behind_fewer (Some parent) work n h = (h, refl)
behind_fewer None work n h = (omega (arith, h), refl)

probe_fewer : (n : ℕ) (work work_now : Option Work) (found : Result Probed JobFault) → MayFind n found → FewerIf (place.Probing n) work (comes_to behind_probe found) work_now
probe_fewer n work work_now (Ok (probed.Next m)) may = let next = may.0 in let few = may.1 in (omega (arith, next, few), refl)
probe_fewer n work work_now (Ok (probed.Found m)) may = (omega arith, refl)
probe_fewer n work work_now (Err e) may = tt

begun_rows : (given : Result TableMeta CurrentFault) (ring : Ring) (version : ℕ) (lines unique : List ℕ) (work : Work) → AnswersBegun given ring version lines unique (Ok work)
    → (length work.draft.rows ≤ 2 ^ 62) × (length work.draft.entries ≡ 0)
begun_rows (Err e) ring version lines unique work h = absurd (let g : ⊥ = cc in g)
begun_rows (Ok meta) ring version lines unique work h =
    let few : work.tried.rows ≤ 2 ^ 62 = work.tried.ready.room.few in
    let rows : work.draft.rows ≡ h.rows = ap (λ (w : Work). w.draft.rows) h.is_new in
    let none : work.draft.entries ≡ [] = ap (λ (w : Work). w.draft.entries) h.is_new in
    (subst (λ n. n ≤ 2 ^ 62) (h.tries.4 ∙ ap length (sym rows)) few, ap length none)

first_fewer : (n : ℕ) (before : Option Work) (work : Work) (b : Bool) (parent : Option ℤ) → length work.draft.rows ≤ 2 ^ 62 → length work.draft.entries ≡ 0
    → Fewer (place.Reading n) before (if b then behind_files parent else place.Filing) (Some work)
first_fewer n before work true parent few none = behind_fewer parent (Some work) (2 ^ 62 + 7) (omega arith)
first_fewer n before work false parent few none = (omega (arith, few, none), refl)

begun_fewer : (n : ℕ) (before : Option Work) (given : Result TableMeta CurrentFault) (ring : Ring) (version : ℕ) (lines unique : List ℕ) (begun : Result Work JobFault)
    → AnswersBegun given ring version lines unique begun → FewerIf (place.Reading n) before (comes_to behind_begun begun) (work_after before begun)
begun_fewer n before given ring version lines unique (Ok work) h =
    let facts = begun_rows given ring version lines unique work h in
    first_fewer n before work (work.tried.rows == 0) (parent_for work.tried) facts.0 facts.1
begun_fewer n before given ring version lines unique (Err e) h = tt

module _ {S D : Type 0} (of : store.Ghosts S) (random : draws.Ghosts D) where
  more_entries : (draft now : Draft) (file : Result DataFile JobFault) → ComesOfFile draft file now (Ok None)
      → (length now.entries ≡ length draft.entries + 1) × (now.rows ≡ draft.rows)
  more_entries draft now (Ok file) h = (
    ap (λ (d : Draft). length d.entries) h ∙ length-append draft.entries _,
    ap (λ (d : Draft). d.rows) h,
  )
  more_entries draft now (Err e) h = absurd (let g : ⊥ = let is = h.1 in cc in g)

  next_fewer : (tried : Tried) (draft now : Draft) (x y : S) (a b : D) (all : Bool) → holds_all (settings_for tried).rows draft.rows (length draft.entries) ≡ all
      → PutsNext of random tried draft now (Ok None) x y a b
      → 4 + ((length now.rows + 1) - length now.entries) < 4 + ((length draft.rows + 1) - length draft.entries)
  next_fewer tried draft now x y a b false is p =
      let r = p.rows is in
      let more = more_entries draft now r.file r.comes in
      let entries = more.0 in
      let rows : length now.rows ≡ length draft.rows = ap length more.1 in
      let left = fewer_files (settings_for tried).rows (length draft.rows) (length draft.entries) (some_rows tried) is in
      omega (arith, entries, rows, left)
  next_fewer tried draft now x y a b true is p = absurd (not_row (p.manifest is).row (p.manifest is).answers)
    where
      not_row : (row : Result ListRow JobFault) → Ok None ≡ (row >>= (λ r. Ok (Some r))) → ⊥
      not_row (Ok r) h = cc
      not_row (Err e) h = cc

  files_fewer : (work work_now : Work) (put : Result (Option ListRow) JobFault) (x y : S) (a b : D)
      → PutsNext of random work.tried work.draft work_now.draft put x y a b → FewerIf place.Filing (Some work) (comes_to (behind_file work.tried) put) (Some work_now)
  files_fewer work work_now (Ok None) x y a b p =
      (next_fewer work.tried work.draft work_now.draft x y a b (holds_all (settings_for work.tried).rows work.draft.rows (length work.draft.entries)) refl p, refl)
  files_fewer work work_now (Ok (Some row)) x y a b p = behind_fewer (parent_for work.tried) (Some work_now) (files_left (Some work)) past
    where
      past : 3 < files_left (Some work)
      past = omega arith
  files_fewer work work_now (Err e) x y a b p = tt

  written : (parent : ℤ) (work work_now : Option Work) (rows : Result (List ListRow) JobFault) → FewerIf (place.Listing parent) work (comes_to (λ (read : List ListRow). place.Writing) rows) work_now
  written parent work work_now (Ok rows) = (omega arith, refl)
  written parent work work_now (Err e) = tt

  committed : (work work_now : Option Work) (list : Result KeyRecord JobFault) → FewerIf place.Writing work (comes_to (λ (put : KeyRecord). place.Committing) list) work_now
  committed work work_now (Ok list) = (omega arith, refl)
  committed work work_now (Err e) = tt

  ended : (tried : Tried) (taken : List ℕ) (work work_now : Option Work) (r : Result Put JobFault) → FewerIf place.Committing work (of_version tried taken r) work_now
  ended tried taken work work_now (Ok put.Done) = tt
  ended tried taken work work_now (Ok put.Taken) = tt
  ended tried taken work work_now (Err e) = tt

  pub turn_fewer : (ring : Ring) (now_ms : ℕ) (lines : List ℕ) (p : Place) (work work_now : Option Work) (taken taken_now : List ℕ) (answer : Result Turn JobFault)
      (x y : S) (a b : D) → IsTurnAt of random ring now_ms lines p work work_now taken taken_now answer x y a b → FewerIf p work answer work_now
  turn_fewer ring now_ms lines (place.Probing v) work work_now taken taken_now answer x y a b h = rw h.0.goes (probe_fewer v work work_now h.0.found h.0.may)
  turn_fewer ring now_ms lines (place.Reading v) work work_now taken taken_now answer x y a b h = rw (h.0.goes, h.0.has)
      (begun_fewer v work h.0.begins.given ring v lines h.0.begins.unique h.0.begun h.0.begins.answers)
  turn_fewer ring now_ms lines place.Filing work work_now taken taken_now answer x y a b h =
      both work work_now h.0
    where
      both : (one two : Option Work) → IsSomeAnd one (λ had. IsSomeAnd two (λ has. PutsFiles of random had has answer x y a b)) → FewerIf place.Filing one answer two
      both None two d = absurd d
      both (Some had) None d = absurd d
      both (Some had) (Some has) d = rw d.goes (files_fewer had has d.put x y a b d.puts)
  turn_fewer ring now_ms lines (place.Listing p) work work_now taken taken_now answer x y a b h =
      on_work of random work work_now (λ had has. ReadsList of ring p had has answer x y) (FewerIf (place.Listing p) work answer work_now)
      (λ had has d. rw d.goes (written p work work_now d.rows)) h.0
  turn_fewer ring now_ms lines place.Writing work work_now taken taken_now answer x y a b h =
      on_work of random work work_now (λ had has. PutsList of random had has answer x y a b) (FewerIf place.Writing work answer work_now)
      (λ had has d. rw d.goes (committed work work_now d.list)) h.0
  turn_fewer ring now_ms lines place.Committing work work_now taken taken_now answer x y a b h =
      some_work of random work (λ had. Commits of random now_ms had taken taken_now answer x y a b) (FewerIf place.Committing work answer work_now)
      (λ had d. rw d.goes (ended had.tried taken work work_now d.put)) h.0
  turn_fewer ring now_ms lines place.Ended work work_now taken taken_now answer x y a b h = absurd h

-- where a step goes on fewer are left, and the job hasn't ended
pub step_fewer : (p : Place) (work work_now : Option Work) (t : Result Turn JobFault) → FewerIf p work t work_now → step.Again ≡ step_of t
    → Fewer p work (place_after t) work_now
step_fewer p work work_now (Ok (turn.To q)) h is = h
step_fewer p work work_now (Ok (turn.Done s v)) h is = absurd (let g : ⊥ = cc in g)
step_fewer p work work_now (Err e) h is = absurd (let g : ⊥ = cc in g)
