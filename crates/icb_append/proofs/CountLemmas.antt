-- Which faults of the store and of the generator a turn of an append counts.
use Rattle.std.proofs.Common.{◌≡◌, ℕ, ℤ, Bool, true, false, List, Option, Some, None, IsSomeAnd, Result, Ok, Err, refl, sym, ap, ◌∙◌, subst, Vec, Global, length, if◌then◌else◌}
use Rattle.icb_base.specs.Causes.{Blames}
use Rattle.icb_base.specs.KeyMetadata.{KeyRecord}
use Rattle.icb_base.specs.declared.storage.Put.{Put}
use Rattle.icb_base.specs.declared.storage.Put.TheVariants as put
use Rattle.icb_base.specs.declared.storage.Store as store
use Rattle.icb_base.specs.declared.transfer.Draws as draws
use Rattle.icb_base.proofs.LawLemmas.{blames_at_rest}
use Rattle.icb_chain.specs.Ring.{Ring}
use Rattle.icb_list.specs.declared.row.ListRow.{ListRow}
use Rattle.icb_manifest.specs.declared.file.DataFile.{DataFile}
use Rattle.icb_meta.specs.declared.table.TableMeta.{TableMeta}
use Rattle.icb_tree.specs.declared.fault.CurrentFault.{CurrentFault}
use Rattle.icb_tree.specs.declared.fault.CurrentFault.TheVariants as current
use Rattle.icb_turns.specs.Answers.{◌>>=◌}
use Rattle.icb_turns.specs.Probing.{MayFind}
use Rattle.icb_turns.specs.declared.fault.CannotWhat.TheVariants as form
use Rattle.icb_turns.specs.declared.fault.JobFault.{JobFault}
use Rattle.icb_turns.specs.declared.fault.JobFault.TheVariants as fault
use Rattle.icb_turns.specs.declared.probing.Probed.{Probed}
use Rattle.icb_walk.specs.declared.fault.TreeFault.{TreeFault}
use Rattle.icb_walk.specs.declared.fault.TreeFault.TheVariants as tree
use Rattle.icb_append.specs.Beginning.{AnswersBegun, AnswersMeta, current_fault}
use Rattle.icb_append.specs.Drafts.{ComesOfFile, PutsNext, holds_all, settings_for}
use Rattle.icb_append.specs.NewLists.{have_row_ids, parent_rows}
use Rattle.icb_append.specs.Turning.{Commits, IsTurnAt, Probes, PutsFiles, PutsList, ReadsList, ReadsVersion, behind_begun, behind_file, behind_probe, comes_to, of_version}
use Rattle.icb_append.specs.declared.draft.Draft.{Draft}
use Rattle.icb_append.specs.declared.place.Place.{Place}
use Rattle.icb_append.specs.declared.place.Place.TheVariants as place
use Rattle.icb_append.specs.declared.place.Turn.{Turn}
use Rattle.icb_append.specs.declared.tried.Tried.{Tried}
use Rattle.icb_append.specs.declared.work.Work.{Work}

-- ---- one fault in place of another

pub blames_as : (one two : Type 0) (before now : ℕ) → (one → two) → (two → one) → Blames one before now → Blames two before now
blames_as one two before now to from b = record { later = b.later; rose = λ h. b.rose (from h); stays = λ none. b.stays (λ h. none (to h)) }

-- a refusal
abbrev pub fails : {A : Type 0} → JobFault → Result A JobFault
fails e = Err e

-- a refusal of one call is the same of another
fault_to : (A B : Type 0) (e f : JobFault) → fails {A = A} e ≡ Err f → fails {A = B} e ≡ Err f
fault_to A B e f h = let same : e ≡ f = cc in ap (λ x. Err x) same

-- a call's fault is that of the turn which it makes up
comes_blames : {A : Type 0} (behind : A → Place) (f : JobFault) (r : Result A JobFault) (x y : ℕ) → Blames (r ≡ Err f) x y → Blames (comes_to behind r ≡ Err f) x y
comes_blames {A} behind f (Ok v) x y b = blames_as _ _ x y (λ h. absurd (let g : ⊥ = cc in g)) (λ h. absurd (let g : ⊥ = cc in g)) b
comes_blames {A} behind f (Err e) x y b = blames_as _ _ x y (fault_to A Turn e f) (fault_to Turn A e f) b

-- a fault that a call doesn't answer isn't the turn's either
comes_not : {A : Type 0} (behind : A → Place) (f : JobFault) (r : Result A JobFault) → (r ≡ Err f → ⊥) → comes_to behind r ≡ Err f → ⊥
comes_not {A} behind f (Ok v) none h = let g : ⊥ = cc in g
comes_not {A} behind f (Err e) none h = none (fault_to Turn A e f h)

-- ---- what a turn counts

pub record Counts {S D : Type 0} (of : store.Ghosts S) (random : draws.Ghosts D) (answer : Result Turn JobFault) (before now : S) (drew drawn : D) : Type 0 where
  pub count : Blames (answer ≡ Err fault.Store) (of.faults before) (of.faults now)
  pub kept : of.keeps before now
  pub drew_count : Blames (answer ≡ Err fault.Random) (random.faults drew) (random.faults drawn)

module _ {S D : Type 0} (of : store.Ghosts S) (random : draws.Ghosts D) where
  undrawn : (answer : Result Turn JobFault) (drew drawn : D) → drawn ≡ drew → (answer ≡ Err fault.Random → ⊥) → Blames (answer ≡ Err fault.Random) (random.faults drew) (random.faults drawn)
  undrawn answer drew drawn same none = subst (λ z. Blames (answer ≡ Err fault.Random) (random.faults drew) (random.faults z)) (sym same)
      (blames_at_rest (answer ≡ Err fault.Random) (random.faults drew) none)

  -- a probe
  found_not_random : (version : ℕ) (found : Result Probed JobFault) → MayFind version found → found ≡ Err fault.Random → ⊥
  found_not_random version found may h = subst (λ r. MayFind version r) h may

  probe_counts : (version : ℕ) (answer : Result Turn JobFault) (x y : S) (a b : D) → Probes of version answer x y → b ≡ a → Counts of random answer x y a b
  probe_counts version answer x y a b p same = subst (λ t. Counts of random t x y a b) (sym p.goes) (record {
    count = comes_blames behind_probe fault.Store p.found (of.faults x) (of.faults y) p.reads.count;
    kept = p.reads.kept;
    drew_count = undrawn (comes_to behind_probe p.found) a b same (comes_not behind_probe fault.Random p.found (found_not_random version p.found p.may));
  })

  -- the reading of a version
  current_store : (e : CurrentFault) → fails {A = Work} (current_fault e) ≡ Err fault.Store → ◌≡◌ {A = Result TableMeta CurrentFault} (Err e) (Err current.Store)
  current_store current.NoTable h = absurd (let g : ⊥ = cc in g)
  current_store (current.Limit w n) h = absurd (let g : ⊥ = cc in g)
  current_store (current.BadMeta f) h = absurd (let g : ⊥ = cc in g)
  current_store current.Store h = refl
  current_store current.NoMemory h = absurd (let g : ⊥ = cc in g)

  store_current : (e : CurrentFault) → ◌≡◌ {A = Result TableMeta CurrentFault} (Err e) (Err current.Store) → fails {A = Work} (current_fault e) ≡ Err fault.Store
  store_current e h = let same : e ≡ current.Store = cc in ap (λ f. Err (current_fault f)) same

  begun_blames : (given : Result TableMeta CurrentFault) (ring : Ring) (version : ℕ) (lines unique : List ℕ) (begun : Result Work JobFault) (x y : ℕ)
      → AnswersBegun given ring version lines unique begun → Blames (given ≡ Err current.Store) x y → Blames (begun ≡ Err fault.Store) x y
  begun_blames (Ok meta) ring version lines unique begun x y h b =
      blames_as _ _ x y (λ g. absurd (let n : ⊥ = cc in n)) (λ g. absurd (subst (λ r. AnswersMeta meta ring version lines unique r) g h)) b
  begun_blames (Err e) ring version lines unique begun x y h b =
      blames_as _ _ x y (λ g. h.0 ∙ store_current e g) (λ g. current_store e (sym h.0 ∙ g)) b

  version_counts : (ring : Ring) (version : ℕ) (lines : List ℕ) (work work_now : Option Work) (answer : Result Turn JobFault) (x y : S) (a b : D)
      → ReadsVersion of random ring version lines work work_now answer x y a b → Counts of random answer x y a b
  version_counts ring version lines work work_now answer x y a b r = subst (λ t. Counts of random t x y a b) (sym r.goes) (record {
    count = comes_blames behind_begun fault.Store r.begun (of.faults x) (of.faults y)
        (begun_blames r.begins.given ring version lines r.begins.unique r.begun (of.faults x) (of.faults y) r.begins.answers r.begins.reads.count);
    kept = r.begins.reads.kept;
    drew_count = comes_blames behind_begun fault.Random r.begun (random.faults a) (random.faults b) r.begins.draws.count;
  })

  -- the put of a file
  file_blames : (draft now : Draft) (f : JobFault) (file : Result DataFile JobFault) (put : Result (Option ListRow) JobFault) (x y : ℕ)
      → (◌≡◌ {A = Result (Option ListRow) JobFault} (Err fault.NoMemory) (Err f) → ⊥)
      → ComesOfFile draft file now put → Blames (file ≡ Err f) x y → Blames (put ≡ Err f) x y
  file_blames draft now f (Ok file) (Ok None) x y other h b = blames_as _ _ x y (λ g. absurd (let n : ⊥ = cc in n)) (λ g. absurd (let n : ⊥ = cc in n)) b
  file_blames draft now f (Ok file) (Ok (Some row)) x y other h b = absurd h
  file_blames draft now f (Ok file) (Err fault.NoMemory) x y other h b = blames_as _ _ x y (λ g. absurd (let n : ⊥ = cc in n)) (λ g. absurd (other g)) b
  file_blames draft now f (Ok file) (Err fault.NoTable) x y other h b = absurd h
  file_blames draft now f (Ok file) (Err (fault.BadMeta m)) x y other h b = absurd h
  file_blames draft now f (Ok file) (Err (fault.BadInput l r)) x y other h b = absurd h
  file_blames draft now f (Ok file) (Err (fault.Cannot w)) x y other h b = absurd h
  file_blames draft now f (Ok file) (Err (fault.SameKey i)) x y other h b = absurd h
  file_blames draft now f (Ok file) (Err (fault.KeyName i)) x y other h b = absurd h
  file_blames draft now f (Ok file) (Err (fault.Tree c)) x y other h b = absurd h
  file_blames draft now f (Ok file) (Err (fault.NameTaken p)) x y other h b = absurd h
  file_blames draft now f (Ok file) (Err (fault.Contended v)) x y other h b = absurd h
  file_blames draft now f (Ok file) (Err (fault.Limit w n)) x y other h b = absurd h
  file_blames draft now f (Ok file) (Err fault.Random) x y other h b = absurd h
  file_blames draft now f (Ok file) (Err fault.Store) x y other h b = absurd h
  file_blames draft now f (Err e) put x y other h b =
      blames_as _ _ x y (λ g. h.1 ∙ fault_to DataFile (Option ListRow) e f g) (λ g. fault_to (Option ListRow) DataFile e f (sym h.1 ∙ g)) b

  row_blames : (f : JobFault) (row : Result ListRow JobFault) (put : Result (Option ListRow) JobFault) (x y : ℕ) → put ≡ (row >>= (λ r. Ok (Some r)))
      → Blames (row ≡ Err f) x y → Blames (put ≡ Err f) x y
  row_blames f (Ok r) put x y h b = blames_as _ _ x y (λ g. absurd (let n : ⊥ = cc in n)) (λ g. absurd (let n : ⊥ = cc in n)) b
  row_blames f (Err e) put x y h b = blames_as _ _ x y (λ g. h ∙ fault_to ListRow (Option ListRow) e f g) (λ g. fault_to (Option ListRow) ListRow e f (sym h ∙ g)) b

  -- what the put of a file counts
  record PutCounts (put : Result (Option ListRow) JobFault) (x y : S) (a b : D) : Type 0 where
    pub count : Blames (put ≡ Err fault.Store) (of.faults x) (of.faults y)
    pub kept : of.keeps x y
    pub drew_count : Blames (put ≡ Err fault.Random) (random.faults a) (random.faults b)

  next_by : (tried : Tried) (draft now : Draft) (put : Result (Option ListRow) JobFault) (x y : S) (a b : D) (all : Bool)
      → holds_all (settings_for tried).rows draft.rows (length draft.entries) ≡ all → PutsNext of random tried draft now put x y a b → PutCounts put x y a b
  next_by tried draft now put x y a b false is p =
      let r = p.rows is in
      record {
        count = file_blames draft now fault.Store r.file put (of.faults x) (of.faults y) (λ h. let g : ⊥ = cc in g) r.comes r.puts.puts.count;
        kept = r.puts.puts.kept;
        drew_count = file_blames draft now fault.Random r.file put (random.faults a) (random.faults b) (λ h. let g : ⊥ = cc in g) r.comes r.puts.draws.count;
      }
  next_by tried draft now put x y a b true is p =
      let m = p.manifest is in
      record {
        count = row_blames fault.Store m.row put (of.faults x) (of.faults y) m.answers m.puts.puts.count;
        kept = m.puts.puts.kept;
        drew_count = row_blames fault.Random m.row put (random.faults a) (random.faults b) m.answers m.puts.draws.count;
      }

  files_counts : (work work_now : Work) (answer : Result Turn JobFault) (x y : S) (a b : D)
      → PutsFiles of random work work_now answer x y a b → Counts of random answer x y a b
  files_counts work work_now answer x y a b p =
      let n = next_by work.tried work.draft work_now.draft p.put x y a b (holds_all (settings_for work.tried).rows work.draft.rows (length work.draft.entries)) refl p.puts in
      subst (λ t. Counts of random t x y a b) (sym p.goes) (record {
        count = comes_blames (behind_file work.tried) fault.Store p.put (of.faults x) (of.faults y) n.count;
        kept = n.kept;
        drew_count = comes_blames (behind_file work.tried) fault.Random p.put (random.faults a) (random.faults b) n.drew_count;
      })

  -- the reading of the parent's list
  rows_fault : (have : Bool) (rows : List ListRow) (f : JobFault) → (◌≡◌ {A = Result (List ListRow) JobFault} (Err (fault.Cannot form.NoRowIds)) (Err f) → ⊥)
      → (if have then Ok rows else Err (fault.Cannot form.NoRowIds)) ≡ Err f → ⊥
  rows_fault true rows f other h = let g : ⊥ = cc in g
  rows_fault false rows f other h = other h

  parent_store : (rows : Result (Vec ListRow Global) TreeFault) → parent_rows rows ≡ Err fault.Store → rows ≡ Err tree.Store
  parent_store (Ok v) h = absurd (rows_fault (have_row_ids v.items) v.items fault.Store (λ k. let g : ⊥ = cc in g) h)
  parent_store (Err tree.Store) h = refl
  parent_store (Err tree.NoMemory) h = absurd (let g : ⊥ = cc in g)
  parent_store (Err (tree.NoSnapshot i)) h = absurd (let g : ⊥ = cc in g)
  parent_store (Err (tree.PlainList i)) h = absurd (let g : ⊥ = cc in g)
  parent_store (Err (tree.Chain c)) h = absurd (let g : ⊥ = cc in g)
  parent_store (Err (tree.BadList i f w)) h = absurd (let g : ⊥ = cc in g)
  parent_store (Err (tree.At p c)) h = absurd (let g : ⊥ = cc in g)

  store_parent : (rows : Result (Vec ListRow Global) TreeFault) → rows ≡ Err tree.Store → parent_rows rows ≡ Err fault.Store
  store_parent rows h = ap parent_rows h

  parent_not_random : (rows : Result (Vec ListRow Global) TreeFault) → parent_rows rows ≡ Err fault.Random → ⊥
  parent_not_random (Ok v) h = rows_fault (have_row_ids v.items) v.items fault.Random (λ k. let g : ⊥ = cc in g) h
  parent_not_random (Err tree.Store) h = let g : ⊥ = cc in g
  parent_not_random (Err tree.NoMemory) h = let g : ⊥ = cc in g
  parent_not_random (Err (tree.NoSnapshot i)) h = let g : ⊥ = cc in g
  parent_not_random (Err (tree.PlainList i)) h = let g : ⊥ = cc in g
  parent_not_random (Err (tree.Chain c)) h = let g : ⊥ = cc in g
  parent_not_random (Err (tree.BadList i f w)) h = let g : ⊥ = cc in g
  parent_not_random (Err (tree.At p c)) h = let g : ⊥ = cc in g

  abbrev to_writing : List ListRow → Place
  to_writing read = place.Writing

  list_counts : (ring : Ring) (parent : ℤ) (work work_now : Work) (answer : Result Turn JobFault) (x y : S) (a b : D)
      → ReadsList of ring parent work work_now answer x y → b ≡ a → Counts of random answer x y a b
  list_counts ring parent work work_now answer x y a b r same = subst (λ t. Counts of random t x y a b) (sym r.goes) (record {
    count = comes_blames to_writing fault.Store r.rows (of.faults x) (of.faults y)
        (blames_as _ _ (of.faults x) (of.faults y) (λ h. r.reads.answers ∙ store_parent r.reads.rows h) (λ h. parent_store r.reads.rows (sym r.reads.answers ∙ h)) r.reads.reads.count);
    kept = r.reads.reads.kept;
    drew_count = undrawn (comes_to to_writing r.rows) a b same
        (comes_not to_writing fault.Random r.rows (λ h. parent_not_random r.reads.rows (sym r.reads.answers ∙ h)));
  })

  -- the put of the list
  abbrev to_committing : KeyRecord → Place
  to_committing put = place.Committing

  put_counts : (work work_now : Work) (answer : Result Turn JobFault) (x y : S) (a b : D)
      → PutsList of random work work_now answer x y a b → Counts of random answer x y a b
  put_counts work work_now answer x y a b p = subst (λ t. Counts of random t x y a b) (sym p.goes) (record {
    count = comes_blames to_committing fault.Store p.list (of.faults x) (of.faults y) p.puts.puts.count;
    kept = p.puts.puts.kept;
    drew_count = comes_blames to_committing fault.Random p.list (random.faults a) (random.faults b) p.puts.draws.count;
  })

  -- the put of the version
  of_version_blames : (tried : Tried) (taken : List ℕ) (f : JobFault) (r : Result Put JobFault) (x y : ℕ)
      → ((versions : List ℕ) → ◌≡◌ {A = Result Turn JobFault} (Err (fault.Contended versions)) (Err f) → ⊥)
      → Blames (r ≡ Err f) x y → Blames (of_version tried taken r ≡ Err f) x y
  of_version_blames tried taken f (Ok put.Done) x y other b = blames_as _ _ x y (λ h. absurd (let g : ⊥ = cc in g)) (λ h. absurd (let g : ⊥ = cc in g)) b
  of_version_blames tried taken f (Ok put.Taken) x y other b = blames_as _ _ x y (λ h. absurd (let g : ⊥ = cc in g)) (λ h. absurd (other _ h)) b
  of_version_blames tried taken f (Err e) x y other b = blames_as _ _ x y (fault_to Put Turn e f) (fault_to Turn Put e f) b

  commit_counts : (now_ms : ℕ) (work : Work) (taken taken_now : List ℕ) (answer : Result Turn JobFault) (x y : S) (a b : D)
      → Commits of random now_ms work taken taken_now answer x y a b → Counts of random answer x y a b
  commit_counts now_ms work taken taken_now answer x y a b c = subst (λ t. Counts of random t x y a b) (sym c.goes) (record {
    count = of_version_blames work.tried taken fault.Store c.put (of.faults x) (of.faults y) (λ v h. let g : ⊥ = cc in g) c.puts.puts.count;
    kept = c.puts.puts.kept;
    drew_count = of_version_blames work.tried taken fault.Random c.put (random.faults a) (random.faults b) (λ v h. let g : ⊥ = cc in g) c.puts.draws.count;
  })

  -- a turn
  pub on_work : (had has : Option Work) (does : Work → Work → Type 0) (P : Type 0) → ((x y : Work) → does x y → P)
      → IsSomeAnd had (λ x. IsSomeAnd has (λ y. does x y)) → P
  on_work None has does P f h = absurd h
  on_work (Some x) None does P f h = absurd h
  on_work (Some x) (Some y) does P f h = f x y h

  pub some_work : (had : Option Work) (does : Work → Type 0) (P : Type 0) → ((x : Work) → does x → P) → IsSomeAnd had does → P
  some_work None does P f h = absurd h
  some_work (Some x) does P f h = f x h

  pub turn_counts : (ring : Ring) (now_ms : ℕ) (lines : List ℕ) (p : Place) (work work_now : Option Work) (taken taken_now : List ℕ) (answer : Result Turn JobFault)
      (x y : S) (a b : D) → IsTurnAt of random ring now_ms lines p work work_now taken taken_now answer x y a b → Counts of random answer x y a b
  turn_counts ring now_ms lines (place.Probing v) work work_now taken taken_now answer x y a b h = probe_counts v answer x y a b h.0 h.3
  turn_counts ring now_ms lines (place.Reading v) work work_now taken taken_now answer x y a b h = version_counts ring v lines work work_now answer x y a b h.0
  turn_counts ring now_ms lines place.Filing work work_now taken taken_now answer x y a b h =
      on_work work work_now (λ had has. PutsFiles of random had has answer x y a b) (Counts of random answer x y a b) (λ had has d. files_counts had has answer x y a b d) h.0
  turn_counts ring now_ms lines (place.Listing p) work work_now taken taken_now answer x y a b h =
      on_work work work_now (λ had has. ReadsList of ring p had has answer x y) (Counts of random answer x y a b) (λ had has d. list_counts ring p had has answer x y a b d h.2) h.0
  turn_counts ring now_ms lines place.Writing work work_now taken taken_now answer x y a b h =
      on_work work work_now (λ had has. PutsList of random had has answer x y a b) (Counts of random answer x y a b) (λ had has d. put_counts had has answer x y a b d) h.0
  turn_counts ring now_ms lines place.Committing work work_now taken taken_now answer x y a b h =
      some_work work (λ had. Commits of random now_ms had taken taken_now answer x y a b) (Counts of random answer x y a b) (λ had d. commit_counts now_ms had taken taken_now answer x y a b d) h.0
  turn_counts ring now_ms lines place.Ended work work_now taken taken_now answer x y a b h = absurd h
