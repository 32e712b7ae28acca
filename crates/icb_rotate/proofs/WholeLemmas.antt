-- A rotation, step by step to its end.
use Rattle.std.specs.Prelude.{◌≡◌, ◌<◌, ◌≤◌, ◌+◌, ◌-◌, ◌*◌, ◌⊎◌, ◌==◌, ℕ, Bool, true, false, List, [], ◌++◌, length, nat_le, nat_lt, if◌then◌else◌, Option, Some, None, IfErr, IfOk, IfSome, IsSome, IsSomeAnd, IsOk, Result, Ok, Err}
use Rattle.std.proofs.Common.{refl, ap, ◌∙◌, sym, subst, arith, inl, inr}
use Rattle.std.proofs.lemmas.Bool.Decides.{nat_tests}
use Rattle.icb_base.specs.Calls.{DrawsText, PutsPath}
use Rattle.icb_base.specs.Causes.{Blames, Rose}
use Rattle.icb_base.specs.Objects.{Objects, object_at, with_object}
use Rattle.icb_base.specs.declared.limits.Limited.TheVariants as limit
use Rattle.icb_base.specs.declared.storage.Store as store
use Rattle.icb_base.specs.declared.transfer.Draws as draws
use Rattle.icb_base.proofs.CallLemmas.{draws_at_rest, draws_twice}
use Rattle.icb_chain.specs.Ring.{Ring}
use Rattle.icb_meta.specs.declared.fields.Fields.{Fields}
use Rattle.icb_table.specs.Standing.{Stands}
use Rattle.icb_table.specs.Table.{Table}
use Rattle.icb_tree.specs.Versions.{first_free, holds_version, last_of, last_version, most_bytes, most_versions, version_of, version_path}
use Rattle.icb_tree.specs.declared.fault.CurrentFault.{CurrentFault}
use Rattle.icb_tree.specs.declared.fault.CurrentFault.TheVariants as current
use Rattle.icb_tree.proofs.VersionLemmas.{current_is_last, goes_on, is_full, stops}
use Rattle.icb_turns.specs.Answers.{AnswersRead, ◌>>=◌}
use Rattle.icb_turns.specs.Probing.{MayFind, behind_free, behind_held, probe_of}
use Rattle.icb_turns.specs.Turns.{IsTurn, keeps_rows}
use Rattle.icb_turns.specs.declared.fault.JobFault.{JobFault}
use Rattle.icb_turns.specs.declared.fault.JobFault.TheVariants as fault
use Rattle.icb_turns.specs.declared.fault.Step.{Step}
use Rattle.icb_turns.specs.declared.fault.Step.TheVariants as step
use Rattle.icb_turns.specs.declared.probing.Probed.{Probed}
use Rattle.icb_turns.specs.declared.probing.Probed.TheVariants as probed
use Rattle.icb_rotate.specs.Drafting.{AnswersDraft, IsDraftOf, master_read, of_current}
use Rattle.icb_rotate.specs.Keeping.{FitsDraft, HasPut, IsRotated}
use Rattle.icb_rotate.specs.Rotating.{IsRotationFault}
use Rattle.icb_rotate.specs.Turning.{AnswersCommit, IsNew, IsTaken, IsTurnAt, MayComeTo, TakesTurn, behind, place_after, step_of}
use Rattle.icb_rotate.specs.Whole.{CurrentDraft, IsPut, KeepsWhole, Rotates, RotatesFiles, RotationKeepsTable, master_of}
use Rattle.icb_rotate.specs.declared.draft.Draft.{Draft}
use Rattle.icb_rotate.proofs.DraftLemmas.{draws_as, fails, fault_to}
use Rattle.icb_rotate.proofs.StandLemmas.{put_is_turn, put_rotates}
use Rattle.icb_rotate.specs.declared.job.RotateJob.{RotateJob}
use Rattle.icb_rotate.specs.declared.job.Place.{Place}
use Rattle.icb_rotate.specs.declared.job.Place.TheVariants as place
use Rattle.icb_rotate.specs.declared.job.Turn.{Turn}
use Rattle.icb_rotate.specs.declared.job.Turn.TheVariants as turn

-- ---- over objects that are told

module _ (files : Objects) (ring : Ring) (id : List ℕ) (now_ms : ℕ) where
  -- what was found, where nothing was changed so far
  abbrev pub FoundAt : List ℕ → Place → Type 0
  FoundAt bytes (place.Probing n) = (bytes ≡ []) × (first_free files (1000002 - n) n ≡ first_free files 1000001 1)
  FoundAt bytes (place.Reading n) = (bytes ≡ []) × (last_version files ≡ Ok n)
  FoundAt bytes (place.Committing d) = (last_version files ≡ Ok d.from) × IsDraftOf (version_of files d.from) ring d.from id now_ms bytes d
  FoundAt bytes place.Ended = ⊥

  -- what a turn leaves
  abbrev pub After : List ℕ → Option Objects → Result Turn JobFault → Type 0
  After bytes now (Ok (turn.To p)) = (now ≡ Some files) × FoundAt bytes p
  After bytes now (Ok (turn.Done v)) = RotatesFiles files ring id now_ms bytes (Ok v) now
  After bytes now (Err e) = RotatesFiles files ring id now_ms bytes (Err e) now

  -- a probe that found this goes on there, or ended early
  found_answer : (bytes : List ℕ) (p : Place) (t : Result Turn JobFault) → FoundAt bytes p → AnswersRead (Ok (turn.To p)) t → After bytes (Some files) t
  found_answer bytes p (Ok q) h a = let same : turn.To p ≡ q = cc in subst (λ x. After bytes (Some files) (Ok x)) same (refl, h)
  found_answer bytes p (Err fault.Store) h a = inl refl
  found_answer bytes p (Err fault.NoMemory) h a = refl
  found_answer bytes p (Err fault.NoTable) h a = absurd (let g : ⊥ = cc in g)
  found_answer bytes p (Err (fault.BadMeta f)) h a = absurd (let g : ⊥ = cc in g)
  found_answer bytes p (Err (fault.BadInput l r)) h a = absurd (let g : ⊥ = cc in g)
  found_answer bytes p (Err (fault.Cannot w)) h a = absurd (let g : ⊥ = cc in g)
  found_answer bytes p (Err (fault.SameKey i)) h a = absurd (let g : ⊥ = cc in g)
  found_answer bytes p (Err (fault.KeyName i)) h a = absurd (let g : ⊥ = cc in g)
  found_answer bytes p (Err (fault.Tree c)) h a = absurd (let g : ⊥ = cc in g)
  found_answer bytes p (Err (fault.NameTaken q)) h a = absurd (let g : ⊥ = cc in g)
  found_answer bytes p (Err (fault.Contended v)) h a = absurd (let g : ⊥ = cc in g)
  found_answer bytes p (Err (fault.Limit w n)) h a = absurd (let g : ⊥ = cc in g)
  found_answer bytes p (Err fault.Random) h a = absurd (let g : ⊥ = cc in g)

  -- no table, or too many versions
  none_answer : (t : Result Turn JobFault) → last_version files ≡ Err current.NoTable → AnswersRead (Err fault.NoTable) t → After [] (Some files) t
  none_answer (Ok q) h a = absurd (let g : ⊥ = cc in g)
  none_answer (Err fault.Store) h a = inl refl
  none_answer (Err fault.NoMemory) h a = refl
  none_answer (Err fault.NoTable) h a = (rw h refl, refl, refl)
  none_answer (Err (fault.BadMeta f)) h a = absurd (let g : ⊥ = cc in g)
  none_answer (Err (fault.BadInput l r)) h a = absurd (let g : ⊥ = cc in g)
  none_answer (Err (fault.Cannot w)) h a = absurd (let g : ⊥ = cc in g)
  none_answer (Err (fault.SameKey i)) h a = absurd (let g : ⊥ = cc in g)
  none_answer (Err (fault.KeyName i)) h a = absurd (let g : ⊥ = cc in g)
  none_answer (Err (fault.Tree c)) h a = absurd (let g : ⊥ = cc in g)
  none_answer (Err (fault.NameTaken q)) h a = absurd (let g : ⊥ = cc in g)
  none_answer (Err (fault.Contended v)) h a = absurd (let g : ⊥ = cc in g)
  none_answer (Err (fault.Limit w n)) h a = absurd (let g : ⊥ = cc in g)
  none_answer (Err fault.Random) h a = absurd (let g : ⊥ = cc in g)

  full_answer : (t : Result Turn JobFault) → last_version files ≡ Err (current.Limit limit.Versions most_versions)
      → AnswersRead (Err (fault.Limit limit.Versions most_versions)) t → After [] (Some files) t
  full_answer (Ok q) h a = absurd (let g : ⊥ = cc in g)
  full_answer (Err fault.Store) h a = inl refl
  full_answer (Err fault.NoMemory) h a = refl
  full_answer (Err fault.NoTable) h a = absurd (let g : ⊥ = cc in g)
  full_answer (Err (fault.BadMeta f)) h a = absurd (let g : ⊥ = cc in g)
  full_answer (Err (fault.BadInput l r)) h a = absurd (let g : ⊥ = cc in g)
  full_answer (Err (fault.Cannot w)) h a = absurd (let g : ⊥ = cc in g)
  full_answer (Err (fault.SameKey i)) h a = absurd (let g : ⊥ = cc in g)
  full_answer (Err (fault.KeyName i)) h a = absurd (let g : ⊥ = cc in g)
  full_answer (Err (fault.Tree c)) h a = absurd (let g : ⊥ = cc in g)
  full_answer (Err (fault.NameTaken q)) h a = absurd (let g : ⊥ = cc in g)
  full_answer (Err (fault.Contended v)) h a = absurd (let g : ⊥ = cc in g)
  full_answer (Err (fault.Limit w n)) h a =
      let same : fault.Limit limit.Versions most_versions ≡ fault.Limit w n = cc in
      (refl, inl (rw h (ap (λ x. Err x) same), refl))
  full_answer (Err fault.Random) h a = absurd (let g : ⊥ = cc in g)

  abbrev Given : Result Probed JobFault → Result Turn JobFault
  Given r = r >>= (λ p. Ok (turn.To (behind p)))

  module _ (n : ℕ) (some : 1 ≤ n) (most : n ≤ 1000001) (before : first_free files (1000002 - n) n ≡ first_free files 1000001 1) where
    -- a version that is held
    held_found : (t : Result Turn JobFault) (many : Bool) → nat_lt most_versions n ≡ many → holds_version files n ≡ true
        → AnswersRead (Given (if many then Err (fault.Limit limit.Versions most_versions) else Ok (probed.Next (n + 1)))) t → After [] (Some files) t
    held_found t false few e a =
        found_answer [] (place.Probing (n + 1)) t (refl, goes_on (Some files) n true (omega (arith, most)) refl before (sym e)) a
    held_found t true many e a =
        let past : 1000002 ≤ n + 1 = grind (arith, nat_tests) in
        full_answer t (is_full (Some files) (n + 1) past (goes_on (Some files) n true (omega (arith, most)) refl before (sym e))) a

    -- one that isn't
    free_found : (t : Result Turn JobFault) (first : Bool) → nat_le n 1 ≡ first → holds_version files n ≡ false
        → AnswersRead (Given (if first then Err fault.NoTable else Ok (probed.Found (n - 1)))) t → After [] (Some files) t
    free_found t true e none a =
        let one : n ≡ 1 = grind (arith, nat_tests, some) in
        let is : Err current.NoTable ≡ last_of (Some n) = subst (λ m. Err current.NoTable ≡ last_of (Some m)) (sym one) refl in
        none_answer t (stops (Some files) n false (Err current.NoTable) (omega (arith, most)) refl before (sym none) is) a
    free_found t false e none a =
        let is : Ok (n - 1) ≡ last_of (Some n) = not_first n e in
        found_answer [] (place.Reading (n - 1)) t (refl, stops (Some files) n false (Ok (n - 1)) (omega (arith, most)) refl before (sym none) is) a
      where
        by_one : (b : Bool) (m : ℕ) → (m == 1) ≡ b → nat_le m 1 ≡ false → ◌≡◌ {A = Result ℕ CurrentFault} (Ok (m - 1)) (if b then Err current.NoTable else Ok (m - 1))
        by_one true m is e = absurd (let g : ⊥ = grind (arith, nat_tests) in g)
        by_one false m is e = refl

        not_first : (m : ℕ) → nat_le m 1 ≡ false → Ok (m - 1) ≡ last_of (Some m)
        not_first m e = by_one (m == 1) m refl e

    probe_by : (t : Result Turn JobFault) (held : Bool) → holds_version files n ≡ held
        → AnswersRead (Given (if held then behind_held n else behind_free n)) t → After [] (Some files) t
    probe_by t true e a = held_found t (nat_lt most_versions n) refl e a
    probe_by t false e a = free_found t (nat_le n 1) refl e a

  probe_found : (n : ℕ) (bytes : List ℕ) (t : Result Turn JobFault) → 1 ≤ n → n ≤ 1000001 → FoundAt bytes (place.Probing n)
      → AnswersRead (Given (probe_of files n)) t → After bytes (Some files) t
  probe_found n bytes t some most h a =
      subst (λ b. After b (Some files) t) (sym h.0) (probe_by n some most h.1 t (holds_version files n) refl a)

  -- what a version's metadata make of the answer
  read_at : (n : ℕ) → last_version files ≡ Ok n → master_of files ring id ≡ master_read (version_of files n) ring n id
  read_at n h = ap (λ r. of_current r >>= (λ last. master_read (version_of files last) ring last id)) h

  draft_found : (n : ℕ) (bytes : List ℕ) (d : Result Draft JobFault) → last_version files ≡ Ok n
      → AnswersDraft (version_of files n) ring n id now_ms bytes d → After bytes (Some files) (d >>= (λ x. Ok (turn.To (place.Committing x))))
  draft_found n bytes (Ok d) h a = (
    refl,
    (
      subst (λ m. last_version files ≡ Ok m) (sym a.is.from) h,
      subst (λ m. IsDraftOf (version_of files m) ring m id now_ms bytes d) (sym a.is.from) a,
    ),
  )
  draft_found n bytes (Err fault.Store) h a = inl refl
  draft_found n bytes (Err fault.NoMemory) h a = refl
  draft_found n bytes (Err fault.Random) h a = (subst IsOk (sym (read_at n h)) a.0, a.1, refl)
  draft_found n bytes (Err fault.NoTable) h a = (read_at n h ∙ a.0, a.1, refl)
  draft_found n bytes (Err (fault.BadMeta f)) h a = (read_at n h ∙ a.0, a.1, refl)
  draft_found n bytes (Err (fault.BadInput l r)) h a = (read_at n h ∙ a.0, a.1, refl)
  draft_found n bytes (Err (fault.Cannot w)) h a = (read_at n h ∙ a.0, a.1, refl)
  draft_found n bytes (Err (fault.SameKey i)) h a = (read_at n h ∙ a.0, a.1, refl)
  draft_found n bytes (Err (fault.KeyName i)) h a = (read_at n h ∙ a.0, a.1, refl)
  draft_found n bytes (Err (fault.Tree c)) h a = (read_at n h ∙ a.0, a.1, refl)
  draft_found n bytes (Err (fault.NameTaken q)) h a = (read_at n h ∙ a.0, a.1, refl)
  draft_found n bytes (Err (fault.Contended v)) h a = (read_at n h ∙ a.0, a.1, refl)
  draft_found n bytes (Err (fault.Limit w m)) h a = (refl, inl (read_at n h ∙ a.0, a.1))

  -- ---- the put

  module _ (d : Draft) (bytes : List ℕ) (h : FoundAt bytes (place.Committing d)) where
    next_free : IsSome (object_at files (version_path (d.from + 1))) → ⊥
    next_free is = let free : holds_version files (d.from + 1) ≡ false = (current_is_last files d.from h.0).2 in let g : ⊥ = cc in g

    abbrev drafted : CurrentDraft files ring id now_ms bytes
    drafted = record { last = d.from; is_last = h.0; draft = d; is = h.1 }

    was_put : (now : Option Objects) (version : ℕ) → version ≡ d.from + 1 → length d.text ≤ most_bytes → object_at files (version_path (d.from + 1)) ≡ None
        → now ≡ Some (with_object files (version_path (d.from + 1)) d.text) → IsPut files ring id now_ms bytes version now
    was_put now version e short free put =
        subst (λ v. IsPut files ring id now_ms bytes v now) (sym e)
        (record { current = drafted; number = refl; short = short; free = free; put = put })

    put_failed : (now : Option Objects) → length d.text ≤ most_bytes
        → ((now ≡ Some files) ⊎ ((object_at files (version_path (d.from + 1)) ≡ None) × (now ≡ Some (with_object files (version_path (d.from + 1)) d.text))))
        → After bytes now (Err fault.Store)
    put_failed now short (inl same) = inl same
    put_failed now short (inr put) = inr (d.from + 1, was_put now (d.from + 1) refl short put.0 put.1)

-- ---- over any store

-- so far a rotation goes on, and how far it still has to go
abbrev pub IsRunning : Place → Type 0
IsRunning (place.Probing n) = (1 ≤ n) × (n ≤ 1000001)
IsRunning (place.Reading n) = (1 ≤ n) × (n ≤ 1000000)
IsRunning (place.Committing d) = 1 ≤ d.from
IsRunning place.Ended = ⊥

abbrev pub steps_left : Place → ℕ
steps_left (place.Probing n) = 3 * (1000002 - n) + 2
steps_left (place.Reading n) = 3 * (1000002 - (n + 1)) + 1
steps_left (place.Committing d) = 3 * (1000002 - (d.from + 1))
steps_left place.Ended = 0

module _ {S D : Type 0} (of : store.Ghosts S) (random : draws.Ghosts D) (ring : Ring) (id : List ℕ) (now_ms : ℕ) where
  -- a rotation goes on: no call failed, nothing was put, and these bytes were drawn
  pub record Running (p : Place) (x0 x : S) (d0 d : D) : Type 0 where
    pub runs : IsRunning p
    pub calm : of.faults x ≡ of.faults x0
    pub kept : of.keeps x0 x
    pub bytes : List ℕ
    pub draws : DrawsText random bytes ⊥ d0 d
    pub told : IfSome (of.held x0) (λ files. (of.held x ≡ Some files) × FoundAt files ring id now_ms bytes p)

  -- what a step leaves
  pub record GoneOn (p q : Place) (x0 y : S) (d0 e : D) : Type 0 where
    pub running : Running q x0 y d0 e
    pub fewer : steps_left q < steps_left p

  abbrev pub Outcome : Place → Result Turn JobFault → S → S → D → D → Type 0
  Outcome p (Ok (turn.To q)) x0 y d0 e = GoneOn p q x0 y d0 e
  Outcome p (Ok (turn.Done v)) x0 y d0 e = Rotates of random ring id now_ms (Ok v) x0 y d0 e
  Outcome p (Err f) x0 y d0 e = Rotates of random ring id now_ms (Err f) x0 y d0 e

  -- where a turn goes on
  abbrev MovesFrom : Place → Result Turn JobFault → Type 0
  MovesFrom p (Ok (turn.To q)) = IsRunning q × (steps_left q < steps_left p)
  MovesFrom p other = Unit {0}

  probe_moves : (n : ℕ) (t : Result Turn JobFault) → n ≤ 1000001 → MayComeTo n t → MovesFrom (place.Probing n) t
  probe_moves n (Ok (turn.To (place.Probing m))) most h =
      let next = h.0 in let few = h.1 in
      ((omega (arith, next), omega (arith, next, few)), omega (arith, next, few))
  probe_moves n (Ok (turn.To (place.Reading m))) most h =
      let next = h.0 in let some = h.1 in
      ((some, omega (arith, next, most)), omega (arith, next, most))
  probe_moves n (Ok (turn.To (place.Committing d))) most h = absurd h
  probe_moves n (Ok (turn.To place.Ended)) most h = absurd h
  probe_moves n (Ok (turn.Done v)) most h = tt
  probe_moves n (Err e) most h = tt

  draft_moves : (n : ℕ) (d : Result Draft JobFault) → 1 ≤ n → IfOk d (λ draft. draft.from ≡ n)
      → MovesFrom (place.Reading n) (d >>= (λ x. Ok (turn.To (place.Committing x))))
  draft_moves n (Ok d) some h = (omega (arith, some, h), omega (arith, h))
  draft_moves n (Err e) some h = tt

  commit_moves : (d : Draft) (taken taken_now : List ℕ) (t : Result Turn JobFault) → AnswersCommit d taken taken_now t → MovesFrom (place.Committing d) t
  commit_moves d taken taken_now (Ok (turn.To (place.Probing m))) h =
      let next : m ≡ d.from + 1 + 1 = h.2.0 in
      let few : d.from < 1000000 = d.few in
      ((omega (arith, next), omega (arith, next, few)), omega (arith, next, few))
  commit_moves d taken taken_now (Ok (turn.To (place.Reading m))) h = absurd h.2
  commit_moves d taken taken_now (Ok (turn.To (place.Committing x))) h = absurd h.2
  commit_moves d taken taken_now (Ok (turn.To place.Ended)) h = absurd h.2
  commit_moves d taken taken_now (Ok (turn.Done v)) h = tt
  commit_moves d taken taken_now (Err e) h = tt

  module _ (p : Place) (x0 x y : S) (d0 d e : D) (calm : of.faults x ≡ of.faults x0) (kept : of.keeps x0 y) (bytes : List ℕ) where
    -- the count since the beginning
    since : (one two : Type 0) → (one → two) → (two → one) → Blames one (of.faults x) (of.faults y) → Blames two (of.faults x0) (of.faults y)
    since one two to from b =
        let later = b.later in
        record {
          later = omega (arith, calm, later);
          rose = λ h. subst (λ n. Rose n (of.faults y)) calm (b.rose (from h));
          stays = λ none. b.stays (λ h. none (to h)) ∙ calm;
        }

    close : (t : Result Turn JobFault) → Blames (t ≡ Err fault.Store) (of.faults x) (of.faults y) → DrawsText random bytes (t ≡ Err fault.Random) d0 e
        → IfSome (of.held x0) (λ files. After files ring id now_ms bytes (of.held y) t) → MovesFrom p t → IfErr t IsRotationFault → Outcome p t x0 y d0 e
    close (Ok (turn.To q)) count drew told moves only = record {
      running = record {
        runs = moves.0;
        calm = count.stays (λ h. cc) ∙ calm;
        kept = kept;
        bytes = bytes;
        draws = draws_as random bytes (Ok (turn.To q) ≡ Err fault.Random) ⊥ d0 e (λ h. cc) (λ h. absurd h) drew;
        told = told;
      };
      fewer = moves.1;
    }
    close (Ok (turn.Done v)) count drew told moves only = record {
      bytes = bytes;
      answers = told;
      only = tt;
      count = since (Ok (turn.Done v) ≡ Err fault.Store) (Ok v ≡ Err fault.Store) (λ h. cc) (λ h. cc) count;
      kept = kept;
      draws = draws_as random bytes (Ok (turn.Done v) ≡ Err fault.Random) (Ok v ≡ Err fault.Random) d0 e (λ h. cc) (λ h. cc) drew;
    }
    close (Err f) count drew told moves only = record {
      bytes = bytes;
      answers = told;
      only = only;
      count = since (fails {A = Turn} f ≡ Err fault.Store) (fails {A = ℕ} f ≡ Err fault.Store) (fault_to Turn ℕ f fault.Store) (fault_to ℕ Turn f fault.Store) count;
      kept = kept;
      draws = draws_as random bytes (fails {A = Turn} f ≡ Err fault.Random) (fails {A = ℕ} f ≡ Err fault.Random) d0 e
          (fault_to Turn ℕ f fault.Random) (fault_to ℕ Turn f fault.Random) drew;
    }

  -- what was found, and what is answered of it now
  told_by : (o hx : Option Objects) (F P Q : Objects → Type 0) → ((files : Objects) → F files → P files → Q files)
      → IfSome o (λ files. (hx ≡ Some files) × F files) → IfSome hx P → IfSome o Q
  told_by None hx F P Q f h p = tt
  told_by (Some files) hx F P Q f h p = f files h.1 (subst (λ x. IfSome x P) h.0 p)

  -- a store that was only read holds what it held
  told_same : (o hx hy : Option Objects) (t : Result Turn JobFault) (bytes : List ℕ) (F P : Objects → Type 0) → hy ≡ hx
      → ((files : Objects) → F files → P files → After files ring id now_ms bytes (Some files) t)
      → IfSome o (λ files. (hx ≡ Some files) × F files) → IfSome hx P → IfSome o (λ files. After files ring id now_ms bytes hy t)
  told_same None hx hy t bytes F P same f h p = tt
  told_same (Some files) hx hy t bytes F P same f h p =
      subst (λ o. After files ring id now_ms bytes o t) (sym (same ∙ h.0)) (f files h.1 (subst (λ x. IfSome x P) h.0 p))

  not_random_probe : (n : ℕ) (t : Result Turn JobFault) → MayComeTo n t → t ≡ Err fault.Random → ⊥
  not_random_probe n (Ok q) h is = cc
  not_random_probe n (Err e) h is =
      let same : e ≡ fault.Random = cc in subst (λ x. MayFind n (Err x)) same h

  not_random_commit : (d : Draft) (taken taken_now : List ℕ) (t : Result Turn JobFault) → AnswersCommit d taken taken_now t → t ≡ Err fault.Random → ⊥
  not_random_commit d taken taken_now t h is =
      let x = subst (λ r. AnswersCommit d taken taken_now r) is h in x.2

  abbrev PutsDraft : Draft → S → S → Result Turn JobFault → Type 0
  PutsDraft draft x y t = PutsPath of (version_path (draft.from + 1)) draft.text (t ≡ Ok (turn.Done (draft.from + 1))) (IsTaken t) (t ≡ Err fault.Store) x y

  -- the put of a draft, where nothing was changed before it
  commit_told : (draft : Draft) (taken taken_now bytes : List ℕ) (x y : S) (o : Option Objects) (t : Result Turn JobFault)
      → IfSome o (λ files. (of.held x ≡ Some files) × FoundAt files ring id now_ms bytes (place.Committing draft)) → AnswersCommit draft taken taken_now t
      → PutsDraft draft x y t → IfSome o (λ files. After files ring id now_ms bytes (of.held y) t)
  commit_told draft taken taken_now bytes x y None t h a p = tt
  commit_told draft taken taken_now bytes x y (Some files) t h a p = by_answer t a p
    where
      here : (P : Objects → Type 0) → IfSome (of.held x) P → P files
      here P q = subst (λ z. IfSome z P) h.0 q

      not_taken : IfSome (of.held x) (λ f. IsSome (object_at f (version_path (draft.from + 1))) × (of.held y ≡ Some f)) → ⊥
      not_taken q = next_free files ring id now_ms draft bytes h.1 ((here (λ f. IsSome (object_at f (version_path (draft.from + 1))) × (of.held y ≡ Some f)) q).0)

      by_answer : (t : Result Turn JobFault) → AnswersCommit draft taken taken_now t → PutsDraft draft x y t → After files ring id now_ms bytes (of.held y) t
      by_answer (Ok (turn.Done v)) a p =
          let put = here (λ f. (object_at f (version_path (draft.from + 1)) ≡ None) × (of.held y ≡ Some (with_object f (version_path (draft.from + 1)) draft.text))) (p.done (ap (λ n. Ok (turn.Done n)) a.0)) in
          was_put files ring id now_ms draft bytes h.1 (of.held y) v a.0 a.2 put.0 put.1
      by_answer (Ok (turn.To (place.Probing n))) a p = absurd (not_taken (p.taken tt))
      by_answer (Ok (turn.To (place.Reading n))) a p = absurd a.2
      by_answer (Ok (turn.To (place.Committing d))) a p = absurd a.2
      by_answer (Ok (turn.To place.Ended)) a p = absurd a.2
      by_answer (Err fault.NoMemory) a p = p.none (λ h. cc) (λ h. h) (λ h. cc) ∙ h.0
      by_answer (Err (fault.Limit w n)) a p = (
        p.none (λ h. cc) (λ h. h) (λ h. cc) ∙ h.0,
        inr (a.2, a.3, record { current = drafted files ring id now_ms draft bytes h.1; long = a.1 }),
      )
      by_answer (Err fault.Store) a p = put_failed files ring id now_ms draft bytes h.1 (of.held y) a.1
          (here (λ f. (of.held y ≡ Some f) ⊎ ((object_at f (version_path (draft.from + 1)) ≡ None) × (of.held y ≡ Some (with_object f (version_path (draft.from + 1)) draft.text)))) (p.failed refl))
      by_answer (Err (fault.Contended v)) a p = absurd (not_taken (p.taken tt))
      by_answer (Err fault.NoTable) a p = absurd a.2
      by_answer (Err (fault.BadMeta f)) a p = absurd a.2
      by_answer (Err (fault.BadInput l r)) a p = absurd a.2
      by_answer (Err (fault.Cannot w)) a p = absurd a.2
      by_answer (Err (fault.SameKey i)) a p = absurd a.2
      by_answer (Err (fault.KeyName i)) a p = absurd a.2
      by_answer (Err (fault.Tree c)) a p = absurd a.2
      by_answer (Err (fault.NameTaken q)) a p = absurd a.2
      by_answer (Err fault.Random) a p = absurd a.2

  turn_outcome : (twice : (x y z : S) → of.keeps x y → of.keeps y z → of.keeps x z) (p : Place) (taken taken_now : List ℕ) (t : Result Turn JobFault)
      (x0 x y : S) (d0 d e : D) → Running p x0 x d0 d → IsTurnAt of random ring now_ms id p taken taken_now t x y d e → IfErr t IsRotationFault → Outcome p t x0 y d0 e
  turn_outcome twice (place.Probing n) taken taken_now t x0 x y d0 d e r h only =
      let pr = h.0 in
      close (place.Probing n) x0 x y d0 d e r.calm (twice x0 x y r.kept pr.reads.kept) r.bytes t pr.reads.count
      (subst (λ z. DrawsText random r.bytes (t ≡ Err fault.Random) d0 z) (sym h.2)
      (draws_as random r.bytes ⊥ (t ≡ Err fault.Random) d0 d (λ n. absurd n) (not_random_probe n t pr.may) r.draws))
      (told_same (of.held x0) (of.held x) (of.held y) t r.bytes (λ files. FoundAt files ring id now_ms r.bytes (place.Probing n))
      (λ files. AnswersRead (probe_of files n >>= (λ p. Ok (turn.To (behind p)))) t) pr.reads.same
      (λ files f a. probe_found files ring id now_ms n r.bytes t r.runs.0 r.runs.1 f a) r.told pr.answers)
      (probe_moves n t r.runs.1 pr.may) only
  turn_outcome twice (place.Reading n) taken taken_now t x0 x y d0 d e r h only =
      let dr = h.0 in
      let to : Result Turn JobFault = dr.draft >>= (λ a. Ok (turn.To (place.Committing a))) in
      subst (λ z. Outcome (place.Reading n) z x0 y d0 e) (sym dr.goes)
      (close (place.Reading n) x0 x y d0 d e r.calm (twice x0 x y r.kept dr.drafts.reads.kept) (r.bytes ++ dr.drafts.bytes) to
      (drafted_count dr.draft dr.drafts.reads.count)
      (drafted_draws r dr.draft (draws_twice random r.bytes dr.drafts.bytes ⊥ (dr.draft ≡ Err fault.Random) d0 d e (λ n. n) r.draws dr.drafts.draws))
      (told_same (of.held x0) (of.held x) (of.held y) to (r.bytes ++ dr.drafts.bytes) (λ files. FoundAt files ring id now_ms r.bytes (place.Reading n))
      (λ files. AnswersDraft (version_of files n) ring n id now_ms dr.drafts.bytes dr.draft) dr.drafts.reads.same
      (λ files f a. subst (λ b. After files ring id now_ms (b ++ dr.drafts.bytes) (Some files) to) (sym f.0) (draft_found files ring id now_ms n dr.drafts.bytes dr.draft f.1 a)) r.told dr.drafts.answers)
      (draft_moves n dr.draft r.runs.0 dr.drafts.from) (subst (λ z. IfErr z IsRotationFault) dr.goes only))
    where
      drafted_count : (a : Result Draft JobFault) → Blames (a ≡ Err fault.Store) (of.faults x) (of.faults y)
          → Blames ((a >>= (λ z. Ok (turn.To (place.Committing z)))) ≡ Err fault.Store) (of.faults x) (of.faults y)
      drafted_count (Ok z) b = record { later = b.later; rose = λ h. absurd (let g : ⊥ = cc in g); stays = λ none. b.stays (λ h. cc) }
      drafted_count (Err f) b = record {
        later = b.later;
        rose = λ h. b.rose (fault_to Turn Draft f fault.Store h);
        stays = λ none. b.stays (λ h. none (fault_to Draft Turn f fault.Store h));
      }

      drafted_draws : Running (place.Reading n) x0 x d0 d → (a : Result Draft JobFault) → DrawsText random (r.bytes ++ h.0.drafts.bytes) (a ≡ Err fault.Random) d0 e
          → DrawsText random (r.bytes ++ h.0.drafts.bytes) ((a >>= (λ z. Ok (turn.To (place.Committing z)))) ≡ Err fault.Random) d0 e
      drafted_draws u (Ok z) b = draws_as random (r.bytes ++ h.0.drafts.bytes) (Ok z ≡ Err fault.Random) (Ok (turn.To (place.Committing z)) ≡ Err fault.Random) d0 e (λ k. cc) (λ k. cc) b
      drafted_draws u (Err f) b = draws_as random (r.bytes ++ h.0.drafts.bytes) (fails {A = Draft} f ≡ Err fault.Random) (fails {A = Turn} f ≡ Err fault.Random) d0 e
          (fault_to Draft Turn f fault.Random) (fault_to Turn Draft f fault.Random) b
  turn_outcome twice (place.Committing draft) taken taken_now t x0 x y d0 d e r h only =
      let co = h.0 in
      close (place.Committing draft) x0 x y d0 d e r.calm (twice x0 x y r.kept co.puts.kept) r.bytes t co.puts.count
      (subst (λ z. DrawsText random r.bytes (t ≡ Err fault.Random) d0 z) (sym h.1)
      (draws_as random r.bytes ⊥ (t ≡ Err fault.Random) d0 d (λ n. absurd n) (not_random_commit draft taken taken_now t co.answers) r.draws))
      (commit_told draft taken taken_now r.bytes x y (of.held x0) t r.told co.answers co.puts)
      (commit_moves draft taken taken_now t co.answers) only
  turn_outcome twice place.Ended taken taken_now t x0 x y d0 d e r h only = absurd h

  -- what a step leaves, by its answer
  abbrev pub StepOutcome : Place → Place → Step → S → S → D → D → Type 0
  StepOutcome p q step.Again x0 y d0 e = GoneOn p q x0 y d0 e
  StepOutcome p q (step.Done snapshot v) x0 y d0 e = Rotates of random ring id now_ms (Ok v) x0 y d0 e
  StepOutcome p q (step.Refused f) x0 y d0 e = Rotates of random ring id now_ms (Err f) x0 y d0 e

  by_turn : (p : Place) (t : Result Turn JobFault) (x0 y : S) (d0 e : D) → Outcome p t x0 y d0 e → StepOutcome p (place_after t) (step_of t) x0 y d0 e
  by_turn p (Ok (turn.To q)) x0 y d0 e h = h
  by_turn p (Ok (turn.Done v)) x0 y d0 e h = h
  by_turn p (Err f) x0 y d0 e h = h

  pub step_outcome : (twice : (x y z : S) → of.keeps x y → of.keeps y z → of.keeps x z) (job job_now : RotateJob) (answer : Step)
      (x0 x y : S) (d0 d e : D) → job.id ≡ id → Running job.place x0 x d0 d → TakesTurn of random ring now_ms job job_now answer x y d e
      → StepOutcome job.place job_now.place answer x0 y d0 e
  step_outcome twice job job_now answer x0 x y d0 d e same r h =
      subst (λ a. StepOutcome job.place job_now.place a x0 y d0 e) (sym h.answers)
      (subst (λ q. StepOutcome job.place q (step_of h.turn) x0 y d0 e) (sym h.goes)
      (by_turn job.place h.turn x0 y d0 e (turn_outcome twice job.place job.taken job_now.taken h.turn x0 x y d0 d e r
      (subst (λ i. IsTurnAt of random ring now_ms i job.place job.taken job_now.taken h.turn x y d e) same h.is_turn) h.only)))

  -- a rotation that has done nothing
  pub begins : (rest : (x : S) → of.keeps x x) (job : RotateJob) (x : S) (d : D) → IsNew id job → Running job.place x x d d
  begins rest job x d new = subst (λ p. Running p x x d d) (sym new.place) (record {
    runs = (omega arith, omega arith);
    calm = refl;
    kept = rest x;
    bytes = [];
    draws = draws_at_rest random ⊥ d (λ n. n);
    told = nothing_found (of.held x);
  })
    where
      nothing_found : (o : Option Objects) → IfSome o (λ files. (o ≡ Some files) × FoundAt files ring id now_ms [] (place.Probing 1))
      nothing_found None = tt
      nothing_found (Some files) = (refl, (refl, refl))

-- ---- what a rotation keeps

module _ (ring : Ring) (id : List ℕ) (files : Objects) (table : Table) where
  refused_keeps : (e : JobFault) → HasPut id ring files files table (step.Refused e)
  refused_keeps fault.NoTable = refl
  refused_keeps (fault.BadMeta f) = refl
  refused_keeps (fault.BadInput l r) = refl
  refused_keeps (fault.Cannot w) = refl
  refused_keeps (fault.SameKey i) = refl
  refused_keeps (fault.KeyName i) = refl
  refused_keeps (fault.Tree c) = refl
  refused_keeps (fault.NameTaken q) = refl
  refused_keeps (fault.Contended v) = refl
  refused_keeps (fault.Limit w n) = refl
  refused_keeps fault.Random = refl
  refused_keeps fault.Store = inl refl
  refused_keeps fault.NoMemory = refl

  module _ (meta : Fields) (stands : Stands files meta ring table) where
    abbrev Kept : Option Objects → Result ℕ JobFault → Type 0
    Kept now answer = IsSomeAnd now (λ files_now. KeepsWhole id ring files files_now table answer)

    nothing_put : (now : Option Objects) (e : JobFault) → now ≡ Some files → Kept now (Err e)
    nothing_put now e same = subst (λ o. Kept o (Err e)) (sym same)
        (record { has_put = refused_keeps e; meta = meta; stands = stands })

    module _ (now_ms : ℕ) (bytes : List ℕ) (version : ℕ) (now : Option Objects) (p : IsPut files ring id now_ms bytes version now) where
      abbrev draft : Draft
      draft = p.current.draft

      from_is : draft.from ≡ p.current.last
      from_is = p.current.is.is.from

      fits : FitsDraft id ring files draft
      fits = record {
        now_ms = now_ms;
        drawn = bytes;
        is = subst (λ n. IsDraftOf (version_of files n) ring n id now_ms bytes draft) (sym from_is) p.current.is;
      }

      next_is : version ≡ draft.from + 1
      next_is = p.number ∙ ap (λ n. n + 1) (sym from_is)

      free : object_at files (version_path (draft.from + 1)) ≡ None
      free = subst (λ n. object_at files (version_path n) ≡ None) next_is p.free

      rotates : IsRotated id ring files (with_object files (version_path (draft.from + 1)) draft.text) table (draft.from + 1)
      rotates = put_rotates files ring table id draft fits free meta stands

      put_now : now ≡ Some (with_object files (version_path (draft.from + 1)) draft.text)
      put_now = p.put ∙ ap (λ n. Some (with_object files (version_path n) draft.text)) next_is

      its_turn : IsTurn [] ring files meta (with_object files (version_path (draft.from + 1)) draft.text) table keeps_rows
      its_turn = put_is_turn files ring table id draft fits free meta stands

      kept_done : Kept now (Ok version)
      kept_done = subst (λ o. Kept o (Ok version)) (sym put_now)
          (subst (λ n. KeepsWhole id ring files (with_object files (version_path (draft.from + 1)) draft.text) table (Ok n)) (sym next_is)
          (record { has_put = rotates; meta = its_turn.meta; stands = its_turn.stands }))

      kept_failed : Kept now (Err fault.Store)
      kept_failed = subst (λ o. Kept o (Err fault.Store)) (sym put_now)
          (record { has_put = inr (draft.from + 1, rotates); meta = its_turn.meta; stands = its_turn.stands })

    answer_keeps : (now_ms : ℕ) (bytes : List ℕ) (answer : Result ℕ JobFault) (now : Option Objects)
        → RotatesFiles files ring id now_ms bytes answer now → Kept now answer
    answer_keeps now_ms bytes (Ok v) now h = kept_done now_ms bytes v now h
    answer_keeps now_ms bytes (Err fault.Store) now (inl same) = nothing_put now fault.Store same
    answer_keeps now_ms bytes (Err fault.Store) now (inr put) = kept_failed now_ms bytes put.0 now put.1
    answer_keeps now_ms bytes (Err fault.NoMemory) now h = nothing_put now fault.NoMemory h
    answer_keeps now_ms bytes (Err fault.Random) now h = nothing_put now fault.Random h.2
    answer_keeps now_ms bytes (Err (fault.Limit w n)) now h = nothing_put now (fault.Limit w n) h.0
    answer_keeps now_ms bytes (Err fault.NoTable) now h = nothing_put now fault.NoTable h.2
    answer_keeps now_ms bytes (Err (fault.BadMeta f)) now h = nothing_put now (fault.BadMeta f) h.2
    answer_keeps now_ms bytes (Err (fault.BadInput l r)) now h = nothing_put now (fault.BadInput l r) h.2
    answer_keeps now_ms bytes (Err (fault.Cannot w)) now h = nothing_put now (fault.Cannot w) h.2
    answer_keeps now_ms bytes (Err (fault.SameKey i)) now h = nothing_put now (fault.SameKey i) h.2
    answer_keeps now_ms bytes (Err (fault.KeyName i)) now h = nothing_put now (fault.KeyName i) h.2
    answer_keeps now_ms bytes (Err (fault.Tree c)) now h = nothing_put now (fault.Tree c) h.2
    answer_keeps now_ms bytes (Err (fault.NameTaken q)) now h = nothing_put now (fault.NameTaken q) h.2
    answer_keeps now_ms bytes (Err (fault.Contended v)) now h = nothing_put now (fault.Contended v) h.2

pub rotation_keeps : {S D : Type 0} (of : store.Ghosts S) (random : draws.Ghosts D) (ring : Ring) (id : List ℕ) (now_ms : ℕ)
    (answer : Result ℕ JobFault) (x y : S) (d e : D) → Rotates of random ring id now_ms answer x y d e → RotationKeepsTable of ring id answer x y
rotation_keeps of random ring id now_ms answer x y d e h = over (of.held x) h.answers
  where
    over : (o : Option Objects) → IfSome o (λ files. RotatesFiles files ring id now_ms h.bytes answer (of.held y))
        → IfSome o (λ files. (meta : Fields) (table : Table) → Stands files meta ring table
        → IsSomeAnd (of.held y) (λ files_now. KeepsWhole id ring files files_now table answer))
    over None a = tt
    over (Some files) a = λ meta table stands. answer_keeps ring id files table meta stands now_ms h.bytes answer (of.held y) a
