-- A step over a store that stands for a table.
use Rattle.std.specs.Prelude.{◌≡◌, ◌+◌, ◌⊎◌, ℕ, List, [], Option, Some, None, IfErr, IfSome, IsSome, IsSomeAnd, Result, Ok, Err}
use Rattle.std.proofs.Common.{refl, ap, ◌∙◌, sym, subst, inl, inr}
use Rattle.icb_base.specs.Calls.{PutsPath}
use Rattle.icb_base.specs.Objects.{Grows, Objects, object_at, with_object}
use Rattle.icb_base.specs.declared.storage.Store as store
use Rattle.icb_base.specs.declared.transfer.Draws as draws
use Rattle.icb_chain.specs.Ring.{Ring}
use Rattle.icb_meta.specs.declared.fields.Fields.{Fields}
use Rattle.icb_table.specs.Standing.{Stands}
use Rattle.icb_table.specs.Table.{Table}
use Rattle.icb_tree.specs.Versions.{version_of, version_path}
use Rattle.icb_turns.specs.Answers.{AnswersRead, ◌>>=◌}
use Rattle.icb_turns.specs.Probing.{MayFind, probe_of}
use Rattle.icb_turns.proofs.GrownLemmas.{rest_is_turn}
use Rattle.icb_turns.specs.declared.fault.JobFault.{JobFault}
use Rattle.icb_turns.specs.declared.fault.JobFault.TheVariants as fault
use Rattle.icb_turns.specs.declared.fault.Step.{Step}
use Rattle.icb_turns.specs.declared.fault.Step.TheVariants as step
use Rattle.icb_turns.specs.declared.probing.Probed.{Probed}
use Rattle.icb_turns.specs.declared.probing.Probed.TheVariants as probed
use Rattle.icb_rotate.specs.Drafting.{AnswersDraft, IsDraftOf}
use Rattle.icb_rotate.specs.Keeping.{FitsDraft, FitsPlace, FitsWhenGrown, HasPut, KeepsTable, NewFits, StepKeepsTable}
use Rattle.icb_rotate.specs.Rotating.{IsRotationFault}
use Rattle.icb_rotate.specs.Turning.{AnswersCommit, IsTaken, IsTurnAt, TakesTurn, behind, place_after, step_of}
use Rattle.icb_rotate.specs.declared.draft.Draft.{Draft}
use Rattle.icb_rotate.specs.declared.job.Place.{Place}
use Rattle.icb_rotate.specs.declared.job.Place.TheVariants as place
use Rattle.icb_rotate.specs.declared.job.RotateJob.{RotateJob}
use Rattle.icb_rotate.specs.declared.job.Turn.{Turn}
use Rattle.icb_rotate.specs.declared.job.Turn.TheVariants as turn
use Rattle.icb_rotate.proofs.StandLemmas.{put_is_turn, put_rotates}
use Rattle.icb_rotate.proofs.VersionLemmas.{version_grown}

-- ---- jobs and stores

pub new_fits : NewFits
new_fits id job ring files new = subst (FitsPlace job.id ring files) (sym new.place) tt

place_grown : (id : List ℕ) (ring : Ring) (before now : Objects) (p : Place) → Grows before now → FitsPlace id ring before p → FitsPlace id ring now p
place_grown id ring before now (place.Probing n) grows h = tt
place_grown id ring before now (place.Reading n) grows h = tt
place_grown id ring before now (place.Committing draft) grows h = record {
  now_ms = h.now_ms;
  drawn = h.drawn;
  is = record { json = h.is.json; meta = h.is.meta; shows = version_grown before now draft.from (h.is.json, h.is.meta) grows h.is.shows; is = h.is.is };
}
place_grown id ring before now place.Ended grows h = tt

pub fits_when_grown : FitsWhenGrown
fits_when_grown job ring before now grows h = place_grown job.id ring before now job.place grows h

-- what holds of what is there, where it does
if_more : {A : Type 0} (o : Option A) (P Q : A → Type 0) → ((x : A) → P x → Q x) → IfSome o P → IfSome o Q
if_more None P Q f h = tt
if_more (Some x) P Q f h = f x h

-- ---- turns that put nothing

module _ (id : List ℕ) (ring : Ring) (files : Objects) (table : Table) where
  -- nothing was put, and the job is in step
  abbrev Rests : Result Turn JobFault → Type 0
  Rests t = HasPut id ring files files table (step_of t) × FitsPlace id ring files (place_after t)

  refused_rests : (e : JobFault) → HasPut id ring files files table (step.Refused e)
  refused_rests fault.NoTable = refl
  refused_rests (fault.BadMeta f) = refl
  refused_rests (fault.BadInput l r) = refl
  refused_rests (fault.Cannot w) = refl
  refused_rests (fault.SameKey i) = refl
  refused_rests (fault.KeyName i) = refl
  refused_rests (fault.Tree c) = refl
  refused_rests (fault.NameTaken p) = refl
  refused_rests (fault.Contended v) = refl
  refused_rests (fault.Limit w n) = refl
  refused_rests fault.Random = refl
  refused_rests fault.Store = inl refl
  refused_rests fault.NoMemory = refl

  behind_rests : (p : Probed) → Rests (Ok (turn.To (behind p)))
  behind_rests (probed.Next n) = (refl, tt)
  behind_rests (probed.Found n) = (refl, tt)

  probe_rests : (given : Result Probed JobFault) (t : Result Turn JobFault) → AnswersRead (given >>= (λ p. Ok (turn.To (behind p)))) t → Rests t
  probe_rests (Ok p) (Ok t) h = let same : turn.To (behind p) ≡ t = cc in subst (λ x. Rests (Ok x)) same (behind_rests p)
  probe_rests (Err f) (Ok t) h = absurd (let g : ⊥ = cc in g)
  probe_rests given (Err e) h = (refused_rests e, tt)

  draft_rests : (version now_ms : ℕ) (bytes : List ℕ) (d : Result Draft JobFault) → AnswersDraft (version_of files version) ring version id now_ms bytes d
      → Rests (d >>= (λ x. Ok (turn.To (place.Committing x))))
  draft_rests version now_ms bytes (Ok d) h = (
    refl,
    record {
      now_ms = now_ms;
      drawn = bytes;
      is = subst (λ n. IsDraftOf (version_of files n) ring n id now_ms bytes d) (sym h.is.from) h;
    },
  )
  draft_rests version now_ms bytes (Err e) h = (refused_rests e, tt)

module _ (id : List ℕ) (ring : Ring) where
  -- what a turn is to leave, where the store is told
  abbrev pub Keeps : Option Objects → Option Objects → Place → Result Turn JobFault → Type 0
  Keeps o o_now p t = IfSome o (λ files. (meta : Fields) (table : Table) → Stands files meta ring table → FitsPlace id ring files p
      → IsSomeAnd o_now (λ files_now. KeepsTable id ring files meta files_now table (step_of t) (place_after t)))

  rests : (o o_now : Option Objects) (p : Place) (t : Result Turn JobFault) → o_now ≡ o
      → IfSome o (λ files. (table : Table) → Rests id ring files table t) → Keeps o o_now p t
  rests None o_now p t same h = tt
  rests (Some files) o_now p t same h = λ meta table stands fits.
      subst (λ x. IsSomeAnd x (λ files_now. KeepsTable id ring files meta files_now table (step_of t) (place_after t))) (sym same)
      (record {
        turn = rest_is_turn [] ring files meta table stands;
        has_put = (h table).0;
        fits = (h table).1;
      })

  stays : (o o_now : Option Objects) (p : Place) (t : Result Turn JobFault) → IfSome o (λ files. o_now ≡ Some files)
      → ((files : Objects) (table : Table) → Rests id ring files table t) → Keeps o o_now p t
  stays None o_now p t same h = tt
  stays (Some files) o_now p t same h = rests (Some files) o_now p t same (h files)

  -- ---- the put

  module _ (draft : Draft) where
    abbrev path : List ℕ
    path = version_path (draft.from + 1)

    abbrev WasPut : Objects → Option Objects → Type 0
    WasPut files o_now = (object_at files path ≡ None) × (o_now ≡ Some (with_object files path draft.text))

    abbrev KeepsAs : Step → Objects → Option Objects → Type 0
    KeepsAs answer files o_now = (meta : Fields) (table : Table) → Stands files meta ring table → FitsDraft id ring files draft
        → IsSomeAnd o_now (λ files_now. KeepsTable id ring files meta files_now table answer place.Ended)

    put_done : (files : Objects) (o_now : Option Objects) → WasPut files o_now → KeepsAs (step.Done None (draft.from + 1)) files o_now
    put_done files o_now h meta table stands fits =
        subst (λ x. IsSomeAnd x (λ files_now. KeepsTable id ring files meta files_now table (step.Done None (draft.from + 1)) place.Ended)) (sym h.1)
        (record {
          turn = put_is_turn files ring table id draft fits h.0 meta stands;
          has_put = put_rotates files ring table id draft fits h.0 meta stands;
          fits = tt;
        })

    put_failed : (files : Objects) (o_now : Option Objects) → ((o_now ≡ Some files) ⊎ WasPut files o_now) → KeepsAs (step.Refused fault.Store) files o_now
    put_failed files o_now (inl same) meta table stands fits =
        subst (λ x. IsSomeAnd x (λ files_now. KeepsTable id ring files meta files_now table (step.Refused fault.Store) place.Ended)) (sym same)
        (record { turn = rest_is_turn [] ring files meta table stands; has_put = inl refl; fits = tt })
    put_failed files o_now (inr h) meta table stands fits =
        subst (λ x. IsSomeAnd x (λ files_now. KeepsTable id ring files meta files_now table (step.Refused fault.Store) place.Ended)) (sym h.1)
        (record {
          turn = put_is_turn files ring table id draft fits h.0 meta stands;
          has_put = inr (draft.from + 1, put_rotates files ring table id draft fits h.0 meta stands);
          fits = tt;
        })

module _ {S : Type 0} (of : store.Ghosts S) (id : List ℕ) (ring : Ring) (draft : Draft) (taken taken_now : List ℕ) (x y : S) where
  abbrev Puts : Result Turn JobFault → Type 0
  Puts t = PutsPath of (version_path (draft.from + 1)) draft.text (t ≡ Ok (turn.Done (draft.from + 1))) (IsTaken t) (t ≡ Err fault.Store) x y

  abbrev KeepsCommit : Result Turn JobFault → Type 0
  KeepsCommit t = Keeps id ring (of.held x) (of.held y) (place.Committing draft) t

  -- the put found one taken
  found : (t : Result Turn JobFault) → IfSome (of.held x) (λ files. IsSome (object_at files (version_path (draft.from + 1))) × (of.held y ≡ Some files))
      → ((files : Objects) (table : Table) → Rests id ring files table t) → KeepsCommit t
  found t h r = stays id ring (of.held x) (of.held y) (place.Committing draft) t
      (if_more (of.held x) (λ files. IsSome (object_at files (version_path (draft.from + 1))) × (of.held y ≡ Some files)) (λ files. of.held y ≡ Some files) (λ files both. both.1) h) r

  -- there was none
  unput : (t : Result Turn JobFault) → of.held y ≡ of.held x → ((files : Objects) (table : Table) → Rests id ring files table t) → KeepsCommit t
  unput t same r = rests id ring (of.held x) (of.held y) (place.Committing draft) t same (all_rest (of.held x))
    where
      all_rest : (o : Option Objects) → IfSome o (λ files. (table : Table) → Rests id ring files table t)
      all_rest None = tt
      all_rest (Some files) = r files

  commit_keeps : (t : Result Turn JobFault) → AnswersCommit draft taken taken_now t → Puts t → KeepsCommit t
  commit_keeps (Ok (turn.Done v)) a p =
      let same : v ≡ draft.from + 1 = a.0 in
      subst (λ n. KeepsCommit (Ok (turn.Done n))) (sym same)
      (if_more (of.held x) (λ files. WasPut id ring draft files (of.held y)) (λ files. KeepsAs id ring draft (step.Done None (draft.from + 1)) files (of.held y))
      (λ files h. put_done id ring draft files (of.held y) h) (p.done (ap (λ n. Ok (turn.Done n)) same)))
  commit_keeps (Ok (turn.To (place.Probing n))) a p = found (Ok (turn.To (place.Probing n))) (p.taken tt) (λ files table. (refl, tt))
  commit_keeps (Ok (turn.To (place.Reading n))) a p = absurd a.2
  commit_keeps (Ok (turn.To (place.Committing d))) a p = absurd a.2
  commit_keeps (Ok (turn.To place.Ended)) a p = absurd a.2
  commit_keeps (Err fault.NoMemory) a p = unput (Err fault.NoMemory) (p.none (λ h. cc) (λ h. h) (λ h. cc)) (λ files table. (refl, tt))
  commit_keeps (Err (fault.Limit w n)) a p = unput (Err (fault.Limit w n)) (p.none (λ h. cc) (λ h. h) (λ h. cc)) (λ files table. (refl, tt))
  commit_keeps (Err (fault.Contended v)) a p = found (Err (fault.Contended v)) (p.taken tt) (λ files table. (refl, tt))
  commit_keeps (Err fault.Store) a p =
      if_more (of.held x) (λ files. (of.held y ≡ Some files) ⊎ WasPut id ring draft files (of.held y)) (λ files. KeepsAs id ring draft (step.Refused fault.Store) files (of.held y))
      (λ files h. put_failed id ring draft files (of.held y) h) (p.failed refl)
  commit_keeps (Err fault.NoTable) a p = absurd a.2
  commit_keeps (Err (fault.BadMeta f)) a p = absurd a.2
  commit_keeps (Err (fault.BadInput l r)) a p = absurd a.2
  commit_keeps (Err (fault.Cannot w)) a p = absurd a.2
  commit_keeps (Err (fault.SameKey i)) a p = absurd a.2
  commit_keeps (Err (fault.KeyName i)) a p = absurd a.2
  commit_keeps (Err (fault.Tree c)) a p = absurd a.2
  commit_keeps (Err (fault.NameTaken q)) a p = absurd a.2
  commit_keeps (Err fault.Random) a p = absurd a.2

-- ---- a step

module _ {S D : Type 0} (of : store.Ghosts S) (random : draws.Ghosts D) (ring : Ring) (now_ms : ℕ) (x y : S) (drew drawn : D) where
  turn_keeps : (id : List ℕ) (p : Place) (taken taken_now : List ℕ) (t : Result Turn JobFault)
      → IsTurnAt of random ring now_ms id p taken taken_now t x y drew drawn → Keeps id ring (of.held x) (of.held y) p t
  turn_keeps id (place.Probing n) taken taken_now t h =
      rests id ring (of.held x) (of.held y) (place.Probing n) t h.0.reads.same
      (if_more (of.held x) (λ files. AnswersRead (probe_of files n >>= (λ p. Ok (turn.To (behind p)))) t) (λ files. (table : Table) → Rests id ring files table t)
      (λ files a table. probe_rests id ring files table (probe_of files n) t a) h.0.answers)
  turn_keeps id (place.Reading n) taken taken_now t h =
      let d = h.0 in
      let to : Result Turn JobFault = d.draft >>= (λ a. Ok (turn.To (place.Committing a))) in
      subst (λ r. Keeps id ring (of.held x) (of.held y) (place.Reading n) r) (sym d.goes)
      (rests id ring (of.held x) (of.held y) (place.Reading n) to d.drafts.reads.same
      (if_more (of.held x) (λ files. AnswersDraft (version_of files n) ring n id now_ms d.drafts.bytes d.draft) (λ files. (table : Table) → Rests id ring files table to)
      (λ files a table. draft_rests id ring files table n now_ms d.drafts.bytes d.draft a) d.drafts.answers))
  turn_keeps id (place.Committing draft) taken taken_now t h = commit_keeps of id ring draft taken taken_now x y t h.0.answers h.0.puts
  turn_keeps id place.Ended taken taken_now t h = absurd h

  pub step_keeps : (job job_now : RotateJob) (answer : Step) → TakesTurn of random ring now_ms job job_now answer x y drew drawn
      → StepKeepsTable of ring job job_now answer x y
  step_keeps job job_now answer h =
      let P = λ (a : Step) (q : Place). IfSome (of.held x) (λ files. (meta : Fields) (table : Table) → Stands files meta ring table → FitsPlace job.id ring files job.place
      → IsSomeAnd (of.held y) (λ files_now. KeepsTable job.id ring files meta files_now table a q)) in
      subst (λ a. P a job_now.place) (sym h.answers)
      (subst (λ q. P (step_of h.turn) q) (sym h.goes) (turn_keeps job.id job.place job.taken job_now.taken h.turn h.is_turn))

-- ---- refusals

probe_only : (n : ℕ) (e : JobFault) → MayFind n (Err e) → IsRotationFault e
probe_only n fault.NoTable h = tt
probe_only n (fault.BadMeta f) h = tt
probe_only n (fault.BadInput l r) h = h
probe_only n (fault.Cannot w) h = absurd h
probe_only n (fault.SameKey i) h = tt
probe_only n (fault.KeyName i) h = tt
probe_only n (fault.Tree c) h = absurd h
probe_only n (fault.NameTaken p) h = h
probe_only n (fault.Contended v) h = tt
probe_only n (fault.Limit w m) h = tt
probe_only n fault.Random h = tt
probe_only n fault.Store h = tt
probe_only n fault.NoMemory h = tt

commit_only : (d : Draft) (taken taken_now : List ℕ) (e : JobFault) → AnswersCommit d taken taken_now (Err e) → IsRotationFault e
commit_only d taken taken_now fault.NoTable h = tt
commit_only d taken taken_now (fault.BadMeta f) h = tt
commit_only d taken taken_now (fault.BadInput l r) h = h.2
commit_only d taken taken_now (fault.Cannot w) h = absurd h.2
commit_only d taken taken_now (fault.SameKey i) h = tt
commit_only d taken taken_now (fault.KeyName i) h = tt
commit_only d taken taken_now (fault.Tree c) h = absurd h.2
commit_only d taken taken_now (fault.NameTaken p) h = h.2
commit_only d taken taken_now (fault.Contended v) h = tt
commit_only d taken taken_now (fault.Limit w m) h = tt
commit_only d taken taken_now fault.Random h = tt
commit_only d taken taken_now fault.Store h = tt
commit_only d taken taken_now fault.NoMemory h = tt

draft_goes_only : (d : Result Draft JobFault) → IfErr d IsRotationFault → IfErr (d >>= (λ x. Ok (turn.To (place.Committing x)))) IsRotationFault
draft_goes_only (Ok x) h = tt
draft_goes_only (Err e) h = h

pub turn_only : {S D : Type 0} (of : store.Ghosts S) (random : draws.Ghosts D) (ring : Ring) (now_ms : ℕ) (x y : S) (drew drawn : D)
    (id : List ℕ) (p : Place) (taken taken_now : List ℕ) (t : Result Turn JobFault)
    → IsTurnAt of random ring now_ms id p taken taken_now t x y drew drawn → IfErr t IsRotationFault
turn_only of random ring now_ms x y drew drawn id (place.Probing n) taken taken_now (Ok q) h = tt
turn_only of random ring now_ms x y drew drawn id (place.Probing n) taken taken_now (Err e) h = probe_only n e h.0.may
turn_only of random ring now_ms x y drew drawn id (place.Reading n) taken taken_now t h =
    subst (λ r. IfErr r IsRotationFault) (sym h.0.goes) (draft_goes_only h.0.draft h.0.drafts.only)
turn_only of random ring now_ms x y drew drawn id (place.Committing d) taken taken_now (Ok q) h = tt
turn_only of random ring now_ms x y drew drawn id (place.Committing d) taken taken_now (Err e) h = commit_only d taken taken_now e h.0.answers
turn_only of random ring now_ms x y drew drawn id place.Ended taken taken_now t h = absurd h

-- a turn that was taken, and where it leads
pub took_turn : {S D : Type 0} (of : store.Ghosts S) (random : draws.Ghosts D) (ring : Ring) (now_ms : ℕ) (x y : S) (drew drawn : D)
    (job mid job_now : RotateJob) (t : Result Turn JobFault) (answer : Step)
    → IsTurnAt of random ring now_ms job.id job.place job.taken mid.taken t x y drew drawn → mid.id ≡ job.id
    → answer ≡ step_of t → job_now.place ≡ place_after t → job_now.id ≡ mid.id → job_now.taken ≡ mid.taken
    → TakesTurn of random ring now_ms job job_now answer x y drew drawn
took_turn of random ring now_ms x y drew drawn job mid job_now t answer is_turn same_mid said goes same_now same_taken = record {
  turn = t;
  is_turn = subst (λ l. IsTurnAt of random ring now_ms job.id job.place job.taken l t x y drew drawn) (sym same_taken) is_turn;
  only = turn_only of random ring now_ms x y drew drawn job.id job.place job.taken mid.taken t is_turn;
  answers = said;
  goes = goes;
  same_id = same_now ∙ same_mid;
}
