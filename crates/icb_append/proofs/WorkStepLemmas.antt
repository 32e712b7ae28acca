-- The steps of an append that work on its files, its list and its version.
use Rattle.std.proofs.Common.{◌≡◌, ℕ, Bool, true, false, List, [], ◌∷◌, length, Option, Some, None, Result, Ok, Err, refl, sym, ◌∙◌, subst, arith}
use Rattle.std.specs.Prelude.{IfSome, IsSomeAnd}
use Rattle.std.specs.List.{Contains}
use Rattle.std.proofs.lemmas.List.Elements.{Contains-append_left, Contains-append_right}
use Rattle.icb_base.specs.KeyMetadata.{KeyRecord}
use Rattle.icb_base.specs.Objects.{Objects}
use Rattle.icb_base.specs.declared.storage.Store as store
use Rattle.icb_base.specs.declared.transfer.Draws as draws
use Rattle.icb_chain.specs.Ring.{Ring}
use Rattle.icb_list.specs.declared.row.ListRow.{ListRow}
use Rattle.icb_manifest.specs.declared.file.DataFile.{DataFile}
use Rattle.icb_meta.specs.declared.fields.Fields.{Fields}
use Rattle.icb_table.specs.Standing.{Stands}
use Rattle.icb_table.specs.Table.{Table}
use Rattle.icb_turns.specs.Answers.{◌>>=◌}
use Rattle.icb_turns.specs.Turns.{IsTurn, keeps_rows}
use Rattle.icb_turns.specs.declared.fault.JobFault.{JobFault}
use Rattle.icb_append.specs.Drafts.{ComesOfFile, PutsNext, holds_all, next_path, settings_for}
use Rattle.icb_append.specs.NewLists.{PutsOwnList, list_rows_of, natural, path_of_list}
use Rattle.icb_append.specs.Keeping.{data_paths}
use Rattle.icb_append.specs.Paths.{manifest_path}
use Rattle.icb_append.specs.Progress.{IsCommitting, IsFiled, IsFiling}
use Rattle.icb_append.specs.Steps.{FitsPlace, KeepsTable, TellsChange, job_paths}
use Rattle.icb_append.specs.Turning.{PutsFiles, PutsList, behind_file, behind_files, comes_to, list_after, parent_for, place_after, row_after, step_of}
use Rattle.icb_append.specs.declared.draft.Draft.{Draft}
use Rattle.icb_append.specs.declared.place.Place.{Place}
use Rattle.icb_append.specs.declared.place.Place.TheVariants as place
use Rattle.icb_append.specs.declared.place.Turn.{Turn}
use Rattle.icb_append.specs.declared.place.Turn.TheVariants as turn
use Rattle.icb_append.specs.declared.work.Work.{Work}
use Rattle.icb_append.proofs.PathLemmas.{data_no_version, list_no_version, manifest_no_version}
use Rattle.icb_append.proofs.ProgressLemmas.{entries_put, list_put, rows_put}
use Rattle.icb_append.proofs.PutTurnLemmas.{LeftBy, if_more, left, left_is_turn}
use Rattle.icb_append.proofs.StepLemmas.{Leaves, behind_fits, refused_tells}

pub if_both : (o : Option Objects) (P Q : Objects → Type 0) → IfSome o P → IfSome o Q → IfSome o (λ f. P f × Q f)
if_both None P Q p q = tt
if_both (Some f) P Q p q = (p, q)

pub some_both : (o : Option Objects) (P Q : Objects → Type 0) → IsSomeAnd o P → IsSomeAnd o Q → IsSomeAnd o (λ f. P f × Q f)
some_both None P Q p q = p
some_both (Some f) P Q p q = (p, q)

pub some_more : (o : Option Objects) (P Q : Objects → Type 0) → ((f : Objects) → P f → Q f) → IsSomeAnd o P → IsSomeAnd o Q
some_more None P Q f h = h
some_more (Some x) P Q f h = f x h

-- a list's elements at its first places
pub first_is : {A : Type 0} (a : A) (xs : List A) → Contains (a ∷ xs) a
first_is a xs = Contains-append_left (a ∷ []) xs a (0, omega arith, refl)

pub second_is : {A : Type 0} (a b : A) (xs : List A) → Contains (a ∷ b ∷ xs) b
second_is a b xs = Contains-append_right (a ∷ []) (b ∷ xs) b (first_is b xs)

third_is : {A : Type 0} (a b c : A) (xs : List A) → Contains (a ∷ b ∷ c ∷ xs) c
third_is a b c xs = Contains-append_right (a ∷ b ∷ []) (c ∷ xs) c (first_is c xs)

module _ {S D : Type 0} (of : store.Ghosts S) (random : draws.Ghosts D) (ring : Ring) (x y : S) (drew drawn : D) (had has : Work) where
  -- the turn of a put at an own path
  abbrev KeepsRows : Objects → Fields → Table → Type 0
  KeepsRows files meta table = IsSomeAnd (of.held y) (λ now. IsTurn (job_paths (Some had)) ring files meta now table keeps_rows)

  abbrev Turned : Objects → Type 0
  Turned files = (meta : Fields) (table : Table) → Stands files meta ring table → KeepsRows files meta table

  abbrev list_at : List ℕ
  list_at = path_of_list had.draft.unique had.tried 1

  abbrev manifest_at : List ℕ
  manifest_at = manifest_path had.draft.unique

  abbrev datas_at : List (List ℕ)
  datas_at = data_paths had.draft.unique 0 had.draft.entries

  -- ---- files

  next_turn : (draft_now : Draft) (r : Result (Option ListRow) JobFault) → PutsNext of random had.tried had.draft draft_now r x y drew drawn → IfSome (of.held x) Turned
  next_turn draft_now r p = by_rest (holds_all (settings_for had.tried).rows had.draft.rows (length had.draft.entries)) refl
    where
      by_rest : (b : Bool) → holds_all (settings_for had.tried).rows had.draft.rows (length had.draft.entries) ≡ b → IfSome (of.held x) Turned
      by_rest false e =
          let q = p.rows e in
          if_more (of.held x) (λ files. LeftBy (next_path had.draft) q.puts.object files (of.held y)) Turned
          (λ files l meta table stands. left_is_turn (job_paths (Some had)) ring (next_path had.draft) q.puts.object files (of.held y) meta table (third_is list_at manifest_at (next_path had.draft) datas_at)
          (data_no_version had.draft.unique (length had.draft.entries)) stands l)
          (left of random (settings_for had.tried).key (next_path had.draft) _ _ _ x y drew drawn q.file q.puts)
      by_rest true e =
          let q = p.manifest e in
          if_more (of.held x) (λ files. LeftBy (manifest_path had.draft.unique) q.puts.object files (of.held y)) Turned
          (λ files l meta table stands. left_is_turn (job_paths (Some had)) ring (manifest_path had.draft.unique) q.puts.object files (of.held y) meta table (second_is list_at manifest_at (next_path had.draft ∷ datas_at))
          (manifest_no_version had.draft.unique) stands l)
          (left of random (settings_for had.tried).key (manifest_path had.draft.unique) _ _ _ x y drew drawn q.row q.puts)

  -- the filing goes on behind a data file
  data_leads : PutsNext of random had.tried had.draft has.draft (Ok None) x y drew drawn
      → IfSome (of.held x) (λ files. IsFiling files ring had.tried had.draft → IsSomeAnd (of.held y) (λ now. IsFiling now ring had.tried has.draft))
  data_leads p = by_rest (holds_all (settings_for had.tried).rows had.draft.rows (length had.draft.entries)) refl
    where
      row_not : (r : Result ListRow JobFault) → ◌≡◌ {A = Result (Option ListRow) JobFault} (Ok None) (r >>= (λ z. Ok (Some z))) → ⊥
      row_not (Ok row) e = let g : ⊥ = cc in g
      row_not (Err f) e = let g : ⊥ = cc in g

      by_rest : (b : Bool) → holds_all (settings_for had.tried).rows had.draft.rows (length had.draft.entries) ≡ b
          → IfSome (of.held x) (λ files. IsFiling files ring had.tried had.draft → IsSomeAnd (of.held y) (λ now. IsFiling now ring had.tried has.draft))
      by_rest true e = absurd (row_not (p.manifest e).row (p.manifest e).answers)
      by_rest false e = rows_put of random ring had.tried x y drew drawn had.draft has.draft (p.rows e)

  -- and ends with the manifest
  row_leads : (row : ListRow) → PutsNext of random had.tried had.draft has.draft (Ok (Some row)) x y drew drawn
      → IfSome (of.held x) (λ files. IsFiling files ring had.tried had.draft → IsSomeAnd (of.held y) (λ now. IsFiled now ring had.tried has.draft (Some row)))
  row_leads row p = by_rest (holds_all (settings_for had.tried).rows had.draft.rows (length had.draft.entries)) refl
    where
      file_not : (r : Result DataFile JobFault) → ComesOfFile had.draft r has.draft (Ok (Some row)) → ⊥
      file_not (Ok f) h = h
      file_not (Err e) h = let same = h.1 in let g : ⊥ = cc in g

      by_rest : (b : Bool) → holds_all (settings_for had.tried).rows had.draft.rows (length had.draft.entries) ≡ b
          → IfSome (of.held x) (λ files. IsFiling files ring had.tried had.draft → IsSomeAnd (of.held y) (λ now. IsFiled now ring had.tried has.draft (Some row)))
      by_rest false e = absurd (file_not (p.rows e).file (p.rows e).comes)
      by_rest true e = entries_put of random ring had.tried x y drew drawn had.draft has.draft row e (p.manifest e)

  -- a step of work
  abbrev LeavesWork : Place → Result Turn JobFault → Objects → Type 0
  LeavesWork p t files = Leaves of random ring x y drew drawn (Some had) (Some has) p t files

  turned : (files : Objects) (meta : Fields) (table : Table) (t : Result Turn JobFault) → KeepsRows files meta table → TellsChange (Some had) table meta (step_of t) keeps_rows
      → IsSomeAnd (of.held y) (λ now. FitsPlace ring now (place_after t) (Some has))
      → IsSomeAnd (of.held y) (λ now. KeepsTable ring files meta now table (Some had) (step_of t) (place_after t) (Some has))
  turned files meta table t turns tells fits = some_more (of.held y) _ (λ now. KeepsTable ring files meta now table (Some had) (step_of t) (place_after t) (Some has))
      (λ now both. record { change = keeps_rows; tells = tells; turn = both.0; fits = both.1 })
      (some_both (of.held y) (λ now. IsTurn (job_paths (Some had)) ring files meta now table keeps_rows) (λ now. FitsPlace ring now (place_after t) (Some has)) turns fits)

  -- a put that ended the job
  put_ended : (p : Place) (e : JobFault) → IfSome (of.held x) Turned → IfSome (of.held x) (LeavesWork p (Err e))
  put_ended p e turns = if_more (of.held x) Turned (LeavesWork p (Err e))
      (λ files turn meta table stands fits code. turned files meta table (Err e) (turn meta table stands) (refused_tells (Some had) table meta e)
      (some_more (of.held y) (λ now. IsTurn (job_paths (Some had)) ring files meta now table keeps_rows) (λ now. Unit {0}) (λ now h. tt) (turn meta table stands))) turns

  pub files_put : (t : Result Turn JobFault) → PutsFiles of random had has t x y drew drawn → IfSome (of.held x) (LeavesWork place.Filing t)
  files_put t p = subst (λ r. IfSome (of.held x) (LeavesWork place.Filing r)) (sym p.goes) (by_put p.put p.puts p.manifest)
    where
      by_put : (r : Result (Option ListRow) JobFault) → PutsNext of random had.tried had.draft has.draft r x y drew drawn → has.manifest ≡ row_after had.manifest r
          → IfSome (of.held x) (LeavesWork place.Filing (comes_to (behind_file had.tried) r))
      by_put (Err e) puts m = put_ended place.Filing e (next_turn has.draft (Err e) puts)
      by_put (Ok None) puts m = if_more (of.held x) _ (LeavesWork place.Filing (Ok (turn.To place.Filing)))
          (λ files both meta table stands fits code. turned files meta table (Ok (turn.To place.Filing)) (both.0 meta table stands) refl
          (some_more (of.held y) (λ now. IsFiling now ring had.tried has.draft) (λ now. FitsPlace ring now place.Filing (Some has))
          (λ now f. (subst (λ d. IsFiling now ring d has.draft) (sym p.same_tried) f, m ∙ fits.1, p.same_parent ∙ fits.2)) (both.1 fits.0)))
          (if_both (of.held x) Turned _ (next_turn has.draft (Ok None) puts) (data_leads puts))
      by_put (Ok (Some row)) puts m = if_more (of.held x) _ (LeavesWork place.Filing (Ok (turn.To (behind_files (parent_for had.tried)))))
          (λ files both meta table stands fits code. turned files meta table (Ok (turn.To (behind_files (parent_for had.tried)))) (both.0 meta table stands) refl
          (some_more (of.held y) (λ now. IsFiled now ring had.tried has.draft (Some row)) (λ now. FitsPlace ring now (behind_files (parent_for had.tried)) (Some has))
          (λ now f. behind_fits now ring had.tried has.draft (Some row) has (parent_for had.tried) refl p.same_tried refl m (p.same_parent ∙ fits.2) f) (both.1 fits.0)))
          (if_both (of.held x) Turned _ (next_turn has.draft (Ok (Some row)) puts) (row_leads row puts))

  -- ---- the list

  pub list_put_step : (t : Result Turn JobFault) → PutsList of random had has t x y drew drawn → IfSome (of.held x) (LeavesWork place.Writing t)
  list_put_step t p = subst (λ r. IfSome (of.held x) (LeavesWork place.Writing r)) (sym p.goes) (by_list p.list p.puts p.has)
    where
      turns : (r : Result KeyRecord JobFault) → PutsOwnList of random had.draft.unique had.tried (list_rows_of had.parent had.manifest had.tried) 1 r x y drew drawn → IfSome (of.held x) Turned
      turns r puts = if_more (of.held x) (λ files. LeftBy (path_of_list had.draft.unique had.tried 1) puts.object files (of.held y)) Turned
          (λ files l meta table stands. left_is_turn (job_paths (Some had)) ring (path_of_list had.draft.unique had.tried 1) puts.object files (of.held y) meta table
          (first_is list_at (manifest_at ∷ next_path had.draft ∷ datas_at)) (list_no_version had.draft.unique (natural had.tried.id) 1) stands l)
          (left of random (settings_for had.tried).key (path_of_list had.draft.unique had.tried 1) _ _ _ x y drew drawn r puts)

      by_list : (r : Result KeyRecord JobFault) → PutsOwnList of random had.draft.unique had.tried (list_rows_of had.parent had.manifest had.tried) 1 r x y drew drawn
          → has.list ≡ list_after had.list r → IfSome (of.held x) (LeavesWork place.Writing (comes_to (λ put. place.Committing) r))
      by_list (Err e) puts l = put_ended place.Writing e (turns (Err e) puts)
      by_list (Ok list) puts l = if_more (of.held x) _ (LeavesWork place.Writing (Ok (turn.To place.Committing)))
          (λ files both meta table stands fits code. turned files meta table (Ok (turn.To place.Committing)) (both.0 meta table stands) refl
          (some_more (of.held y) (λ now. IsCommitting now ring had.tried had.draft had.manifest 1 list) (λ now. FitsPlace ring now place.Committing (Some has))
          (λ now c. subst (λ o. IsSomeAnd o (λ own. IsCommitting now ring has.tried has.draft has.manifest 1 own)) (sym l) (moved now list c))
          (both.1 fits code)))
          (if_both (of.held x) Turned _ (turns (Ok list) puts) (list_put of random ring had.tried x y drew drawn had.draft had.manifest had.parent 1 list puts))
        where
          moved : (now : Objects) (own : KeyRecord) → IsCommitting now ring had.tried had.draft had.manifest 1 own → IsCommitting now ring has.tried has.draft has.manifest 1 own
          moved now own c = subst (λ d. IsCommitting now ring d has.draft has.manifest 1 own) (sym p.same_tried)
              (subst (λ d. IsCommitting now ring had.tried d has.manifest 1 own) (sym p.same_draft) (subst (λ d. IsCommitting now ring had.tried had.draft d 1 own) (sym p.same_manifest) c))
