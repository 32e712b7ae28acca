-- Turns of an append that go on with its work, made up of their parts.
use Rattle.std.proofs.Common.{◌≡◌, ◌+◌, ℕ, List, [], Option, Some, None, IsSome, IsSomeAnd, Result, Err, refl, sym, subst}
use Rattle.icb_base.specs.KeyMetadata.{KeyRecord}
use Rattle.icb_base.specs.declared.storage.Put.{Put}
use Rattle.icb_base.specs.declared.storage.Store as store
use Rattle.icb_base.specs.declared.transfer.Draws as draws
use Rattle.icb_base.proofs.CallLemmas.{draws_at_rest, puts_at_rest}
use Rattle.icb_list.specs.Written.{written_list}
use Rattle.icb_list.specs.declared.row.ListRow.{ListRow}
use Rattle.icb_meta.specs.Answers.{json_of, shown_of}
use Rattle.icb_tree.specs.Versions.{version_path}
use Rattle.icb_turns.specs.declared.fault.JobFault.{JobFault}
use Rattle.icb_turns.specs.declared.fault.JobFault.TheVariants as fault
use Rattle.icb_append.specs.Committing.{IsNextVersion, PutsVersion}
use Rattle.icb_append.specs.Drafts.{settings_for}
use Rattle.icb_append.specs.NewLists.{PutsOwnList, list_rows_of, path_of_list}
use Rattle.icb_append.specs.Sealed.{IsSealed, may_be_put}
use Rattle.icb_append.specs.Turning.{Commits, PutsList, PutsNextVersion, comes_to, list_after}
use Rattle.icb_append.specs.declared.place.Place.TheVariants as place
use Rattle.icb_append.specs.declared.work.Work.{Work}
use Rattle.icb_append.proofs.PutLemmas.{not_begun}

-- the work with other rows of the parent, and another list
abbrev pub with_list : Work → List ListRow → Option KeyRecord → Work
with_list work parent list = record { draft = work.draft; tried = work.tried; manifest = work.manifest; parent = parent; list = list }

module _ {S D : Type 0} (of : store.Ghosts S) (random : draws.Ghosts D) where
  -- ---- the list

  pub rows_not_put : (work : Work) (parent : List ListRow) (s : S) (x : D) → of.keeps s s
      → PutsOwnList of random work.draft.unique work.tried (list_rows_of parent work.manifest work.tried) 1 (Err fault.NoMemory) s s x x
  rows_not_put work parent s x kept =
      not_begun of random (settings_for work.tried).key (path_of_list work.draft.unique work.tried 1)
      (λ key marker object meta. IsSealed (settings_for work.tried).block (path_of_list work.draft.unique work.tried 1)
      (written_list (list_rows_of parent work.manifest work.tried) marker) key object meta)
      (may_be_put written_list (list_rows_of parent work.manifest work.tried)) (λ meta size own. own ≡ meta) s x kept

  pub rows_put : (work : Work) (parent rows : List ListRow) (r : Result KeyRecord JobFault) (s t : S) (x y : D) → rows ≡ list_rows_of parent work.manifest work.tried
      → PutsOwnList of random work.draft.unique work.tried rows 1 r s t x y
      → PutsOwnList of random work.draft.unique work.tried (list_rows_of parent work.manifest work.tried) 1 r s t x y
  rows_put work parent rows r s t x y same p = subst (λ z. PutsOwnList of random work.draft.unique work.tried z 1 r s t x y) same p

  pub list_put : (work : Work) (parent spent : List ListRow) (r : Result KeyRecord JobFault) (s t : S) (x y : D) → parent ≡ work.parent → spent ≡ []
      → PutsOwnList of random work.draft.unique work.tried (list_rows_of parent work.manifest work.tried) 1 r s t x y
      → PutsList of random work (with_list work spent (list_after work.list r)) (comes_to (λ (put : KeyRecord). place.Committing) r) s t x y
  list_put work parent spent r s t x y same none p = record {
    list = r;
    puts = subst (λ z. PutsOwnList of random work.draft.unique work.tried (list_rows_of z work.manifest work.tried) 1 r s t x y) same p;
    goes = refl;
    has = refl;
    spent = none;
    same_draft = refl;
    same_tried = refl;
    same_manifest = refl;
  }

  -- ---- the version

  -- no memory was left before anything was drawn
  version_at_rest : (is : List ℕ → List ℕ → Type 0) (version : ℕ) (s : S) (x : D) → of.keeps s s → PutsVersion of random is version (Err fault.NoMemory) s s x x
  version_at_rest is version s x kept = record {
    nonce = [];
    text = [];
    draws = draws_at_rest random _ x (λ h. let g : ⊥ = cc in g);
    puts = puts_at_rest of (version_path (version + 1)) [] _ _ _ s kept (λ h. let g : ⊥ = cc in g) (λ h. let g : ⊥ = cc in g) (λ h. let g : ⊥ = cc in g);
    answers = tt;
  }

  abbrev its_version : ℕ → Work → List ℕ → KeyRecord → List ℕ → List ℕ → Type 0
  its_version now_ms work path list = IsNextVersion (json_of work.tried.meta) (shown_of work.tried.meta) work.tried.wrapper work.tried.version work.tried.id
      path list work.tried.rows now_ms

  put_at_rest : (now_ms : ℕ) (work : Work) (list : KeyRecord) (s : S) (x : D) → of.keeps s s → PutsNextVersion of random now_ms work list (Err fault.NoMemory) s s x x
  put_at_rest now_ms work list s x kept = version_at_rest (its_version now_ms work (path_of_list work.draft.unique work.tried 1) list) work.tried.version s x kept

  pub version_not_put : (now_ms : ℕ) (work : Work) (list : KeyRecord) (s : S) (x : D) → of.keeps s s → work.list ≡ Some list
      → IsSomeAnd work.list (λ own. PutsNextVersion of random now_ms work own (Err fault.NoMemory) s s x x)
  version_not_put now_ms work list s x kept is =
      subst (λ o. IsSomeAnd o (λ own. PutsNextVersion of random now_ms work own (Err fault.NoMemory) s s x x)) (sym is) (put_at_rest now_ms work list s x kept)

  pub version_put : (now_ms : ℕ) (work : Work) (list : KeyRecord) (path : List ℕ) (r : Result Put JobFault) (s t : S) (x y : D) → work.list ≡ Some list
      → path ≡ path_of_list work.draft.unique work.tried 1 → PutsVersion of random (its_version now_ms work path list) work.tried.version r s t x y
      → IsSomeAnd work.list (λ own. PutsNextVersion of random now_ms work own r s t x y)
  version_put now_ms work list path r s t x y is same p =
      subst (λ o. IsSomeAnd o (λ own. PutsNextVersion of random now_ms work own r s t x y)) (sym is)
      (subst (λ z. PutsVersion of random (its_version now_ms work z list) work.tried.version r s t x y) same p)

  some_list : (o : Option KeyRecord) → IsSome o → (list : KeyRecord) × (o ≡ Some list)
  some_list (Some list) h = (list, refl)
  some_list None h = absurd (let g : ⊥ = cc in g)

  pub commit_not_begun : (now_ms : ℕ) (work : Work) (taken : List ℕ) (s : S) (x : D) → of.keeps s s → IsSome work.list
      → Commits of random now_ms work taken taken (Err fault.NoMemory) s s x x
  commit_not_begun now_ms work taken s x kept some =
      let own = some_list work.list some in
      record {
        list = own.0;
        is_list = own.1;
        put = Err fault.NoMemory;
        puts = put_at_rest now_ms work own.0 s x kept;
        goes = refl;
        found = refl;
      }
