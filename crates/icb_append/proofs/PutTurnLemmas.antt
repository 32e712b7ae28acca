-- Turns that put an append's own files keep a table, and behind them the store holds what they put.
use Rattle.std.proofs.Common.{◌≡◌, ℕ, Bool, true, List, length, Option, Some, None, Result, Ok, Err, refl, sym, ap, subst, inl, inr}
use Rattle.std.specs.Prelude.{◌⊎◌, IfSome, IsSomeAnd}
use Rattle.std.specs.List.{Contains}
use Rattle.icb_base.specs.KeyMetadata.{KeyRecord}
use Rattle.icb_base.specs.Objects.{Grows, Objects, object_at, with_object}
use Rattle.icb_base.specs.declared.storage.Store as store
use Rattle.icb_base.specs.declared.transfer.Draws as draws
use Rattle.icb_base.proofs.LawLemmas.{grows_at_rest, put_grows}
use Rattle.icb_chain.specs.Ring.{Ring}
use Rattle.icb_meta.specs.declared.fields.Fields.{Fields}
use Rattle.icb_seal.specs.Keys.{FileKeyValue}
use Rattle.icb_seal.specs.declared.file_key.KeySize.{KeySize}
use Rattle.icb_table.specs.Standing.{Stands}
use Rattle.icb_table.specs.Table.{Table}
use Rattle.icb_turns.proofs.GrownLemmas.{file_put_is_turn, rest_is_turn}
use Rattle.icb_turns.specs.Turns.{IsTurn, IsVersionPath, keeps_rows}
use Rattle.icb_turns.specs.declared.fault.JobFault.{JobFault}
use Rattle.icb_turns.specs.declared.fault.JobFault.TheVariants as fault
use Rattle.icb_append.specs.Puts.{IsFresh, PutsFile}

-- what holds of what is there, where it does
pub if_more : {A : Type 0} (o : Option A) (P Q : A → Type 0) → ((x : A) → P x → Q x) → IfSome o P → IfSome o Q
if_more None P Q f h = tt
if_more (Some x) P Q f h = f x h

if_same : {A : Type 0} (o now : Option A) → now ≡ o → IfSome o (λ x. now ≡ Some x)
if_same None now e = tt
if_same (Some x) now e = e

-- an object was put where none was held, or none was
abbrev pub LeftBy : List ℕ → List ℕ → Objects → Option Objects → Type 0
LeftBy path object files now = (now ≡ Some files) ⊎ ((object_at files path ≡ None) × (now ≡ Some (with_object files path object)))

module _ {S D A : Type 0} (of : store.Ghosts S) (from : draws.Ghosts D) (size : KeySize) (path : List ℕ)
    (makes : FileKeyValue → List ℕ → List ℕ → KeyRecord → Type 0) (may : List ℕ → Bool) (says : KeyRecord → ℕ → A → Type 0) (x y : S) (drew drawn : D) where
  abbrev Put : Result A JobFault → Type 0
  Put r = PutsFile of from size path makes may says r x y drew drawn

  unput : (r : Result A JobFault) (p : Put r) → of.held y ≡ of.held x → IfSome (of.held x) (λ files. LeftBy path p.object files (of.held y))
  unput r p same = if_more (of.held x) (λ files. of.held y ≡ Some files) (λ files. LeftBy path p.object files (of.held y)) (λ files e. inl e) (if_same (of.held x) (of.held y) same)

  -- a turn that puts a file leaves the store as it was, or with the object
  pub left : (r : Result A JobFault) (p : Put r) → IfSome (of.held x) (λ files. LeftBy path p.object files (of.held y))
  left (Ok a) p = if_more (of.held x) _ (λ files. LeftBy path p.object files (of.held y)) (λ files h. inr h) (p.puts.done refl)
  left (Err fault.Store) p = if_more (of.held x) _ (λ files. LeftBy path p.object files (of.held y)) (λ files h. h) (p.puts.failed refl)
  left (Err (fault.NameTaken t)) p = if_more (of.held x) _ (λ files. LeftBy path p.object files (of.held y)) (λ files h. inl h.1) (p.puts.taken (ap (λ q. Err (fault.NameTaken q)) p.answers.0))
  left (Err (fault.Limit w n)) p = unput (Err (fault.Limit w n)) p (p.puts.none (λ h. cc) (λ h. cc) (λ h. cc))
  left (Err fault.Random) p = unput (Err fault.Random) p (p.puts.none (λ h. cc) (λ h. cc) (λ h. cc))
  left (Err fault.NoMemory) p = unput (Err fault.NoMemory) p (p.puts.none (λ h. cc) (λ h. cc) (λ h. cc))
  left (Err fault.NoTable) p = absurd p.answers
  left (Err (fault.BadMeta f)) p = absurd p.answers
  left (Err (fault.BadInput l w)) p = absurd p.answers
  left (Err (fault.Cannot w)) p = absurd p.answers
  left (Err (fault.SameKey i)) p = absurd p.answers
  left (Err (fault.KeyName i)) p = absurd p.answers
  left (Err (fault.Tree e)) p = absurd p.answers
  left (Err (fault.Contended v)) p = absurd p.answers

  -- ---- what was put

  -- behind a put that was done the object is held, made and said so
  pub record IsPut (said : A) (files : Objects) (now : Option Objects) : Type 0 where
    pub key : FileKeyValue
    pub marker : List ℕ
    pub object : List ℕ
    pub meta : KeyRecord
    pub fresh : IsFresh size key marker
    pub passes : may marker ≡ true
    pub made : makes key marker object meta
    pub is_said : says meta (length object) said
    pub free : object_at files path ≡ None
    pub put : now ≡ Some (with_object files path object)

  pub is_put : (said : A) → Put (Ok said) → IfSome (of.held x) (λ files. IsPut said files (of.held y))
  is_put said p = if_more (of.held x) _ (λ files. IsPut said files (of.held y)) (λ files h. record {
    key = p.key;
    marker = p.marker;
    object = p.object;
    meta = p.meta;
    fresh = p.fresh tt;
    passes = p.answers.0;
    made = p.answers.1;
    is_said = p.answers.2;
    free = h.0;
    put = h.1;
  }) (p.puts.done refl)

-- ---- the table

-- so left, a store stands for the table behind a turn that keeps its rows
pub left_is_turn : (own : List (List ℕ)) (ring : Ring) (path object : List ℕ) (files : Objects) (now : Option Objects) (meta : Fields) (table : Table)
    → Contains own path → (IsVersionPath path → ⊥) → Stands files meta ring table → LeftBy path object files now
    → IsSomeAnd now (λ files_now. IsTurn own ring files meta files_now table keeps_rows)
left_is_turn own ring path object files now meta table may no_version stands (inl same) =
    subst (λ o. IsSomeAnd o (λ files_now. IsTurn own ring files meta files_now table keeps_rows)) (sym same) (rest_is_turn own ring files meta table stands)
left_is_turn own ring path object files now meta table may no_version stands (inr h) =
    subst (λ o. IsSomeAnd o (λ files_now. IsTurn own ring files meta files_now table keeps_rows)) (sym h.1)
    (file_put_is_turn own ring files meta table path object stands may no_version h.0)

-- and it only grew
pub left_grows : (path object : List ℕ) (files : Objects) (now : Option Objects) → LeftBy path object files now → IsSomeAnd now (Grows files)
left_grows path object files now (inl same) = subst (λ o. IsSomeAnd o (Grows files)) (sym same) (grows_at_rest files)
left_grows path object files now (inr h) = subst (λ o. IsSomeAnd o (Grows files)) (sym h.1) (put_grows files path object h.0)
