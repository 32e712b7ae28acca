-- How the steps of a rotation make the command's end.
use Rattle.std.proofs.Common.{◌≡◌, ◌≢◌, ◌∙◌, ◌++◌, ℕ, List, refl, sym, inl, inr, ap}
use Rattle.std.proofs.Common.{Option, Some, Result, Ok, Err}
use Rattle.std.specs.Prelude.{IfSome}
use Rattle.icb_base.specs.Causes.{Blames}
use Rattle.icb_base.specs.Objects.{Objects}
use Rattle.icb_base.specs.Transfers.{DrewSome}
use Rattle.icb_chain.specs.Ring.{Ring}
use Rattle.icb_chain.specs.declared.fault.ChainFault.TheVariants as chain
use Rattle.icb_rotate.specs.Rotating.{IsRotationFault}
use Rattle.icb_turns.specs.declared.fault.CannotWhat.TheVariants as form
use Rattle.icb_turns.specs.declared.fault.JobFault.{JobFault}
use Rattle.icb_turns.specs.declared.fault.JobFault.TheVariants as fault
use Rattle.icb_walk.specs.declared.fault.TreeFault.TheVariants as tree
use Rattle.icb_words.specs.declared.rotate_words.Rotate.{Rotate}
use Rattle.icb_run.specs.Answers.{EndsEarly}
use Rattle.icb_run.specs.Inputs.{LeavesOf}
use Rattle.icb_run.specs.Jobs.{status_of_job}
use Rattle.icb_run.specs.Keyrings.{ReadsKeyring, keyring_limit, keyring_of, status_of_keys}
use Rattle.icb_run.specs.Outside.{FaultsEnd, Outside}
use Rattle.icb_run.specs.Rotate.{DrawsFor, IsRotate, RotateAnswers, RotatesTable, Told, told_of}
use Rattle.icb_run.specs.Sources.{KeysAreRead}
use Rattle.icb_run.specs.declared.keyring_input.KeysFault.{KeysFault}
use Rattle.icb_run.specs.declared.keyring_input.KeysFault.TheVariants as keys
use Rattle.icb_run.specs.declared.status.Status.{Status}
use Rattle.icb_run.specs.declared.status.Status.TheVariants as status
use Rattle.icb_run.proofs.CreateLemmas.{after_keys, after_put, keys_input, keys_left, keys_no_output, keys_no_random, keys_no_store, left_behind}
use Rattle.icb_run.proofs.EndLemmas.{blames_as, keyring_end, unblamed}
use Rattle.icb_run.proofs.ToldLemmas.{where_told}

-- an end of the command, in its own words, those of its sources, and those of the counts
pub record Ends (words : Rotate) (before now : Outside) (s : Status) : Type 0 where
  pub meets : IsRotate words before now s
  pub read : KeysAreRead before now s
  pub ends : FaultsEnd before now s

-- ---- a keyring that isn't read

-- an early end answers whatever the keyring is
pub early_answer : (id : List ℕ) (ring : Result Ring KeysFault) (now_ms : ℕ) (t : Told) (s : Status)
    → EndsEarly s → RotateAnswers id ring now_ms t t s
early_answer id (Err refused) now_ms t s early = (inr early, refl)
early_answer id (Ok ring) now_ms t s early = inr (early, refl)

refused_answer : (id text : List ℕ) (now_ms : ℕ) (left : Option (List ℕ)) (t : Told) (fault : KeysFault)
    → ReadsKeyring text left (Err fault)
    → RotateAnswers id (keyring_of text) now_ms t t (status_of_keys fault)
refused_answer id text now_ms left t keys.Input reads = early_answer id (keyring_of text) now_ms t status.InputFault tt
refused_answer id text now_ms left t keys.NoMemory reads = early_answer id (keyring_of text) now_ms t status.NoMemory tt
refused_answer id text now_ms left t (keys.Limit number) reads = rw reads.0 (inl refl, refl)
refused_answer id text now_ms left t (keys.BadKeyring line) reads = rw reads.0 (inl refl, refl)

-- a keyring that isn't read ends the command
pub unread_end : (words : Rotate) (before : Outside) (left : Option (List ℕ)) (count : ℕ) (fault : KeysFault)
    → IfSome before.keys (λ text. ReadsKeyring text left (Err fault))
    → Blames (fault ≡ keys.Input) before.faults.keys count
    → Ends words before (after_keys before left count) (status_of_keys fault)
unread_end words before left count fault reads blames = record {
  meets = record {
    answered = where_told before.keys
        (λ text read. refused_answer words.master text before.now_ms left (told_of before) fault read) reads;
    rest = refl;
  };
  read = record { input = refl; keys = keys_left before.keys left fault reads; trusted = refl };
  ends = keyring_end before (after_keys before left count) (status_of_keys fault)
      (unblamed before.faults.table before.faults.table refl (keys_no_store fault))
      (blames_as before.faults.keys count (λ is. ap status_of_keys is) (keys_input fault) blames)
      (unblamed before.faults.draws before.faults.draws refl (keys_no_random fault))
      (unblamed before.faults.out before.faults.out refl (keys_no_output fault))
      refl refl refl;
}

-- ---- a keyring that is read

-- it is read to its end, by any status
pub all_left : (before left : Option (List ℕ)) (ring : Ring) (s : Status)
    → IfSome before (λ text. ReadsKeyring text left (Ok ring)) → LeavesOf keyring_limit before left s
all_left before left ring (status.Limit what number) reads =
    where_told before (λ text read. left_behind text ring left read) reads
all_left before left ring status.InputFault reads = tt
all_left before left ring status.NoMemory reads = tt
all_left before left ring s reads = where_told before (λ text read. read.1) reads

-- a rotation
pub rotate_end : (words : Rotate) (before : Outside) (ring : Ring) (left drawn : Option (List ℕ))
    (table : Option Objects) (out : Option (List ℕ)) (keys_count draws_count table_count out_count : ℕ) (s : Status)
    → IfSome before.keys (λ text. ReadsKeyring text left (Ok ring)) → keys_count ≡ before.faults.keys
    → RotatesTable words.master ring before.now_ms (told_of before)
    (record { table = table; drawn = drawn; out = out }) s
    → Blames (s ≡ status.StoreFault) before.faults.table table_count
    → Blames (s ≡ status.RandomFault) before.faults.draws draws_count
    → Blames (s ≡ status.OutputFault) before.faults.out out_count → s ≢ status.InputFault
    → Ends words before (after_put before table left drawn out table_count keys_count draws_count out_count) s
rotate_end words before ring left drawn table out keys_count draws_count table_count out_count s reads same rotates store random output no_input = record {
  meets = record {
    answered = where_told before.keys (λ text read. rw read.0 (inl rotates)) reads;
    rest = refl;
  };
  read = record { input = refl; keys = all_left before.keys left ring s reads; trusted = refl };
  ends = keyring_end before (after_put before table left drawn out table_count keys_count draws_count out_count) s
      store (unblamed before.faults.keys keys_count same no_input) random output refl refl refl;
}

-- ---- the status of a rotation

-- which refusal has the status of a fault
pub record HasStatus (refused : JobFault) : Type 0 where
  pub store : status_of_job refused ≡ status.StoreFault → refused ≡ fault.Store
  pub random : status_of_job refused ≡ status.RandomFault → refused ≡ fault.Random
  pub no_input : status_of_job refused ≢ status.InputFault
  pub no_output : status_of_job refused ≢ status.OutputFault

pub has_status : (refused : JobFault) → IsRotationFault refused → HasStatus refused
has_status fault.NoTable is =
    record { store = λ e. cc; random = λ e. cc; no_input = λ e. cc; no_output = λ e. cc }
has_status (fault.BadMeta field) is =
    record { store = λ e. cc; random = λ e. cc; no_input = λ e. cc; no_output = λ e. cc }
has_status (fault.Cannot form.NotEncrypted) is =
    record { store = λ e. cc; random = λ e. cc; no_input = λ e. cc; no_output = λ e. cc }
has_status (fault.SameKey id) is =
    record { store = λ e. cc; random = λ e. cc; no_input = λ e. cc; no_output = λ e. cc }
has_status (fault.KeyName id) is =
    record { store = λ e. cc; random = λ e. cc; no_input = λ e. cc; no_output = λ e. cc }
has_status (fault.Tree (tree.Chain (chain.NoKey id))) is =
    record { store = λ e. cc; random = λ e. cc; no_input = λ e. cc; no_output = λ e. cc }
has_status (fault.Tree (tree.Chain (chain.KeyRefused id))) is =
    record { store = λ e. cc; random = λ e. cc; no_input = λ e. cc; no_output = λ e. cc }
has_status (fault.Tree (tree.Chain chain.NoMemory)) is =
    record { store = λ e. cc; random = λ e. cc; no_input = λ e. cc; no_output = λ e. cc }
has_status (fault.Contended versions) is =
    record { store = λ e. cc; random = λ e. cc; no_input = λ e. cc; no_output = λ e. cc }
has_status (fault.Limit what number) is =
    record { store = λ e. cc; random = λ e. cc; no_input = λ e. cc; no_output = λ e. cc }
has_status fault.Random is =
    record { store = λ e. cc; random = λ e. refl; no_input = λ e. cc; no_output = λ e. cc }
has_status fault.Store is =
    record { store = λ e. refl; random = λ e. cc; no_input = λ e. cc; no_output = λ e. cc }
has_status fault.NoMemory is =
    record { store = λ e. cc; random = λ e. cc; no_input = λ e. cc; no_output = λ e. cc }
has_status other is = absurd is

-- a refusal as a rotation's answer
abbrev pub refusal : JobFault → Result ℕ JobFault
refusal refused = Err refused

-- a count that rose where a fault was answered rose where its status is
pub blames_store : (refused : JobFault) (s : Status) (before now : ℕ) → s ≡ status_of_job refused
    → IsRotationFault refused → Blames (refusal refused ≡ refusal fault.Store) before now
    → Blames (s ≡ status.StoreFault) before now
blames_store refused s before now is only blames =
    blames_as before now (λ e. let f : refused ≡ fault.Store = cc in is ∙ ap status_of_job f)
    (λ e. ap refusal ((has_status refused only).store (sym is ∙ e))) blames

pub blames_random : (refused : JobFault) (s : Status) (before now : ℕ) → s ≡ status_of_job refused
    → IsRotationFault refused → Blames (refusal refused ≡ refusal fault.Random) before now
    → Blames (s ≡ status.RandomFault) before now
blames_random refused s before now is only blames =
    blames_as before now (λ e. let f : refused ≡ fault.Random = cc in is ∙ ap status_of_job f)
    (λ e. ap refusal ((has_status refused only).random (sym is ∙ e))) blames

-- what was drawn for a result
pub draws_for : (result : Result ℕ JobFault) (bytes : List ℕ) (before now : Option (List ℕ))
    → IfSome before (λ drawn. DrewSome drawn now)
    → ((result ≡ Err fault.Random → ⊥) → IfSome before (λ drawn. now ≡ Some (drawn ++ bytes)))
    → DrawsFor result bytes before now
draws_for (Ok version) bytes before now some whole = whole (λ e. cc)
draws_for (Err fault.Random) bytes before now some whole = some
draws_for (Err other) bytes before now some whole = whole (λ e. cc)
