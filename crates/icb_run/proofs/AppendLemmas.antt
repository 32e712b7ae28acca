-- How the steps of an append make the command's end.
use Rattle.std.proofs.Common.{◌≡◌, ◌≢◌, ◌∙◌, ◌+◌, ℕ, List, Bool, true, false, drop, length, refl, sym, subst, ap, inl, inr}
use Rattle.std.proofs.Common.{Option, Some, Result, Ok, Err}
use Rattle.std.specs.Prelude.{IfSome, nat_lt}
use Rattle.std.proofs.lemmas.Bool.{lt-ltb, le-ltb}
use Rattle.icb_base.specs.Causes.{Blames}
use Rattle.icb_base.specs.Objects.{Objects}
use Rattle.icb_chain.specs.Ring.{Ring}
use Rattle.icb_append.specs.declared.whole.Committed.{Committed}
use Rattle.icb_turns.specs.declared.fault.JobFault.{JobFault}
use Rattle.icb_turns.specs.declared.fault.JobFault.TheVariants as fault
use Rattle.icb_scan.specs.declared.fault.ScanFault.{ScanFault}
use Rattle.icb_scan.specs.declared.fault.ScanFault.TheVariants as scan
use Rattle.icb_walk.specs.declared.fault.TreeFault.{TreeFault}
use Rattle.icb_walk.specs.declared.fault.TreeFault.TheVariants as tree
use Rattle.icb_run.specs.Answers.{EndsEarly}
use Rattle.icb_run.specs.Append.{AppendAnswers, AppendsTable, IsAppend, Told, told_of}
use Rattle.icb_run.specs.Inputs.{LeavesOf, ReadsAll, input_limit, status_of_read}
use Rattle.icb_run.specs.Jobs.{status_of_job}
use Rattle.icb_run.specs.Keyrings.{ReadsKeyring, keyring_of, status_of_keys}
use Rattle.icb_run.specs.Outside.{FaultsEnd, Outside}
use Rattle.icb_run.specs.ScanStatus.{status_of_tree}
use Rattle.icb_run.specs.Sources.{AppendIsRead, LeavesBehind}
use Rattle.icb_run.specs.declared.input.ReadFault.{ReadFault}
use Rattle.icb_run.specs.declared.input.ReadFault.TheVariants as read
use Rattle.icb_run.specs.declared.keyring_input.KeysFault.{KeysFault}
use Rattle.icb_run.specs.declared.keyring_input.KeysFault.TheVariants as keys
use Rattle.icb_run.specs.declared.status.Status.{Status}
use Rattle.icb_run.specs.declared.status.Status.TheVariants as status
use Rattle.icb_run.proofs.CreateLemmas.{after_keys, keys_input, keys_left, keys_no_output, keys_no_random, keys_no_store}
use Rattle.icb_run.proofs.EndLemmas.{blames_as, input_end, may_blame, stayed, unblamed}
use Rattle.icb_run.proofs.KeyringLemmas.{none_behind}
use Rattle.icb_run.proofs.RotateLemmas.{all_left}
use Rattle.icb_run.proofs.ScanLemmas.{IsOfScan, output_only, scans_of_scan, store_only}
use Rattle.icb_run.proofs.SealLemmas.{read_input, read_leaves, read_no_output, read_no_random, read_no_store}
use Rattle.icb_run.proofs.ToldLemmas.{unless_told, where_told}

-- an end of the command, in its own words, those of its sources, and those of the counts
pub record Ends (before now : Outside) (s : Status) : Type 0 where
  pub meets : IsAppend before now s
  pub read : AppendIsRead before now s
  pub ends : FaultsEnd before now s

-- the outside after the keyring and the input were read
abbrev pub after_input : Outside → Option (List ℕ) → Option (List ℕ) → ℕ → ℕ → Outside
after_input before left input keys_count input_count = record before {
  input = input;
  keys = left;
  faults = record before.faults { input = input_count; keys = keys_count };
}

-- and after the append, and the printing of what it committed
abbrev pub after_append : Outside → Option Objects → Option (List ℕ) → Option (List ℕ) → Option (List ℕ)
    → Option (List ℕ) → ℕ → ℕ → ℕ → ℕ → ℕ → Outside
after_append before table input left drawn out table_count input_count keys_count draws_count out_count = record before {
  table = table;
  input = input;
  keys = left;
  drawn = drawn;
  out = out;
  faults = record before.faults {
    table = table_count;
    input = input_count;
    keys = keys_count;
    draws = draws_count;
    out = out_count;
  };
}

-- ---- a keyring that isn't read

-- an early end answers whatever the keyring and the input are
pub early_answer : (ring : Result Ring KeysFault) (lines : List ℕ) (now_ms : ℕ) (t : Told) (s : Status)
    → EndsEarly s → AppendAnswers ring lines now_ms t t s
early_answer (Err refused) lines now_ms t s early = (inr early, refl)
early_answer (Ok ring) lines now_ms t s early = by_test (nat_lt input_limit (length lines)) refl
  where
    by_test : (test : Bool) → nat_lt input_limit (length lines) ≡ test → AppendAnswers (Ok ring) lines now_ms t t s
    by_test true is = rw is (inr early, refl)
    by_test false is = rw is (inr (early, refl))

refused_answer : (text lines : List ℕ) (now_ms : ℕ) (left : Option (List ℕ)) (t : Told) (fault : KeysFault)
    → ReadsKeyring text left (Err fault) → AppendAnswers (keyring_of text) lines now_ms t t (status_of_keys fault)
refused_answer text lines now_ms left t keys.Input reads = early_answer (keyring_of text) lines now_ms t status.InputFault tt
refused_answer text lines now_ms left t keys.NoMemory reads = early_answer (keyring_of text) lines now_ms t status.NoMemory tt
refused_answer text lines now_ms left t (keys.Limit number) reads = rw reads.0 (inl refl, refl)
refused_answer text lines now_ms left t (keys.BadKeyring line) reads = rw reads.0 (inl refl, refl)

-- want of memory, or a fault of the keyring, leaves the input as it was
pub unread_input : (ring : Result Ring KeysFault) (input : Option (List ℕ)) → LeavesBehind ring input input status.NoMemory
unread_input (Err refused) input = refl
unread_input (Ok ring) input = tt

unread_behind : (ring : Result Ring KeysFault) (input : Option (List ℕ)) → LeavesBehind ring input input status.InputFault
unread_behind (Err refused) input = refl
unread_behind (Ok ring) input = tt

refused_input : (text : List ℕ) (left input : Option (List ℕ)) (fault : KeysFault)
    → ReadsKeyring text left (Err fault) → LeavesBehind (keyring_of text) input input (status_of_keys fault)
refused_input text left input keys.Input reads = unread_behind (keyring_of text) input
refused_input text left input keys.NoMemory reads = unread_input (keyring_of text) input
refused_input text left input (keys.Limit number) reads = rw reads.0 refl
refused_input text left input (keys.BadKeyring line) reads = rw reads.0 refl

-- a keyring that isn't read ends the command
pub keys_end : (before : Outside) (left : Option (List ℕ)) (count : ℕ) (fault : KeysFault)
    → IfSome before.keys (λ text. ReadsKeyring text left (Err fault))
    → Blames (fault ≡ keys.Input) before.faults.keys count
    → Ends before (after_keys before left count) (status_of_keys fault)
keys_end before left count fault reads blames =
    let blamed : Blames (status_of_keys fault ≡ status.InputFault) before.faults.keys count
    = blames_as before.faults.keys count (λ is. ap status_of_keys is) (keys_input fault) blames in record {
      meets = record {
        answered = where_told before.keys (λ text read. unless_told before.input (λ lines.
            refused_answer text lines before.now_ms left (told_of before) fault read)) reads;
        rest = refl;
      };
      read = record {
        input = where_told before.keys (λ text read. refused_input text left before.input fault read) reads;
        keys = keys_left before.keys left fault reads;
        trusted = refl;
      };
      ends = input_end before (after_keys before left count) (status_of_keys fault)
          (unblamed before.faults.table before.faults.table refl (keys_no_store fault))
          (stayed before.faults.input before.faults.input refl)
          (may_blame before.faults.keys count blamed)
          (λ is. inr (blamed.rose is))
          (unblamed before.faults.draws before.faults.draws refl (keys_no_random fault))
          (unblamed before.faults.out before.faults.out refl (keys_no_output fault))
          refl refl;
    }

-- ---- an input that isn't read to its end

unread_answer : (text lines : List ℕ) (ring : Ring) (now_ms : ℕ) (left input : Option (List ℕ)) (t : Told)
    (fault : ReadFault) → ReadsKeyring text left (Ok ring) → ReadsAll lines input_limit input (Err fault)
    → AppendAnswers (keyring_of text) lines now_ms t t (status_of_read fault)
unread_answer text lines ring now_ms left input t read.Input ring_read reads =
    early_answer (keyring_of text) lines now_ms t status.InputFault tt
unread_answer text lines ring now_ms left input t read.NoMemory ring_read reads =
    early_answer (keyring_of text) lines now_ms t status.NoMemory tt
unread_answer text lines ring now_ms left input t read.Limit ring_read reads =
    let long : nat_lt input_limit (length lines) ≡ true = lt-ltb _ _ reads.0 in
    rw (ring_read.0, long) (inl refl, refl)

-- it ends the command
pub read_end : (before : Outside) (ring : Ring) (left input : Option (List ℕ)) (keys_count input_count : ℕ)
    (fault : ReadFault)
    → IfSome before.keys (λ text. ReadsKeyring text left (Ok ring)) → keys_count ≡ before.faults.keys
    → IfSome before.input (λ lines. ReadsAll lines input_limit input (Err fault))
    → Blames (fault ≡ read.Input) before.faults.input input_count
    → Ends before (after_input before left input keys_count input_count) (status_of_read fault)
read_end before ring left input keys_count input_count fault ring_reads same reads blames =
    let blamed : Blames (status_of_read fault ≡ status.InputFault) before.faults.input input_count
    = blames_as before.faults.input input_count (λ is. ap status_of_read is) (read_input fault) blames in record {
      meets = record {
        answered = where_told before.keys (λ text ring_read. where_told before.input (λ lines read.
            unread_answer text lines ring before.now_ms left input (told_of before) fault ring_read read) reads) ring_reads;
        rest = refl;
      };
      read = record {
        input = where_told before.keys (λ text ring_read. rw ring_read.0 (read_leaves before.input input fault reads)) ring_reads;
        keys = all_left before.keys left ring (status_of_read fault) ring_reads;
        trusted = refl;
      };
      ends = input_end before (after_input before left input keys_count input_count) (status_of_read fault)
          (unblamed before.faults.table before.faults.table refl (read_no_store fault))
          (may_blame before.faults.input input_count blamed)
          (stayed before.faults.keys keys_count same)
          (λ is. inl (blamed.rose is))
          (unblamed before.faults.draws before.faults.draws refl (read_no_random fault))
          (unblamed before.faults.out before.faults.out refl (read_no_output fault))
          refl refl;
    }

-- ---- an append

-- behind the limit of an input that was read to its end nothing stands
none_left : (n : ℕ) (before now : Option (List ℕ)) (lines : List ℕ)
    → IfSome before (λ left. ReadsAll left n now (Ok lines)) → IfSome before (λ left. now ≡ Some (drop (n + 1) left))
none_left n before now lines reads = where_told before (λ left all. all.2 ∙ ap Some (none_behind n left all.1)) reads

-- the input was read to its end, by any status
lines_left : (before now : Option (List ℕ)) (lines : List ℕ) (s : Status)
    → IfSome before (λ left. ReadsAll left input_limit now (Ok lines)) → LeavesOf input_limit before now s
lines_left before now lines (status.Limit what number) reads = none_left input_limit before now lines reads
lines_left before now lines status.InputFault reads = tt
lines_left before now lines status.NoMemory reads = tt
lines_left before now lines s reads = where_told before (λ left all. all.2) reads

append_answer : (text left_lines lines : List ℕ) (ring : Ring) (now_ms : ℕ) (left input : Option (List ℕ))
    (before now : Told) (s : Status) → ReadsKeyring text left (Ok ring) → ReadsAll left_lines input_limit input (Ok lines)
    → AppendsTable ring lines now_ms before now s → AppendAnswers (keyring_of text) left_lines now_ms before now s
append_answer text left_lines lines ring now_ms left input before now s ring_read reads appends =
    let short : nat_lt input_limit (length left_lines) ≡ false = le-ltb _ _ reads.1 in
    rw (ring_read.0, short) (inl (rw reads.0 at appends))

pub append_end : (before : Outside) (ring : Ring) (lines : List ℕ) (left input drawn : Option (List ℕ))
    (table : Option Objects) (out : Option (List ℕ))
    (keys_count input_count draws_count table_count out_count : ℕ) (s : Status)
    → IfSome before.keys (λ text. ReadsKeyring text left (Ok ring)) → keys_count ≡ before.faults.keys
    → IfSome before.input (λ left. ReadsAll left input_limit input (Ok lines)) → input_count ≡ before.faults.input
    → AppendsTable ring lines before.now_ms (told_of before) (record {
      table = record { held = table; faults = table_count };
      draws = record { drawn = drawn; faults = draws_count };
      out = out;
    }) s
    → Blames (s ≡ status.StoreFault) before.faults.table table_count
    → Blames (s ≡ status.RandomFault) before.faults.draws draws_count
    → Blames (s ≡ status.OutputFault) before.faults.out out_count → s ≢ status.InputFault
    → Ends before
    (after_append before table input left drawn out table_count input_count keys_count draws_count out_count) s
append_end before ring lines left input drawn table out keys_count input_count draws_count table_count out_count s ring_reads same_keys reads same_input appends store random output no_input = record {
  meets = record {
    answered = where_told before.keys (λ text ring_read. where_told before.input (λ left_lines read.
        append_answer text left_lines lines ring before.now_ms left input (told_of before) _ s ring_read read appends) reads) ring_reads;
    rest = refl;
  };
  read = record {
    input = where_told before.keys (λ text ring_read. rw ring_read.0 (lines_left before.input input lines s reads)) ring_reads;
    keys = all_left before.keys left ring s ring_reads;
    trusted = refl;
  };
  ends = input_end before
      (after_append before table input left drawn out table_count input_count keys_count draws_count out_count) s
      store (stayed before.faults.input input_count same_input) (stayed before.faults.keys keys_count same_keys)
      (λ is. absurd (no_input is)) random output refl refl;
}

-- ---- the status of an append's refusal

-- a scan's answer with this fault
abbrev failed : ScanFault → Result ℕ ScanFault
failed e = Err e

tree_store : (t : TreeFault) → status_of_tree t ≡ status.StoreFault → t ≡ tree.Store
tree_store t is = let same : failed (scan.Tree t) ≡ failed (scan.Tree tree.Store) = store_only (failed (scan.Tree t)) is in cc

tree_no_output : (t : TreeFault) → status_of_tree t ≢ status.OutputFault
tree_no_output t is = let same : failed (scan.Tree t) ≡ failed scan.Sink = output_only (failed (scan.Tree t)) is in cc

tree_no_input : (t : TreeFault) → status_of_tree t ≢ status.InputFault
tree_no_input t is = subst (λ (x : Status). IsOfScan x) is (scans_of_scan (failed (scan.Tree t)))

tree_no_random : (t : TreeFault) → status_of_tree t ≢ status.RandomFault
tree_no_random t is = subst (λ (x : Status). IsOfScan x) is (scans_of_scan (failed (scan.Tree t)))

-- which refusal has the status of a fault of the outside
pub record HasStatus (refused : JobFault) : Type 0 where
  pub store : status_of_job refused ≡ status.StoreFault → refused ≡ fault.Store
  pub random : status_of_job refused ≡ status.RandomFault → refused ≡ fault.Random
  pub no_input : status_of_job refused ≢ status.InputFault
  pub no_output : status_of_job refused ≢ status.OutputFault

pub has_status : (refused : JobFault) → (refused ≡ fault.Tree tree.Store → ⊥) → HasStatus refused
has_status fault.NoTable other =
    record { store = λ e. cc; random = λ e. cc; no_input = λ e. cc; no_output = λ e. cc }
has_status (fault.BadMeta field) other =
    record { store = λ e. cc; random = λ e. cc; no_input = λ e. cc; no_output = λ e. cc }
has_status (fault.BadInput line row) other =
    record { store = λ e. cc; random = λ e. cc; no_input = λ e. cc; no_output = λ e. cc }
has_status (fault.Cannot what) other =
    record { store = λ e. cc; random = λ e. cc; no_input = λ e. cc; no_output = λ e. cc }
has_status (fault.SameKey id) other =
    record { store = λ e. cc; random = λ e. cc; no_input = λ e. cc; no_output = λ e. cc }
has_status (fault.KeyName id) other =
    record { store = λ e. cc; random = λ e. cc; no_input = λ e. cc; no_output = λ e. cc }
has_status (fault.Tree t) other = record {
  store = λ is. absurd (other (ap (λ (x : TreeFault). fault.Tree x) (tree_store t is)));
  random = λ is. absurd (tree_no_random t is);
  no_input = tree_no_input t;
  no_output = tree_no_output t;
}
has_status (fault.NameTaken path) other =
    record { store = λ e. cc; random = λ e. cc; no_input = λ e. cc; no_output = λ e. cc }
has_status (fault.Contended versions) other =
    record { store = λ e. cc; random = λ e. cc; no_input = λ e. cc; no_output = λ e. cc }
has_status (fault.Limit what number) other =
    record { store = λ e. cc; random = λ e. cc; no_input = λ e. cc; no_output = λ e. cc }
has_status fault.Random other =
    record { store = λ e. cc; random = λ e. refl; no_input = λ e. cc; no_output = λ e. cc }
has_status fault.Store other =
    record { store = λ e. refl; random = λ e. cc; no_input = λ e. cc; no_output = λ e. cc }
has_status fault.NoMemory other =
    record { store = λ e. cc; random = λ e. cc; no_input = λ e. cc; no_output = λ e. cc }

-- a refusal as an append's answer
abbrev pub refusal : JobFault → Result Committed JobFault
refusal refused = Err refused

-- a count that rose where a fault was answered rose where its status is
pub blames_store : (refused : JobFault) (s : Status) (before now : ℕ) → s ≡ status_of_job refused
    → (refused ≡ fault.Tree tree.Store → ⊥) → Blames (refusal refused ≡ refusal fault.Store) before now
    → Blames (s ≡ status.StoreFault) before now
blames_store refused s before now is other blames =
    blames_as before now (λ e. let f : refused ≡ fault.Store = cc in is ∙ ap status_of_job f)
    (λ e. ap refusal ((has_status refused other).store (sym is ∙ e))) blames

pub blames_random : (refused : JobFault) (s : Status) (before now : ℕ) → s ≡ status_of_job refused
    → (refused ≡ fault.Tree tree.Store → ⊥) → Blames (refusal refused ≡ refusal fault.Random) before now
    → Blames (s ≡ status.RandomFault) before now
blames_random refused s before now is other blames =
    blames_as before now (λ e. let f : refused ≡ fault.Random = cc in is ∙ ap status_of_job f)
    (λ e. ap refusal ((has_status refused other).random (sym is ∙ e))) blames
