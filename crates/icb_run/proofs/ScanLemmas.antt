-- How the steps of a scan make the command's end.
use Rattle.std.proofs.Common.{◌≡◌, ◌∙◌, ◌≢◌, ◌≤◌, ◌+◌, ℕ, Bool, true, false, List, [], drop, length, refl, subst, ap, inl, inr}
use Rattle.std.proofs.Common.{Option, Some, None, Result, Ok, Err}
use Rattle.std.specs.Prelude.{IfSome, nat_lt}
use Rattle.std.proofs.lemmas.Bool.{ltb-false}
use Rattle.icb_base.specs.Causes.{Blames}
use Rattle.icb_base.specs.Objects.{Objects}
use Rattle.icb_base.specs.declared.limits.Limited.{Limited}
use Rattle.icb_base.specs.declared.limits.Limited.TheVariants as limit
use Rattle.icb_chain.specs.Ring.{Ring}
use Rattle.icb_chain.specs.declared.fault.ChainFault.TheVariants as chain
use Rattle.icb_meta.specs.Answers.{shown_of}
use Rattle.icb_meta.specs.declared.fields.Fields.{Fields}
use Rattle.icb_meta.specs.declared.table.TableMeta.{TableMeta}
use Rattle.icb_scan.specs.declared.fault.ScanFault.{ScanFault}
use Rattle.icb_scan.specs.declared.fault.ScanFault.TheVariants as scan
use Rattle.icb_table.specs.Selection.{Query}
use Rattle.icb_tree.specs.Versions.{most_bytes}
use Rattle.icb_tree.specs.declared.fault.CurrentFault.{CurrentFault}
use Rattle.icb_walk.specs.declared.fault.Cause.TheVariants as cause
use Rattle.icb_walk.specs.declared.fault.TreeFault.TheVariants as tree
use Rattle.icb_words.specs.declared.scan_words.Scan.{Scan}
use Rattle.icb_run.specs.Answers.{EndsEarly}
use Rattle.icb_run.specs.Inputs.{LeavesOf}
use Rattle.icb_run.specs.Keyrings.{ReadsKeyring, keyring_limit, keyring_of, status_of_keys}
use Rattle.icb_run.specs.Metadata.{FindsMetadata, IsOfMetadata, LeavesMetadata, LeavesTrusted, handed_in, metadata_told}
use Rattle.icb_run.specs.Outside.{FaultsEnd, Outside}
use Rattle.icb_run.specs.Scan.{IsScan, LeavesTheRest, PrintsChosen, ScanAnswers, query_of}
use Rattle.icb_run.specs.ScanStatus.{limit_status, status_of_scan}
use Rattle.icb_run.specs.Sources.{ScanIsRead}
use Rattle.icb_run.specs.declared.keyring_input.KeysFault.{KeysFault}
use Rattle.icb_run.specs.declared.keyring_input.KeysFault.TheVariants as keys
use Rattle.icb_run.specs.declared.status.Status.{Status}
use Rattle.icb_run.specs.declared.status.Status.TheVariants as status
use Rattle.icb_run.proofs.CreateLemmas.{keys_input, keys_left, left_behind, keys_no_output, keys_no_random, keys_no_store}
use Rattle.icb_run.proofs.EndLemmas.{blames_as, may_blame, metadata_end, stayed, unblamed}
use Rattle.icb_run.proofs.KeyringLemmas.{none_behind}
use Rattle.icb_run.proofs.ToldLemmas.{unless_told, where_both_told, where_told}

-- an end of the command, in its own words, those of its sources, and those of the counts
pub record Ends (words : Scan) (before now : Outside) (s : Status) : Type 0 where
  pub meets : IsScan words before now s
  pub read : ScanIsRead words before now s
  pub ends : FaultsEnd before now s

-- the outside after the keyring was read
abbrev pub after_keys : Outside → Option (List ℕ) → ℕ → Outside
after_keys before left count =
    record before { keys = left; faults = record before.faults { keys = count } }

-- and after the table, the metadata that was handed in and the output were used
abbrev pub after_scan : Outside → Option Objects → Option (List ℕ) → Option (List ℕ) → Option (List ℕ)
    → ℕ → ℕ → ℕ → ℕ → Outside
after_scan before table left trusted out table_count keys_count trusted_count out_count = record before {
  table = table;
  keys = left;
  trusted = trusted;
  out = out;
  faults = record before.faults {
    table = table_count;
    keys = keys_count;
    trusted = trusted_count;
    out = out_count;
  };
}

-- where the table holds what it held nothing else was changed
rest_same : (before : Outside) (table : Option Objects) (left trusted out : Option (List ℕ))
    (table_count keys_count trusted_count out_count : ℕ) → table ≡ before.table
    → LeavesTheRest before (after_scan before table left trusted out table_count keys_count trusted_count out_count)
rest_same before table left trusted out table_count keys_count trusted_count out_count same =
    ap (λ (held : Option Objects). after_scan before held left trusted out table_count keys_count trusted_count out_count) same

-- ---- an end before the scan

-- a fault or want of memory may come before the rows, whatever was read
pub early_answers : (table : Option Objects) (query : Query) (ring : Result Ring KeysFault)
    (meta : Result Fields CurrentFault) (out : Option (List ℕ)) (s : Status) → EndsEarly s
    → ScanAnswers table query ring meta out out s
early_answers table query (Err fault) meta out s early = (inr early, refl)
early_answers table query (Ok ring) (Err fault) out s early = (inr early, refl)
early_answers table query (Ok ring) (Ok meta) out s early = inr (early, refl)

-- want of memory leaves what was handed in as it was
pub leaves_nothing : (is_handed_in : Bool) (trusted : Option (List ℕ))
    → LeavesTrusted is_handed_in trusted trusted status.NoMemory
leaves_nothing true trusted = tt
leaves_nothing false trusted = refl

-- ---- a keyring that isn't read

keys_answer : (table : Option Objects) (query : Query) (text : List ℕ) (meta : Result Fields CurrentFault)
    (now out : Option (List ℕ)) (fault : KeysFault) → ReadsKeyring text now (Err fault)
    → ScanAnswers table query (keyring_of text) meta out out (status_of_keys fault)
keys_answer table query text meta now out keys.Input reads =
    early_answers table query (keyring_of text) meta out status.InputFault tt
keys_answer table query text meta now out keys.NoMemory reads =
    early_answers table query (keyring_of text) meta out status.NoMemory tt
keys_answer table query text meta now out (keys.Limit number) reads = rw reads.0 (inl refl, refl)
keys_answer table query text meta now out (keys.BadKeyring line) reads = rw reads.0 (inl refl, refl)

keys_trusted : (is_handed_in : Bool) (trusted : Option (List ℕ)) (fault : KeysFault)
    → LeavesTrusted is_handed_in trusted trusted (status_of_keys fault)
keys_trusted false trusted fault = refl
keys_trusted true trusted keys.Input = tt
keys_trusted true trusted keys.NoMemory = tt
keys_trusted true trusted (keys.Limit number) = refl
keys_trusted true trusted (keys.BadKeyring line) = refl

-- a keyring that isn't read ends the command
pub keys_end : (words : Scan) (before : Outside) (left : Option (List ℕ)) (count : ℕ) (fault : KeysFault)
    → IfSome before.keys (λ text. ReadsKeyring text left (Err fault))
    → Blames (fault ≡ keys.Input) before.faults.keys count
    → Ends words before (after_keys before left count) (status_of_keys fault)
keys_end words before left count fault reads blames =
    let blamed : Blames (status_of_keys fault ≡ status.InputFault) before.faults.keys count
    = blames_as before.faults.keys count (λ is. ap status_of_keys is) (keys_input fault) blames in record {
      meets = record {
        answered = where_told before.keys (λ text read.
            unless_told (metadata_told words.is_handed_in before.table before.trusted) (λ meta.
            keys_answer before.table (query_of words) text meta left before.out fault read)) reads;
        rest = refl;
      };
      read = record {
        input = refl;
        keys = keys_left before.keys left fault reads;
        trusted = keys_trusted words.is_handed_in before.trusted fault;
      };
      ends = metadata_end before (after_keys before left count) (status_of_keys fault)
          (unblamed before.faults.table before.faults.table refl (keys_no_store fault))
          (may_blame before.faults.keys count blamed)
          (stayed before.faults.trusted before.faults.trusted refl)
          (λ is. inl (blamed.rose is))
          (unblamed before.faults.draws before.faults.draws refl (keys_no_random fault))
          (unblamed before.faults.out before.faults.out refl (keys_no_output fault))
          refl refl;
    }

-- ---- a keyring that is read

-- the keyring was read to its end, whatever came then
ring_left : (before left : Option (List ℕ)) (ring : Ring) (s : Status)
    → IfSome before (λ text. ReadsKeyring text left (Ok ring)) → LeavesOf keyring_limit before left s
ring_left before left ring status.Ok reads = where_told before (λ text read. read.1) reads
ring_left before left ring (status.Usage word) reads = where_told before (λ text read. read.1) reads
ring_left before left ring (status.BadKeyring line) reads = where_told before (λ text read. read.1) reads
ring_left before left ring (status.BadInput line) reads = where_told before (λ text read. read.1) reads
ring_left before left ring (status.Contended versions) reads = where_told before (λ text read. read.1) reads
ring_left before left ring (status.SameKey id) reads = where_told before (λ text read. read.1) reads
ring_left before left ring (status.KeyName id) reads = where_told before (λ text read. read.1) reads
ring_left before left ring (status.Cannot what) reads = where_told before (λ text read. read.1) reads
ring_left before left ring status.TableExists reads = where_told before (λ text read. read.1) reads
ring_left before left ring status.NoTable reads = where_told before (λ text read. read.1) reads
ring_left before left ring (status.BadMeta field) reads = where_told before (λ text read. read.1) reads
ring_left before left ring (status.NoKey id) reads = where_told before (λ text read. read.1) reads
ring_left before left ring (status.KeyRefused id) reads = where_told before (λ text read. read.1) reads
ring_left before left ring (status.NoSnapshot id) reads = where_told before (λ text read. read.1) reads
ring_left before left ring (status.NoColumn name) reads = where_told before (λ text read. read.1) reads
ring_left before left ring (status.BadRange name) reads = where_told before (λ text read. read.1) reads
ring_left before left ring (status.Missing path) reads = where_told before (λ text read. read.1) reads
ring_left before left ring (status.Short path size) reads = where_told before (λ text read. read.1) reads
ring_left before left ring (status.Header path fault) reads = where_told before (λ text read. read.1) reads
ring_left before left ring (status.Block path number) reads = where_told before (λ text read. read.1) reads
ring_left before left ring (status.Malformed path place) reads = where_told before (λ text read. read.1) reads
ring_left before left ring (status.Unsupported path file) reads = where_told before (λ text read. read.1) reads
ring_left before left ring (status.Codec path name) reads = where_told before (λ text read. read.1) reads
ring_left before left ring (status.PlainFile path file) reads = where_told before (λ text read. read.1) reads
ring_left before left ring (status.PlainList snapshot) reads = where_told before (λ text read. read.1) reads
ring_left before left ring (status.BadList snapshot file) reads = where_told before (λ text read. read.1) reads
ring_left before left ring (status.NameTaken path) reads = where_told before (λ text read. read.1) reads
ring_left before left ring (status.Limit what number) reads =
    where_told before (λ text read. left_behind text ring left read) reads
ring_left before left ring status.StoreFault reads = where_told before (λ text read. read.1) reads
ring_left before left ring status.InputFault reads = tt
ring_left before left ring status.OutputFault reads = where_told before (λ text read. read.1) reads
ring_left before left ring status.RandomFault reads = where_told before (λ text read. read.1) reads
ring_left before left ring status.NoMemory reads = tt

-- ---- metadata that isn't read

meta_answer : (table : Option Objects) (query : Query) (text : List ℕ) (ring : Ring)
    (meaning : Result Fields CurrentFault) (left out : Option (List ℕ)) (s : Status)
    → ReadsKeyring text left (Ok ring) → FindsMetadata meaning (Err s)
    → ScanAnswers table query (keyring_of text) meaning out out s
meta_answer table query text ring meaning left out s reads (inl (fault, is, told)) =
    rw (reads.0, is) (inl told, refl)
meta_answer table query text ring meaning left out s reads (inr early) =
    early_answers table query (keyring_of text) meaning out s early

meta_no_output : (s : Status) → IsOfMetadata s → s ≢ status.OutputFault
meta_no_output s of is = subst (λ (x : Status). IsOfMetadata x) is of

meta_no_random : (s : Status) → IsOfMetadata s → s ≢ status.RandomFault
meta_no_random s of is = subst (λ (x : Status). IsOfMetadata x) is of

-- metadata that isn't read ends the command
pub meta_end : (words : Scan) (before : Outside) (ring : Ring) (table : Option Objects)
    (left trusted : Option (List ℕ)) (table_count keys_count trusted_count : ℕ) (s : Status)
    → IfSome before.keys (λ text. ReadsKeyring text left (Ok ring)) → keys_count ≡ before.faults.keys
    → IfSome (metadata_told words.is_handed_in before.table before.trusted) (λ meaning. FindsMetadata meaning (Err s))
    → LeavesTrusted words.is_handed_in before.trusted trusted s → table ≡ before.table
    → Blames (s ≡ status.StoreFault) before.faults.table table_count
    → Blames (s ≡ status.InputFault) before.faults.trusted trusted_count → IsOfMetadata s
    → Ends words before
    (after_scan before table left trusted before.out table_count keys_count trusted_count before.faults.out) s
meta_end words before ring table left trusted table_count keys_count trusted_count s reads same finds leaves held store input of = record {
  meets = record {
    answered = where_told before.keys (λ text read.
        where_told (metadata_told words.is_handed_in before.table before.trusted) (λ meaning found.
        meta_answer before.table (query_of words) text ring meaning left before.out s read found) finds) reads;
    rest = rest_same before table left trusted before.out table_count keys_count trusted_count before.faults.out held;
  };
  read = record { input = refl; keys = ring_left before.keys left ring s reads; trusted = leaves };
  ends = metadata_end before
      (after_scan before table left trusted before.out table_count keys_count trusted_count before.faults.out) s
      store (stayed before.faults.keys keys_count same) (may_blame before.faults.trusted trusted_count input)
      (λ is. inr (input.rose is))
      (unblamed before.faults.draws before.faults.draws refl (meta_no_random s of))
      (unblamed before.faults.out before.faults.out refl (meta_no_output s of))
      refl refl;
}

-- ---- the scan

-- the statuses of scans
abbrev pub IsOfScan : Status → Type 0
IsOfScan (status.BadKeyring line) = ⊥
IsOfScan (status.Limit limit.Keyring number) = ⊥
IsOfScan status.InputFault = ⊥
IsOfScan status.RandomFault = ⊥
IsOfScan s = Unit {0}

limits_of_scan : (what : Limited) → IsOfScan (limit_status what)
limits_of_scan limit.Keyring = tt
limits_of_scan limit.Input = tt
limits_of_scan limit.Metadata = tt
limits_of_scan limit.Versions = tt
limits_of_scan limit.Snapshots = tt
limits_of_scan limit.Sequence = tt
limits_of_scan limit.RowIds = tt
limits_of_scan limit.Jobs = tt
limits_of_scan limit.Header = tt
limits_of_scan limit.Block = tt
limits_of_scan limit.Columns = tt
limits_of_scan limit.Ids = tt

pub scans_of_scan : (result : Result ℕ ScanFault) → IsOfScan (status_of_scan result)
scans_of_scan (Ok count) = tt
scans_of_scan (Err (scan.Tree (tree.NoSnapshot id))) = tt
scans_of_scan (Err (scan.Tree (tree.PlainList snapshot))) = tt
scans_of_scan (Err (scan.Tree (tree.BadList snapshot file what))) = tt
scans_of_scan (Err (scan.Tree (tree.Chain (chain.NoKey id)))) = tt
scans_of_scan (Err (scan.Tree (tree.Chain (chain.KeyRefused id)))) = tt
scans_of_scan (Err (scan.Tree (tree.Chain chain.NoMemory))) = tt
scans_of_scan (Err (scan.Tree (tree.At path cause.Missing))) = tt
scans_of_scan (Err (scan.Tree (tree.At path (cause.Short size)))) = tt
scans_of_scan (Err (scan.Tree (tree.At path (cause.Header fault)))) = tt
scans_of_scan (Err (scan.Tree (tree.At path (cause.Block number)))) = tt
scans_of_scan (Err (scan.Tree (tree.At path (cause.Malformed place what)))) = tt
scans_of_scan (Err (scan.Tree (tree.At path (cause.Codec name)))) = tt
scans_of_scan (Err (scan.Tree (tree.At path (cause.PlainFile file)))) = tt
scans_of_scan (Err (scan.Tree (tree.At path (cause.Unsupported file what)))) = tt
scans_of_scan (Err (scan.Tree (tree.At path (cause.Large what place size)))) = limits_of_scan what
scans_of_scan (Err (scan.Tree tree.Store)) = tt
scans_of_scan (Err (scan.Tree tree.NoMemory)) = tt
scans_of_scan (Err (scan.NoColumn name)) = tt
scans_of_scan (Err (scan.BadRange name)) = tt
scans_of_scan (Err scan.Sink) = tt
scans_of_scan (Err scan.NoMemory) = tt

-- a limit of a file is no fault of the outside
limits_not_store : (what : Limited) → limit_status what ≢ status.StoreFault
limits_not_store limit.Keyring is = cc
limits_not_store limit.Input is = cc
limits_not_store limit.Metadata is = cc
limits_not_store limit.Versions is = cc
limits_not_store limit.Snapshots is = cc
limits_not_store limit.Sequence is = cc
limits_not_store limit.RowIds is = cc
limits_not_store limit.Jobs is = cc
limits_not_store limit.Header is = cc
limits_not_store limit.Block is = cc
limits_not_store limit.Columns is = cc
limits_not_store limit.Ids is = cc

limits_not_output : (what : Limited) → limit_status what ≢ status.OutputFault
limits_not_output limit.Keyring is = cc
limits_not_output limit.Input is = cc
limits_not_output limit.Metadata is = cc
limits_not_output limit.Versions is = cc
limits_not_output limit.Snapshots is = cc
limits_not_output limit.Sequence is = cc
limits_not_output limit.RowIds is = cc
limits_not_output limit.Jobs is = cc
limits_not_output limit.Header is = cc
limits_not_output limit.Block is = cc
limits_not_output limit.Columns is = cc
limits_not_output limit.Ids is = cc

-- a fault of the store is a scan's fault of the store
pub store_only : (result : Result ℕ ScanFault) → status_of_scan result ≡ status.StoreFault
    → result ≡ Err (scan.Tree tree.Store)
store_only (Ok count) is = cc
store_only (Err (scan.Tree (tree.NoSnapshot id))) is = cc
store_only (Err (scan.Tree (tree.PlainList snapshot))) is = cc
store_only (Err (scan.Tree (tree.BadList snapshot file what))) is = cc
store_only (Err (scan.Tree (tree.Chain (chain.NoKey id)))) is = cc
store_only (Err (scan.Tree (tree.Chain (chain.KeyRefused id)))) is = cc
store_only (Err (scan.Tree (tree.Chain chain.NoMemory))) is = cc
store_only (Err (scan.Tree (tree.At path cause.Missing))) is = cc
store_only (Err (scan.Tree (tree.At path (cause.Short size)))) is = cc
store_only (Err (scan.Tree (tree.At path (cause.Header fault)))) is = cc
store_only (Err (scan.Tree (tree.At path (cause.Block number)))) is = cc
store_only (Err (scan.Tree (tree.At path (cause.Malformed place what)))) is = cc
store_only (Err (scan.Tree (tree.At path (cause.Codec name)))) is = cc
store_only (Err (scan.Tree (tree.At path (cause.PlainFile file)))) is = cc
store_only (Err (scan.Tree (tree.At path (cause.Unsupported file what)))) is = cc
store_only (Err (scan.Tree (tree.At path (cause.Large what place size)))) is = absurd (limits_not_store what is)
store_only (Err (scan.Tree tree.Store)) is = refl
store_only (Err (scan.Tree tree.NoMemory)) is = cc
store_only (Err (scan.NoColumn name)) is = cc
store_only (Err (scan.BadRange name)) is = cc
store_only (Err scan.Sink) is = cc
store_only (Err scan.NoMemory) is = cc

-- and one of the output is a fault of its sink
pub output_only : (result : Result ℕ ScanFault) → status_of_scan result ≡ status.OutputFault
    → result ≡ Err scan.Sink
output_only (Ok count) is = cc
output_only (Err (scan.Tree (tree.NoSnapshot id))) is = cc
output_only (Err (scan.Tree (tree.PlainList snapshot))) is = cc
output_only (Err (scan.Tree (tree.BadList snapshot file what))) is = cc
output_only (Err (scan.Tree (tree.Chain (chain.NoKey id)))) is = cc
output_only (Err (scan.Tree (tree.Chain (chain.KeyRefused id)))) is = cc
output_only (Err (scan.Tree (tree.Chain chain.NoMemory))) is = cc
output_only (Err (scan.Tree (tree.At path cause.Missing))) is = cc
output_only (Err (scan.Tree (tree.At path (cause.Short size)))) is = cc
output_only (Err (scan.Tree (tree.At path (cause.Header fault)))) is = cc
output_only (Err (scan.Tree (tree.At path (cause.Block number)))) is = cc
output_only (Err (scan.Tree (tree.At path (cause.Malformed place what)))) is = cc
output_only (Err (scan.Tree (tree.At path (cause.Codec name)))) is = cc
output_only (Err (scan.Tree (tree.At path (cause.PlainFile file)))) is = cc
output_only (Err (scan.Tree (tree.At path (cause.Unsupported file what)))) is = cc
output_only (Err (scan.Tree (tree.At path (cause.Large what place size)))) is = absurd (limits_not_output what is)
output_only (Err (scan.Tree tree.Store)) is = cc
output_only (Err (scan.Tree tree.NoMemory)) is = cc
output_only (Err (scan.NoColumn name)) is = cc
output_only (Err (scan.BadRange name)) is = cc
output_only (Err scan.Sink) is = refl
output_only (Err scan.NoMemory) is = cc

-- behind the limit of a short text nothing stands
text_behind : (n : ℕ) (text : List ℕ) (now : Option (List ℕ)) → length text ≤ n → now ≡ Some []
    → now ≡ Some (drop (n + 1) text)
text_behind n text now fits is = is ∙ ap Some (none_behind n text fits)

limit_left : (n : ℕ) (before now : Option (List ℕ)) → IfSome before (λ text. length text ≤ n)
    → IfSome before (λ text. now ≡ Some []) → IfSome before (λ text. now ≡ Some (drop (n + 1) text))
limit_left n before now short all = where_both_told before (λ text fits is. text_behind n text now fits is) short all

-- metadata that was handed in and read to its end, whatever came then
text_left : (before now : Option (List ℕ)) (s : Status) → IsOfScan s
    → IfSome before (λ text. length text ≤ most_bytes) → IfSome before (λ text. now ≡ Some [])
    → LeavesMetadata before now s
text_left before now status.Ok of short all = all
text_left before now (status.Usage word) of short all = all
text_left before now (status.BadKeyring line) of short all = absurd of
text_left before now (status.BadInput line) of short all = all
text_left before now (status.Contended versions) of short all = all
text_left before now (status.SameKey id) of short all = all
text_left before now (status.KeyName id) of short all = all
text_left before now (status.Cannot what) of short all = all
text_left before now status.TableExists of short all = all
text_left before now status.NoTable of short all = all
text_left before now (status.BadMeta field) of short all = all
text_left before now (status.NoKey id) of short all = all
text_left before now (status.KeyRefused id) of short all = all
text_left before now (status.NoSnapshot id) of short all = all
text_left before now (status.NoColumn name) of short all = all
text_left before now (status.BadRange name) of short all = all
text_left before now (status.Missing path) of short all = all
text_left before now (status.Short path size) of short all = all
text_left before now (status.Header path fault) of short all = all
text_left before now (status.Block path number) of short all = all
text_left before now (status.Malformed path place) of short all = all
text_left before now (status.Unsupported path file) of short all = all
text_left before now (status.Codec path name) of short all = all
text_left before now (status.PlainFile path file) of short all = all
text_left before now (status.PlainList snapshot) of short all = all
text_left before now (status.BadList snapshot file) of short all = all
text_left before now (status.NameTaken path) of short all = all
text_left before now (status.Limit limit.Keyring number) of short all = absurd of
text_left before now (status.Limit limit.Input number) of short all = limit_left most_bytes before now short all
text_left before now (status.Limit limit.Metadata number) of short all = limit_left most_bytes before now short all
text_left before now (status.Limit limit.Versions number) of short all = limit_left most_bytes before now short all
text_left before now (status.Limit limit.Snapshots number) of short all = limit_left most_bytes before now short all
text_left before now (status.Limit limit.Sequence number) of short all = limit_left most_bytes before now short all
text_left before now (status.Limit limit.RowIds number) of short all = limit_left most_bytes before now short all
text_left before now (status.Limit limit.Jobs number) of short all = limit_left most_bytes before now short all
text_left before now (status.Limit limit.Header number) of short all = limit_left most_bytes before now short all
text_left before now (status.Limit limit.Block number) of short all = limit_left most_bytes before now short all
text_left before now (status.Limit limit.Columns number) of short all = limit_left most_bytes before now short all
text_left before now (status.Limit limit.Ids number) of short all = limit_left most_bytes before now short all
text_left before now status.StoreFault of short all = all
text_left before now status.InputFault of short all = tt
text_left before now status.OutputFault of short all = all
text_left before now status.RandomFault of short all = all
text_left before now status.NoMemory of short all = tt

-- a text that is metadata is short
handed_short : (text : List ℕ) (meta : Fields) → handed_in text ≡ Ok meta → length text ≤ most_bytes
handed_short text meta is = by_test (nat_lt most_bytes (length text)) refl
  where
    by_test : (long : Bool) → nat_lt most_bytes (length text) ≡ long → length text ≤ most_bytes
    by_test false test = ltb-false most_bytes (length text) test
    by_test true test = absurd (let never = rw test at is in cc)

-- what is left of metadata that was handed in and was read
scan_left : (is_handed_in : Bool) (table : Option Objects) (before now : Option (List ℕ)) (meta : TableMeta)
    (s : Status) → IsOfScan s
    → IfSome (metadata_told is_handed_in table before) (λ meaning. FindsMetadata meaning (Ok meta))
    → LeavesTrusted is_handed_in before now status.Ok → LeavesTrusted is_handed_in before now s
scan_left false table before now meta s of finds leaves = leaves
scan_left true table None now meta s of finds leaves = text_left None now s of tt tt
scan_left true table (Some text) now meta s of finds leaves =
    text_left (Some text) now s of (handed_short text (shown_of meta) finds) leaves

scan_answer : (table : Option Objects) (query : Query) (text : List ℕ) (ring : Ring) (meta : TableMeta)
    (meaning : Result Fields CurrentFault) (left out out_now : Option (List ℕ)) (s : Status)
    → ReadsKeyring text left (Ok ring) → FindsMetadata meaning (Ok meta)
    → PrintsChosen table (shown_of meta) ring query out out_now s
    → ScanAnswers table query (keyring_of text) meaning out out_now s
scan_answer table query text ring meta meaning left out out_now s reads found prints =
    rw (reads.0, found) (inl prints)

scan_no_input : (s : Status) → IsOfScan s → s ≢ status.InputFault
scan_no_input s of is = subst (λ (x : Status). IsOfScan x) is of

scan_no_random : (s : Status) → IsOfScan s → s ≢ status.RandomFault
scan_no_random s of is = subst (λ (x : Status). IsOfScan x) is of

-- the rows are printed, or not all of them
pub scan_end : (words : Scan) (before : Outside) (ring : Ring) (meta : TableMeta) (table : Option Objects)
    (left trusted out : Option (List ℕ)) (table_count keys_count trusted_count out_count : ℕ) (s : Status)
    → IfSome before.keys (λ text. ReadsKeyring text left (Ok ring)) → keys_count ≡ before.faults.keys
    → IfSome (metadata_told words.is_handed_in before.table before.trusted) (λ meaning. FindsMetadata meaning (Ok meta))
    → LeavesTrusted words.is_handed_in before.trusted trusted status.Ok → table ≡ before.table
    → trusted_count ≡ before.faults.trusted
    → PrintsChosen before.table (shown_of meta) ring (query_of words) before.out out s
    → Blames (s ≡ status.StoreFault) before.faults.table table_count
    → Blames (s ≡ status.OutputFault) before.faults.out out_count
    → Ends words before
    (after_scan before table left trusted out table_count keys_count trusted_count out_count) s
scan_end words before ring meta table left trusted out table_count keys_count trusted_count out_count s reads same finds leaves held same_trusted prints store output =
    let of : IsOfScan s = rw prints.is_status (scans_of_scan prints.result) in record {
      meets = record {
        answered = where_told before.keys (λ text read.
            where_told (metadata_told words.is_handed_in before.table before.trusted) (λ meaning found.
            scan_answer before.table (query_of words) text ring meta meaning left before.out out s read found prints) finds) reads;
        rest = rest_same before table left trusted out table_count keys_count trusted_count out_count held;
      };
      read = record {
        input = refl;
        keys = ring_left before.keys left ring s reads;
        trusted = scan_left words.is_handed_in before.table before.trusted trusted meta s of finds leaves;
      };
      ends = metadata_end before
          (after_scan before table left trusted out table_count keys_count trusted_count out_count) s
          store (stayed before.faults.keys keys_count same) (stayed before.faults.trusted trusted_count same_trusted)
          (λ is. absurd (scan_no_input s of is))
          (unblamed before.faults.draws before.faults.draws refl (scan_no_random s of))
          output refl refl;
    }

-- the same by the steps: the metadata is read first, which leaves the table and its count as they were
pub scan_done : (words : Scan) (before : Outside) (ring : Ring) (meta : TableMeta) (query : Query)
    (mid table : Option Objects) (left trusted out : Option (List ℕ))
    (mid_count table_count keys_count trusted_count out_count : ℕ) (s : Status)
    → IfSome before.keys (λ text. ReadsKeyring text left (Ok ring)) → keys_count ≡ before.faults.keys
    → IfSome (metadata_told words.is_handed_in before.table before.trusted) (λ meaning. FindsMetadata meaning (Ok meta))
    → LeavesTrusted words.is_handed_in before.trusted trusted status.Ok
    → mid ≡ before.table → mid_count ≡ before.faults.table → table ≡ mid
    → trusted_count ≡ before.faults.trusted → query ≡ query_of words
    → PrintsChosen mid (shown_of meta) ring query before.out out s
    → Blames (s ≡ status.StoreFault) mid_count table_count
    → Blames (s ≡ status.OutputFault) before.faults.out out_count
    → Ends words before
    (after_scan before table left trusted out table_count keys_count trusted_count out_count) s
scan_done words before ring meta query mid table left trusted out mid_count table_count keys_count trusted_count out_count s reads same finds leaves kept unfailed held same_trusted asked prints store output =
    scan_end words before ring meta table left trusted out table_count keys_count trusted_count out_count s reads same
    finds leaves (held ∙ kept) same_trusted (rw (kept, asked) at prints) (rw unfailed at store) output
