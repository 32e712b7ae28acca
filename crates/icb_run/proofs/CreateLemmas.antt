-- How the steps of making a table make the command's end.
use Rattle.std.proofs.Common.{◌≡◌, ◌∙◌, ◌≢◌, ◌≤◌, ◌++◌, ◌+◌, ℕ, List, [], length, refl, sym, subst, ap, inl, inr}
use Rattle.std.proofs.Common.{Option, Some, None, Ok, Err, drop, Bool, true, false, codes}
use Rattle.std.specs.Prelude.{IfSome, is_some}
use Rattle.std.proofs.lemmas.Bool.{le-ltb}
use Rattle.icb_base.specs.Causes.{Blames, Rose}
use Rattle.icb_base.specs.Objects.{Objects, object_at}
use Rattle.icb_base.specs.declared.limits.Limited.{Limited}
use Rattle.icb_chain.specs.Ring.{Ring, key_named}
use Rattle.icb_create.specs.Drawn.{IsWhole, drawn_bytes}
use Rattle.icb_create.specs.FirstVersion.{IsFirstVersion}
use Rattle.icb_create.specs.declared.drawing.Drawn.{Drawn}
use Rattle.icb_seal.specs.Keys.{key_bytes}
use Rattle.icb_tree.specs.Versions.{most_bytes, version_path}
use Rattle.icb_words.specs.declared.create_words.Create.{Create}
use Rattle.icb_run.specs.Answers.{EndsEarly, Prints}
use Rattle.icb_run.specs.Create.{Creates, HasMaster, IsCreate, IsCreated, IsFirstPut, create_answer, drawn_length, exists_where_taken, first_answer}
use Rattle.icb_run.specs.Inputs.{LeavesOf}
use Rattle.icb_run.specs.Keyrings.{ReadsKeyring, keyring_limit, status_of_keys}
use Rattle.icb_run.specs.Outside.{FaultsEnd, Outside}
use Rattle.icb_run.specs.SealFile.{LeavesTable, put_answer}
use Rattle.icb_run.specs.Sources.{KeysAreRead}
use Rattle.icb_run.specs.declared.keyring_input.KeysFault.{KeysFault}
use Rattle.icb_run.specs.declared.keyring_input.KeysFault.TheVariants as keys
use Rattle.icb_run.specs.declared.status.Status.{Status}
use Rattle.icb_run.specs.declared.status.Status.TheVariants as status
use Rattle.icb_run.proofs.AnswerLemmas.{appended_nothing}
use Rattle.icb_run.proofs.EndLemmas.{blamed, blames_as, keyring_end, unblamed}
use Rattle.icb_run.proofs.KeyringLemmas.{none_behind, ring_short}
use Rattle.icb_run.proofs.SealLemmas.{drew_none, drew_nothing}
use Rattle.icb_run.proofs.StandingLemmas.{keys_stand, told_stands}
use Rattle.icb_run.proofs.ToldLemmas.{told_as, unless_told, where_told}

-- an end of the command, in its own words, those of its sources, and those of the counts
pub record Ends (words : Create) (before now : Outside) (s : Status) : Type 0 where
  pub meets : IsCreate words before now s
  pub read : KeysAreRead before now s
  pub ends : FaultsEnd before now s

-- the outside after the keyring was read
abbrev pub after_keys : Outside → Option (List ℕ) → ℕ → Outside
after_keys before left count =
    record before { keys = left; faults = record before.faults { keys = count } }

-- and after bytes were drawn
abbrev pub after_draw : Outside → Option (List ℕ) → Option (List ℕ) → ℕ → ℕ → Outside
after_draw before left drawn keys_count draws_count = record before {
  keys = left;
  drawn = drawn;
  faults = record before.faults { keys = keys_count; draws = draws_count };
}

-- and after a put
abbrev pub after_put : Outside → Option Objects → Option (List ℕ) → Option (List ℕ) → Option (List ℕ)
    → ℕ → ℕ → ℕ → ℕ → Outside
after_put before table left drawn out table_count keys_count draws_count out_count = record before {
  table = table;
  keys = left;
  drawn = drawn;
  out = out;
  faults = record before.faults {
    table = table_count;
    keys = keys_count;
    draws = draws_count;
    out = out_count;
  };
}

-- ---- a keyring that isn't read

keys_table : (files : Objects) (path object : List ℕ) (now : Option Objects) (fault : KeysFault)
    → now ≡ Some files → LeavesTable files path object now (status_of_keys fault)
keys_table files path object now keys.Input is = is
keys_table files path object now (keys.Limit number) is = is
keys_table files path object now (keys.BadKeyring line) is = is
keys_table files path object now keys.NoMemory is = is

keys_made : (words : Create) (text : List ℕ) (now_ms : ℕ) (object : List ℕ) (fault : KeysFault)
    → Creates words text now_ms [] object (status_of_keys fault)
keys_made words text now_ms object keys.Input = refl
keys_made words text now_ms object (keys.Limit number) = refl
keys_made words text now_ms object (keys.BadKeyring line) = refl
keys_made words text now_ms object keys.NoMemory = inl refl

keys_answer : (files : Objects) (words : Create) (text object : List ℕ) (now out : Option (List ℕ))
    (fault : KeysFault) → ReadsKeyring text now (Err fault)
    → Prints (create_answer files words text object) out out (status_of_keys fault)
keys_answer files words text object now out keys.Input reads = inr (inr (tt, refl))
keys_answer files words text object now out keys.NoMemory reads = inr (inr (tt, refl))
keys_answer files words text object now out (keys.Limit number) reads =
    rw reads.0 (inl (refl, appended_nothing out))
keys_answer files words text object now out (keys.BadKeyring line) reads =
    rw reads.0 (inl (refl, appended_nothing out))

pub keys_left : (before now : Option (List ℕ)) (fault : KeysFault)
    → IfSome before (λ text. ReadsKeyring text now (Err fault))
    → LeavesOf keyring_limit before now (status_of_keys fault)
keys_left before now keys.Input reads = tt
keys_left before now keys.NoMemory reads = tt
keys_left before now (keys.Limit number) reads = where_told before (λ text read. read.1) reads
keys_left before now (keys.BadKeyring line) reads = where_told before (λ text read. read.1) reads

pub keys_input : (fault : KeysFault) → status_of_keys fault ≡ status.InputFault → fault ≡ keys.Input
keys_input keys.Input is = refl
keys_input (keys.Limit number) is = cc
keys_input (keys.BadKeyring line) is = cc
keys_input keys.NoMemory is = cc

pub keys_no_store : (fault : KeysFault) → status_of_keys fault ≢ status.StoreFault
keys_no_store keys.Input is = cc
keys_no_store (keys.Limit number) is = cc
keys_no_store (keys.BadKeyring line) is = cc
keys_no_store keys.NoMemory is = cc

pub keys_no_random : (fault : KeysFault) → status_of_keys fault ≢ status.RandomFault
keys_no_random keys.Input is = cc
keys_no_random (keys.Limit number) is = cc
keys_no_random (keys.BadKeyring line) is = cc
keys_no_random keys.NoMemory is = cc

pub keys_no_output : (fault : KeysFault) → status_of_keys fault ≢ status.OutputFault
keys_no_output keys.Input is = cc
keys_no_output (keys.Limit number) is = cc
keys_no_output (keys.BadKeyring line) is = cc
keys_no_output keys.NoMemory is = cc

-- a keyring that isn't read ends the command
pub keys_end : (words : Create) (before : Outside) (left : Option (List ℕ)) (count : ℕ) (fault : KeysFault)
    → IfSome before.keys (λ text. ReadsKeyring text left (Err fault))
    → Blames (fault ≡ keys.Input) before.faults.keys count
    → Ends words before (after_keys before left count) (status_of_keys fault)
keys_end words before left count fault reads blames = record {
  meets = record {
    drawn = [];
    object = [];
    drew = drew_nothing before.drawn;
    table = told_as before.table (λ files is. keys_table files (version_path 1) [] before.table fault is);
    made = unless_told before.keys (λ text. keys_made words text before.now_ms [] fault);
    stands = keys_stand before.table before.keys before.table fault;
    answered = unless_told before.table (λ files. where_told before.keys
        (λ text read. keys_answer files words text [] left before.out fault read) reads);
    rest = refl;
  };
  read = record { input = refl; keys = keys_left before.keys left fault reads; trusted = refl };
  ends = keyring_end before (after_keys before left count) (status_of_keys fault)
      (unblamed before.faults.table before.faults.table refl (keys_no_store fault))
      (blames_as before.faults.keys count (λ is. ap status_of_keys is) (keys_input fault) blames)
      (unblamed before.faults.draws before.faults.draws refl (keys_no_random fault))
      (unblamed before.faults.out before.faults.out refl (keys_no_output fault))
      refl refl refl;
}

-- ---- a keyring that is read

no_key_answer : (files : Objects) (words : Create) (text object : List ℕ) (ring : Ring)
    (left out : Option (List ℕ)) → ReadsKeyring text left (Ok ring) → key_named words.master ring ≡ None
    → Prints (create_answer files words text object) out out (status.NoKey words.master)
no_key_answer files words text object ring left out reads none =
    rw (reads.0, none) (inl (refl, appended_nothing out))

-- the master isn't in it
pub no_key_end : (words : Create) (before : Outside) (ring : Ring) (left : Option (List ℕ)) (count : ℕ)
    → IfSome before.keys (λ text. ReadsKeyring text left (Ok ring))
    → count ≡ before.faults.keys → key_named words.master ring ≡ None
    → Ends words before (after_keys before left count) (status.NoKey words.master)
no_key_end words before ring left count reads same none = record {
  meets = record {
    drawn = [];
    object = [];
    drew = drew_nothing before.drawn;
    table = told_as before.table (λ files is. is);
    made = unless_told before.keys (λ text. refl);
    stands = unless_told before.table (λ files. unless_told before.keys (λ text. tt));
    answered = unless_told before.table (λ files. where_told before.keys
        (λ text read. no_key_answer files words text [] ring left before.out read none) reads);
    rest = refl;
  };
  read = record { input = refl; keys = where_told before.keys (λ text read. read.1) reads; trusted = refl };
  ends = keyring_end before (after_keys before left count) (status.NoKey words.master)
      (unblamed before.faults.table before.faults.table refl (λ is. cc))
      (unblamed before.faults.keys count same (λ is. cc))
      (unblamed before.faults.draws before.faults.draws refl (λ is. cc))
      (unblamed before.faults.out before.faults.out refl (λ is. cc))
      refl refl refl;
}

-- the master of a keyring that was read
master_in : (words : Create) (text master : List ℕ) (ring : Ring) (left : Option (List ℕ))
    → ReadsKeyring text left (Ok ring) → key_named words.master ring ≡ Some master
    → HasMaster words text master
master_in words text master ring left reads named =
    record { ring = ring; is_ring = reads.0; is_master = named }

-- a draw that failed
pub draw_end : (words : Create) (before : Outside) (ring : Ring) (master : List ℕ)
    (left drawn : Option (List ℕ)) (keys_count count : ℕ)
    → IfSome before.keys (λ text. ReadsKeyring text left (Ok ring))
    → keys_count ≡ before.faults.keys → key_named words.master ring ≡ Some master
    → IfSome before.drawn (λ bytes. drawn ≡ Some bytes)
    → before.faults.draws ≤ count → Rose before.faults.draws count
    → Ends words before (after_draw before left drawn keys_count count) status.RandomFault
draw_end words before ring master left drawn keys_count count reads same named drew later rose = record {
  meets = record {
    drawn = [];
    object = [];
    drew = drew_none before.drawn drawn drew;
    table = told_as before.table (λ files is. is);
    made = where_told before.keys (λ text read. ((master, master_in words text master ring left read named), refl)) reads;
    stands = unless_told before.table (λ files. unless_told before.keys (λ text. tt));
    answered = unless_told before.table (λ files. unless_told before.keys (λ text. inr (inr (tt, refl))));
    rest = refl;
  };
  read = record { input = refl; keys = where_told before.keys (λ text read. read.1) reads; trusted = refl };
  ends = keyring_end before (after_draw before left drawn keys_count count) status.RandomFault
      (unblamed before.faults.table before.faults.table refl (λ is. cc))
      (unblamed before.faults.keys keys_count same (λ is. cc))
      (blamed before.faults.draws count later rose refl)
      (unblamed before.faults.out before.faults.out refl (λ is. cc))
      refl refl refl;
}

-- no memory for the first version
pub memory_end : (words : Create) (before : Outside) (ring : Ring) (bytes : List ℕ)
    (left drawn : Option (List ℕ)) (keys_count count : ℕ)
    → IfSome before.keys (λ text. ReadsKeyring text left (Ok ring))
    → keys_count ≡ before.faults.keys
    → IfSome before.drawn (λ earlier. drawn ≡ Some (earlier ++ bytes)) → length bytes ≡ drawn_length words
    → count ≡ before.faults.draws
    → Ends words before (after_draw before left drawn keys_count count) status.NoMemory
memory_end words before ring bytes left drawn keys_count count reads same drew size same_draws = record {
  meets = record {
    drawn = bytes;
    object = [];
    drew = drew;
    table = told_as before.table (λ files is. is);
    made = unless_told before.keys (λ text. inr size);
    stands = unless_told before.table (λ files. unless_told before.keys (λ text. tt));
    answered = unless_told before.table (λ files. unless_told before.keys (λ text. inr (inr (tt, refl))));
    rest = refl;
  };
  read = record { input = refl; keys = tt; trusted = refl };
  ends = keyring_end before (after_draw before left drawn keys_count count) status.NoMemory
      (unblamed before.faults.table before.faults.table refl (λ is. cc))
      (unblamed before.faults.keys keys_count same (λ is. cc))
      (unblamed before.faults.draws count same_draws (λ is. cc))
      (unblamed before.faults.out before.faults.out refl (λ is. cc))
      refl refl refl;
}

-- ---- the put

-- where the path is held the table exists; an early end is told as it is
early_taken : (s : Status) → EndsEarly s → EndsEarly (exists_where_taken s)
early_taken status.StoreFault early = tt
early_taken status.InputFault early = tt
early_taken status.OutputFault early = tt
early_taken status.RandomFault early = tt
early_taken status.NoMemory early = tt
early_taken s early = absurd early

prints_taken : (answer told : Status) (text : List ℕ) (out now : Option (List ℕ)) (s : Status)
    → exists_where_taken answer ≡ told → Prints (record { status = answer; text = text }) out now s
    → Prints (record { status = told; text = text }) out now (exists_where_taken s)
prints_taken answer told text out now s same (inl (is, wrote)) = inl (ap exists_where_taken is ∙ same, wrote)
prints_taken answer told text out now s same (inr (inl (is, wrote))) = inr (inl (ap exists_where_taken is, wrote))
prints_taken answer told text out now s same (inr (inr (early, kept))) = inr (inr (early_taken s early, kept))

-- the put of a first version that isn't too long
pub first_prints : (files : Objects) (text : List ℕ) (out now : Option (List ℕ)) (s : Status)
    → length text ≤ most_bytes → Prints (put_answer files (version_path 1) (codes "version 1\n")) out now s
    → Prints (first_answer files text) out now (exists_where_taken s)
first_prints files text out now s short prints = by_test (is_some (object_at files (version_path 1))) refl
  where
    by_test : (held : Bool) → is_some (object_at files (version_path 1)) ≡ held
        → Prints (first_answer files text) out now (exists_where_taken s)
    by_test true e = rw (le-ltb most_bytes (length text) short, e)
        (prints_taken (status.NameTaken (version_path 1)) status.TableExists [] out now s refl (rw e at prints))
    by_test false e = rw (le-ltb most_bytes (length text) short, e)
        (prints_taken status.Ok status.Ok (codes "version 1\n") out now s refl (rw e at prints))

put_made : (words : Create) (text : List ℕ) (now_ms : ℕ) (bytes object : List ℕ) (s : Status)
    → IsFirstPut s → IsCreated words text now_ms bytes object → Creates words text now_ms bytes object s
put_made words text now_ms bytes object status.Ok late created = created
put_made words text now_ms bytes object status.OutputFault late created = created
put_made words text now_ms bytes object status.TableExists late created = created
put_made words text now_ms bytes object status.StoreFault late created = created
put_made words text now_ms bytes object status.NoMemory late created = inr created.drawn_whole
put_made words text now_ms bytes object (status.Limit what number) late created =
    subst (λ (which : Limited). Creates words text now_ms bytes object (status.Limit which number)) (sym late) created
put_made words text now_ms bytes object s late created = absurd late

pub left_behind : (text : List ℕ) (ring : Ring) (left : Option (List ℕ)) → ReadsKeyring text left (Ok ring)
    → left ≡ Some (drop (keyring_limit + 1) text)
left_behind text ring left reads =
    reads.1 ∙ ap Some (none_behind keyring_limit text (ring_short text ring reads.0))

put_left : (before left : Option (List ℕ)) (ring : Ring) (s : Status) → IsFirstPut s
    → IfSome before (λ text. ReadsKeyring text left (Ok ring)) → LeavesOf keyring_limit before left s
put_left before left ring status.Ok late reads = where_told before (λ text read. read.1) reads
put_left before left ring status.OutputFault late reads = where_told before (λ text read. read.1) reads
put_left before left ring status.TableExists late reads = where_told before (λ text read. read.1) reads
put_left before left ring status.StoreFault late reads = where_told before (λ text read. read.1) reads
put_left before left ring status.NoMemory late reads = tt
put_left before left ring (status.Limit what number) late reads =
    where_told before (λ text read. left_behind text ring left read) reads
put_left before left ring s late reads = absurd late

put_no_input : (s : Status) → IsFirstPut s → s ≢ status.InputFault
put_no_input s late is = subst (λ (x : Status). IsFirstPut x) is late

put_no_random : (s : Status) → IsFirstPut s → s ≢ status.RandomFault
put_no_random s late is = subst (λ (x : Status). IsFirstPut x) is late

put_answers : (files : Objects) (words : Create) (text master object : List ℕ) (ring : Ring)
    (left out out_now : Option (List ℕ)) (s : Status) → ReadsKeyring text left (Ok ring)
    → key_named words.master ring ≡ Some master → Prints (first_answer files object) out out_now s
    → Prints (create_answer files words text object) out out_now s
put_answers files words text master object ring left out out_now s reads named prints =
    rw (reads.0, named) prints

-- the first version under what was drawn
pub created_of : (words : Create) (now_ms : ℕ) (master : List ℕ) (drawn : Drawn) (text : List ℕ)
    → IsWhole (key_bytes words.key_size) drawn → IsFirstVersion words master drawn now_ms text
    → (keyring : List ℕ) → HasMaster words keyring master
    → IsCreated words keyring now_ms (drawn_bytes (Ok drawn)) text
created_of words now_ms master drawn text is_whole version keyring has = record {
  drawn_whole = is_whole.whole;
  master = master;
  has_master = has;
  version = rw is_whole.parts version;
}

-- a put of the first version, and the line behind it
pub put_end : (words : Create) (before : Outside) (ring : Ring) (master bytes object : List ℕ)
    (left drawn : Option (List ℕ)) (table : Option Objects) (out : Option (List ℕ))
    (keys_count draws_count table_count out_count : ℕ) (s : Status)
    → IfSome before.keys (λ text. ReadsKeyring text left (Ok ring))
    → keys_count ≡ before.faults.keys → key_named words.master ring ≡ Some master
    → IfSome before.drawn (λ earlier. drawn ≡ Some (earlier ++ bytes))
    → draws_count ≡ before.faults.draws
    → ((text : List ℕ) → HasMaster words text master → IsCreated words text before.now_ms bytes object)
    → IfSome before.table (λ files. LeavesTable files (version_path 1) object table s)
    → IfSome before.table (λ files. Prints (first_answer files object) before.out out s)
    → Blames (s ≡ status.StoreFault) before.faults.table table_count
    → Blames (s ≡ status.OutputFault) before.faults.out out_count → IsFirstPut s
    → Ends words before (after_put before table left drawn out table_count keys_count draws_count out_count) s
put_end words before ring master bytes object left drawn table out keys_count draws_count table_count out_count s reads same named drew same_draws created leaves prints store output late =
    let made = where_told before.keys (λ text read. put_made words text before.now_ms bytes object s late
    (created text (master_in words text master ring left read named))) reads in record {
      meets = record {
        drawn = bytes;
        object = object;
        drew = drew;
        table = leaves;
        made = made;
        stands = told_stands words before.table before.keys before.now_ms bytes object table s leaves made;
        answered = where_told before.table (λ files answer. where_told before.keys
            (λ text read. put_answers files words text master object ring left before.out out s read named answer) reads) prints;
        rest = refl;
      };
      read = record { input = refl; keys = put_left before.keys left ring s late reads; trusted = refl };
      ends = keyring_end before (after_put before table left drawn out table_count keys_count draws_count out_count) s
          store
          (unblamed before.faults.keys keys_count same (put_no_input s late))
          (unblamed before.faults.draws draws_count same_draws (put_no_random s late))
          output refl refl refl;
    }
