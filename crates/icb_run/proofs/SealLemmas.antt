-- How the steps of sealing a file make its end.
use Rattle.std.proofs.Common.{◌≡◌, ◌∙◌, ◌≢◌, ◌≤◌, ◌++◌, ℕ, List, [], length, true, false, refl, sym, subst, ap, inl, inr}
use Rattle.std.proofs.Common.{Option, Some, None, Ok, Err, append-nil}
use Rattle.std.specs.Prelude.{IfSome, nat_lt}
use Rattle.std.proofs.lemmas.Bool.{lt-ltb, le-ltb}
use Rattle.icb_base.specs.Causes.{Blames, Rose}
use Rattle.icb_base.specs.Objects.{Objects}
use Rattle.icb_run.specs.Answers.{Prints}
use Rattle.icb_run.specs.Inputs.{LeavesOf, ReadsAll, input_limit, status_of_read}
use Rattle.icb_run.specs.Outside.{FaultsEnd, Outside}
use Rattle.icb_run.specs.SealFile.{IsPut, IsSealFile, IsSealed, LeavesTable, Seals, drawn_length}
use Rattle.icb_run.specs.SealFile.{meta_line, put_answer, seal_file_answer, sealed_meta}
use Rattle.icb_run.specs.Sources.{InputIsRead}
use Rattle.icb_run.specs.declared.input.ReadFault.{ReadFault}
use Rattle.icb_run.specs.declared.input.ReadFault.TheVariants as read
use Rattle.icb_run.specs.declared.status.Status.{Status}
use Rattle.icb_run.specs.declared.status.Status.TheVariants as status
use Rattle.icb_words.specs.declared.words.SealFile.{SealFile}
use Rattle.icb_run.proofs.AnswerLemmas.{appended_nothing}
use Rattle.icb_run.proofs.EndLemmas.{blamed, blames_as, four_end, unblamed}
use Rattle.icb_run.proofs.ToldLemmas.{told_as, unless_told, where_told}

-- an end of the command, in its own words, those of its sources, and those of the counts
pub record Ends (words : SealFile) (before now : Outside) (s : Status) : Type 0 where
  pub meets : IsSealFile words before now s
  pub read : InputIsRead before now s
  pub ends : FaultsEnd before now s

-- nothing was drawn
pub drew_nothing : (drawn : Option (List ℕ)) → IfSome drawn (λ bytes. drawn ≡ Some (bytes ++ []))
drew_nothing None = tt
drew_nothing (Some bytes) = ap Some (sym (append-nil bytes))

-- the same said of the draws after
pub drew_none : (drawn now : Option (List ℕ)) → IfSome drawn (λ bytes. now ≡ Some bytes)
    → IfSome drawn (λ bytes. now ≡ Some (bytes ++ []))
drew_none None now same = tt
drew_none (Some bytes) now same = same ∙ ap Some (sym (append-nil bytes))

-- the table after an input that isn't read to its end
read_table : (files : Objects) (path object : List ℕ) (now : Option Objects) (fault : ReadFault)
    → now ≡ Some files → LeavesTable files path object now (status_of_read fault)
read_table files path object now read.Input is = is
read_table files path object now read.Limit is = is
read_table files path object now read.NoMemory is = is

-- nothing is sealed of it
read_seals : (words : SealFile) (text object : List ℕ) (fault : ReadFault)
    → Seals words text [] object (status_of_read fault)
read_seals words text object read.Input = refl
read_seals words text object read.Limit = refl
read_seals words text object read.NoMemory = inl refl

-- an input that is too long is the first cause, and else the command ends early
read_answer : (files : Objects) (words : SealFile) (text object : List ℕ) (now out : Option (List ℕ))
    (fault : ReadFault) → ReadsAll text input_limit now (Err fault)
    → Prints (seal_file_answer files words text [] object) out out (status_of_read fault)
read_answer files words text object now out read.Input reads = inr (inr (tt, refl))
read_answer files words text object now out read.NoMemory reads = inr (inr (tt, refl))
read_answer files words text object now out read.Limit reads =
    let long : nat_lt input_limit (length text) ≡ true = lt-ltb _ _ reads.0 in
    rw long (inl (refl, appended_nothing out))

-- what it leaves of the input
pub read_leaves : (before now : Option (List ℕ)) (fault : ReadFault)
    → IfSome before (λ text. ReadsAll text input_limit now (Err fault))
    → LeavesOf input_limit before now (status_of_read fault)
read_leaves before now read.Input reads = tt
read_leaves before now read.NoMemory reads = tt
read_leaves before now read.Limit reads = where_told before (λ text all. all.1) reads

-- which fault it is
pub read_input : (fault : ReadFault) → status_of_read fault ≡ status.InputFault → fault ≡ read.Input
read_input read.Input is = refl
read_input read.Limit is = cc
read_input read.NoMemory is = cc

pub read_no_store : (fault : ReadFault) → status_of_read fault ≢ status.StoreFault
read_no_store read.Input is = cc
read_no_store read.Limit is = cc
read_no_store read.NoMemory is = cc

pub read_no_random : (fault : ReadFault) → status_of_read fault ≢ status.RandomFault
read_no_random read.Input is = cc
read_no_random read.Limit is = cc
read_no_random read.NoMemory is = cc

pub read_no_output : (fault : ReadFault) → status_of_read fault ≢ status.OutputFault
read_no_output read.Input is = cc
read_no_output read.Limit is = cc
read_no_output read.NoMemory is = cc

-- an input that isn't read to its end ends the command
pub read_ends : (words : SealFile) (before : Outside) (now : Option (List ℕ)) (count : ℕ) (fault : ReadFault)
    → IfSome before.input (λ text. ReadsAll text input_limit now (Err fault))
    → Blames (fault ≡ read.Input) before.faults.input count
    → Ends words before (record before { input = now; faults = record before.faults { input = count } })
    (status_of_read fault)
read_ends words before now count fault reads blames = record {
  meets = record {
    drawn = [];
    object = [];
    drew = drew_nothing before.drawn;
    table = told_as before.table (λ files is. read_table files words.path [] before.table fault is);
    sealed = unless_told before.input (λ text. read_seals words text [] fault);
    answered = unless_told before.table (λ files. where_told before.input
        (λ text all. read_answer files words text [] now before.out fault all) reads);
    rest = refl;
  };
  read = record {
    input = read_leaves before.input now fault reads;
    keys = refl;
    trusted = refl;
  };
  ends = four_end before (record before { input = now; faults = record before.faults { input = count } })
      (status_of_read fault)
      (unblamed before.faults.table before.faults.table refl (read_no_store fault))
      (blames_as before.faults.input count (λ is. ap status_of_read is) (read_input fault) blames)
      (unblamed before.faults.draws before.faults.draws refl (read_no_random fault))
      (unblamed before.faults.out before.faults.out refl (read_no_output fault))
      refl refl refl;
}

-- a draw that failed
pub draw_ends : (words : SealFile) (before : Outside) (text : List ℕ) (input drawn : Option (List ℕ))
    (input_count count : ℕ)
    → IfSome before.input (λ left. ReadsAll left input_limit input (Ok text))
    → input_count ≡ before.faults.input
    → IfSome before.drawn (λ bytes. drawn ≡ Some bytes)
    → before.faults.draws ≤ count → Rose before.faults.draws count
    → Ends words before (record before {
      input = input;
      drawn = drawn;
      faults = record before.faults { input = input_count; draws = count };
    }) status.RandomFault
draw_ends words before text input drawn input_count count reads same drew later rose = record {
  meets = record {
    drawn = [];
    object = [];
    drew = drew_none before.drawn drawn drew;
    table = told_as before.table (λ files is. is);
    sealed = where_told before.input (λ left all. (all.1, refl)) reads;
    answered = unless_told before.table (λ files. unless_told before.input (λ left. inr (inr (tt, refl))));
    rest = refl;
  };
  read = record {
    input = where_told before.input (λ left all. all.2) reads;
    keys = refl;
    trusted = refl;
  };
  ends = four_end before (record before {
    input = input;
    drawn = drawn;
    faults = record before.faults { input = input_count; draws = count };
  }) status.RandomFault
      (unblamed before.faults.table before.faults.table refl (λ is. cc))
      (unblamed before.faults.input input_count same (λ is. cc))
      (blamed before.faults.draws count later rose refl)
      (unblamed before.faults.out before.faults.out refl (λ is. cc))
      refl refl refl;
}

-- no memory to seal what was read
pub seal_ends : (words : SealFile) (before : Outside) (text key : List ℕ) (input drawn : Option (List ℕ))
    (input_count count : ℕ)
    → IfSome before.input (λ left. ReadsAll left input_limit input (Ok text))
    → input_count ≡ before.faults.input
    → IfSome before.drawn (λ bytes. drawn ≡ Some (bytes ++ key)) → length key ≡ drawn_length words
    → count ≡ before.faults.draws
    → Ends words before (record before {
      input = input;
      drawn = drawn;
      faults = record before.faults { input = input_count; draws = count };
    }) status.NoMemory
seal_ends words before text key input drawn input_count count reads same drew size same_draws = record {
  meets = record {
    drawn = key;
    object = [];
    drew = drew;
    table = told_as before.table (λ files is. is);
    sealed = where_told before.input (λ left all. inr (all.1, size)) reads;
    answered = unless_told before.table (λ files. unless_told before.input (λ left. inr (inr (tt, refl))));
    rest = refl;
  };
  read = record { input = tt; keys = refl; trusted = refl };
  ends = four_end before (record before {
    input = input;
    drawn = drawn;
    faults = record before.faults { input = input_count; draws = count };
  }) status.NoMemory
      (unblamed before.faults.table before.faults.table refl (λ is. cc))
      (unblamed before.faults.input input_count same (λ is. cc))
      (unblamed before.faults.draws count same_draws (λ is. cc))
      (unblamed before.faults.out before.faults.out refl (λ is. cc))
      refl refl refl;
}

-- a put seals
put_seals : (words : SealFile) (left text drawn object : List ℕ) (now : Option (List ℕ)) (s : Status)
    → IsPut s → ReadsAll left input_limit now (Ok text) → IsSealed words drawn text object
    → Seals words left drawn object s
put_seals words left text drawn object now status.Ok late reads sealed = (reads.1, rw reads.0 at sealed)
put_seals words left text drawn object now status.OutputFault late reads sealed = (reads.1, rw reads.0 at sealed)
put_seals words left text drawn object now (status.NameTaken path) late reads sealed = (reads.1, rw reads.0 at sealed)
put_seals words left text drawn object now status.StoreFault late reads sealed = (reads.1, rw reads.0 at sealed)
put_seals words left text drawn object now s late reads sealed = absurd late

-- after a put the input was read to its end
put_leaves : (before now : Option (List ℕ)) (s : Status) → IsPut s
    → IfSome before (λ text. now ≡ Some []) → LeavesOf input_limit before now s
put_leaves before now status.Ok late h = h
put_leaves before now status.OutputFault late h = h
put_leaves before now (status.NameTaken path) late h = h
put_leaves before now status.StoreFault late h = h
put_leaves before now s late h = absurd late

put_no_input : (s : Status) → IsPut s → s ≢ status.InputFault
put_no_input s late is = subst (λ (x : Status). IsPut x) is late

put_no_random : (s : Status) → IsPut s → s ≢ status.RandomFault
put_no_random s late is = subst (λ (x : Status). IsPut x) is late

-- what a put answers is what the command does, where the input isn't too long
put_answers : (files : Objects) (words : SealFile) (left text drawn object : List ℕ)
    (now out out_now : Option (List ℕ)) (s : Status) → ReadsAll left input_limit now (Ok text)
    → Prints (put_answer files words.path (meta_line (sealed_meta words drawn object))) out out_now s
    → Prints (seal_file_answer files words left drawn object) out out_now s
put_answers files words left text drawn object now out out_now s reads prints =
    let short : nat_lt input_limit (length left) ≡ false = le-ltb input_limit (length left) reads.1 in
    rw short prints

-- a put of the sealed file, and its line
pub put_ends : (words : SealFile) (before : Outside) (text key object line : List ℕ) (input drawn : Option (List ℕ))
    (table : Option Objects) (out : Option (List ℕ)) (input_count draws_count table_count out_count : ℕ) (s : Status)
    → IfSome before.input (λ left. ReadsAll left input_limit input (Ok text))
    → input_count ≡ before.faults.input
    → IfSome before.drawn (λ bytes. drawn ≡ Some (bytes ++ key))
    → draws_count ≡ before.faults.draws
    → IsSealed words key text object → line ≡ meta_line (sealed_meta words key object)
    → IfSome before.table (λ files. LeavesTable files words.path object table s)
    → IfSome before.table (λ files. Prints (put_answer files words.path line) before.out out s)
    → Blames (s ≡ status.StoreFault) before.faults.table table_count
    → Blames (s ≡ status.OutputFault) before.faults.out out_count → IsPut s
    → Ends words before (record before {
      table = table;
      input = input;
      drawn = drawn;
      out = out;
      faults = record before.faults {
        table = table_count;
        input = input_count;
        draws = draws_count;
        out = out_count;
      };
    }) s
put_ends words before text key object line input drawn table out input_count draws_count table_count out_count s reads same_input drew same_draws sealed is leaves prints store output late = record {
  meets = record {
    drawn = key;
    object = object;
    drew = drew;
    table = leaves;
    sealed = where_told before.input (λ left all. put_seals words left text key object input s late all sealed) reads;
    answered = where_told before.table (λ files answer. where_told before.input
        (λ left all. put_answers files words left text key object input before.out out s all (rw is at answer)) reads) prints;
    rest = refl;
  };
  read = record {
    input = put_leaves before.input input s late (where_told before.input (λ left all. all.2) reads);
    keys = refl;
    trusted = refl;
  };
  ends = four_end before (record before {
    table = table;
    input = input;
    drawn = drawn;
    out = out;
    faults = record before.faults {
      table = table_count;
      input = input_count;
      draws = draws_count;
      out = out_count;
    };
  }) s store
      (unblamed before.faults.input input_count same_input (put_no_input s late))
      (unblamed before.faults.draws draws_count same_draws (put_no_random s late))
      output refl refl refl;
}
