-- A run of an append over a store and a generator is one over what they tell.
use Rattle.std.proofs.Common.{◌≡◌, ◌≤◌, ℕ, ℤ, zero, suc, Bool, List, [], Option, Some, None, Result, Ok, Err, refl, ap, arith}
use Rattle.std.specs.Prelude.{IfSome, IsSomeAnd}
use Rattle.icb_base.specs.Calls.{DrawsText, PutsPath, ReadsPath}
use Rattle.icb_base.specs.Counts.{CountsOnly}
use Rattle.icb_base.specs.KeyMetadata.{KeyRecord}
use Rattle.icb_base.specs.Objects.{Objects}
use Rattle.icb_base.specs.declared.storage.Store as store
use Rattle.icb_base.specs.declared.transfer.Draws as draws
use Rattle.icb_chain.specs.Ring.{Ring}
use Rattle.icb_list.specs.declared.row.ListRow.{ListRow}
use Rattle.icb_seal.specs.Keys.{FileKeyValue}
use Rattle.icb_seal.specs.declared.file_key.KeySize.{KeySize}
use Rattle.icb_stream.specs.Attached.{CountsAt}
use Rattle.icb_table.specs.Listed.{Listed}
use Rattle.icb_table.specs.Snapshots.{Refused}
use Rattle.icb_tree.specs.Reading.{ReadsOnly}
use Rattle.icb_turns.specs.declared.fault.JobFault.{JobFault}
use Rattle.icb_turns.specs.declared.fault.Step.{Step}
use Rattle.icb_walk.specs.Steps.{ReadsStore}
use Rattle.icb_walk.specs.WholeLists.{AsksList}
use Rattle.icb_append.specs.Beginning.{Begins}
use Rattle.icb_append.specs.Committing.{PutsVersion}
use Rattle.icb_append.specs.Drafts.{PutsManifest, PutsNext, PutsNextRows}
use Rattle.icb_append.specs.NewLists.{ReadsParent}
use Rattle.icb_append.specs.Puts.{PutsFile}
use Rattle.icb_append.specs.Turning.{Commits, IsTurnAt, OnWork, Probes, PutsFiles, PutsList, ReadsList, ReadsVersion, TakesTurn}
use Rattle.icb_append.specs.Whole.{Reaches, Runs, State, Steps}
use Rattle.icb_append.specs.declared.draft.Draft.{Draft}
use Rattle.icb_append.specs.declared.job.AppendJob.{AppendJob}
use Rattle.icb_append.specs.declared.place.Place.{Place}
use Rattle.icb_append.specs.declared.place.Place.TheVariants as place
use Rattle.icb_append.specs.declared.place.Turn.{Turn}
use Rattle.icb_append.specs.declared.tried.Tried.{Tried}
use Rattle.icb_append.specs.declared.whole.Committed.{Committed}
use Rattle.icb_append.specs.declared.work.Work.{Work}
use Rattle.icb_append.specs.Telling.{DrawsTold, TableTold, as_draws, as_store, draws_of, table_of}

-- nothing is counted where nothing is told
no_count : (path : List ℕ) (most : ℕ) → CountsOnly path most (λ other. 0) (λ other. 0)
no_count path most = record { others = λ other differs. refl; later = omega arith; at_most = omega arith }

no_count_at : (path : List ℕ) → CountsAt path (λ other. 0) (λ other. 0)
no_count_at path = record { others = λ other differs. refl; later = omega arith }

-- what holds whatever is told
always : {A : Type 0} {P : Type 0} (told : Option A) → P → IfSome told (λ x. P)
always None holds = tt
always (Some x) holds = holds

-- what is said of the work that there is
on_work : {P Q : Work → Work → Type 0} (work now : Option Work) → ((had has : Work) → P had has → Q had has)
    → OnWork work now P → OnWork work now Q
on_work None now follows h = absurd h
on_work (Some had) None follows h = absurd h
on_work (Some had) (Some has) follows h = follows had has h

with_work : {P Q : Work → Type 0} (work : Option Work) → ((had : Work) → P had → Q had)
    → IsSomeAnd work P → IsSomeAnd work Q
with_work None follows h = absurd h
with_work (Some had) follows h = follows had h

module _ {S D : Type 0} (of : store.Ghosts S) (random : draws.Ghosts D) where
  -- ---- calls

  reads_path : (path : List ℕ) (calls bytes : ℕ) (fault : Type 0) (x y : S)
      → ReadsPath of path calls bytes fault x y
      → ReadsPath as_store path calls bytes fault (table_of of x) (table_of of y)
  reads_path path calls bytes fault x y reads = record {
    same = reads.same;
    count = reads.count;
    asks = always (of.held x) (no_count path calls);
    moves = always (of.held x) (no_count path bytes);
    kept = tt;
  }

  puts_path : (path object : List ℕ) (is_done is_taken fault : Type 0) (x y : S)
      → PutsPath of path object is_done is_taken fault x y
      → PutsPath as_store path object is_done is_taken fault (table_of of x) (table_of of y)
  puts_path path object is_done is_taken fault x y puts = record {
    count = puts.count;
    done = puts.done;
    taken = puts.taken;
    failed = puts.failed;
    none = puts.none;
    asks = always (of.held x) (no_count path 1);
    moves = always (of.held x) (no_count path 1);
    kept = tt;
  }

  draws_text : (text : List ℕ) (fault : Type 0) (d e : D) → DrawsText random text fault d e
      → DrawsText as_draws text fault (draws_of random d) (draws_of random e)
  draws_text text fault d e draws = record { count = draws.count; more = draws.more; whole = draws.whole }

  reads_only : (fault : Type 0) (x y : S) → ReadsOnly of fault x y
      → ReadsOnly as_store fault (table_of of x) (table_of of y)
  reads_only fault x y reads = record { same = reads.same; count = reads.count; kept = tt }

  reads_store : (fault : Type 0) (x y : S) → ReadsStore of fault x y
      → ReadsStore as_store fault (table_of of x) (table_of of y)
  reads_store fault x y reads = record { same = reads.same; count = reads.count; kept = tt }

  asks_list : (list : Result Listed Refused) (x y : S) → AsksList of list x y
      → AsksList as_store list (table_of of x) (table_of of y)
  asks_list (Ok f) x y asks = record { asks = no_count_at f.path; moves = no_count_at f.path }
  asks_list (Err e) x y same = ap (table_of of) same

  asks_where : (held : Option Objects) (list : Result Listed Refused) (x y : S)
      → IfSome held (λ files. AsksList of list x y)
      → IfSome held (λ files. AsksList as_store list (table_of of x) (table_of of y))
  asks_where None list x y asks = tt
  asks_where (Some files) list x y asks = asks_list list x y asks

  -- ---- turns

  puts_file : {A : Type 0} (size : KeySize) (path : List ℕ)
      (makes : FileKeyValue → List ℕ → List ℕ → KeyRecord → Type 0) (may : List ℕ → Bool)
      (says : KeyRecord → ℕ → A → Type 0) (result : Result A JobFault) (x y : S) (d e : D)
      → PutsFile of random size path makes may says result x y d e
      → PutsFile as_store as_draws size path makes may says result (table_of of x) (table_of of y)
      (draws_of random d) (draws_of random e)
  puts_file size path makes may says result x y d e puts = record {
    key = puts.key;
    marker = puts.marker;
    object = puts.object;
    meta = puts.meta;
    draws = draws_text _ _ d e puts.draws;
    fresh = puts.fresh;
    puts = puts_path _ _ _ _ _ x y puts.puts;
    answers = puts.answers;
  }

  probes : (version : ℕ) (answer : Result Turn JobFault) (x y : S) → Probes of version answer x y
      → Probes as_store version answer (table_of of x) (table_of of y)
  probes version answer x y asks = record {
    found = asks.found;
    is_found = asks.is_found;
    may = asks.may;
    reads = reads_path _ _ _ _ x y asks.reads;
    goes = asks.goes;
  }

  reads_version : (ring : Ring) (version : ℕ) (lines : List ℕ) (work now : Option Work)
      (answer : Result Turn JobFault) (x y : S) (d e : D)
      → ReadsVersion of random ring version lines work now answer x y d e
      → ReadsVersion as_store as_draws ring version lines work now answer (table_of of x) (table_of of y)
      (draws_of random d) (draws_of random e)
  reads_version ring version lines work now answer x y d e reads = record {
    begun = reads.begun;
    begins = record {
      given = reads.begins.given;
      is_given = reads.begins.is_given;
      reads = reads_only _ x y reads.begins.reads;
      unique = reads.begins.unique;
      answers = reads.begins.answers;
      draws = draws_text _ _ d e reads.begins.draws;
    };
    goes = reads.goes;
    has = reads.has;
  }

  puts_rows : (tried : Tried) (draft now : Draft) (answer : Result (Option ListRow) JobFault) (x y : S) (d e : D)
      → PutsNextRows of random tried draft now answer x y d e
      → PutsNextRows as_store as_draws tried draft now answer (table_of of x) (table_of of y)
      (draws_of random d) (draws_of random e)
  puts_rows tried draft now answer x y d e puts = record {
    file = puts.file;
    puts = puts_file _ _ _ _ _ _ x y d e puts.puts;
    comes = puts.comes;
  }

  puts_manifest : (tried : Tried) (draft now : Draft) (answer : Result (Option ListRow) JobFault) (x y : S) (d e : D)
      → PutsManifest of random tried draft now answer x y d e
      → PutsManifest as_store as_draws tried draft now answer (table_of of x) (table_of of y)
      (draws_of random d) (draws_of random e)
  puts_manifest tried draft now answer x y d e puts = record {
    row = puts.row;
    puts = puts_file _ _ _ _ _ _ x y d e puts.puts;
    stays = puts.stays;
    answers = puts.answers;
  }

  puts_files : (work now : Work) (answer : Result Turn JobFault) (x y : S) (d e : D)
      → PutsFiles of random work now answer x y d e
      → PutsFiles as_store as_draws work now answer (table_of of x) (table_of of y)
      (draws_of random d) (draws_of random e)
  puts_files work now answer x y d e turn = record {
    put = turn.put;
    puts = record {
      rows = λ left. puts_rows _ _ _ _ x y d e (turn.puts.rows left);
      manifest = λ none. puts_manifest _ _ _ _ x y d e (turn.puts.manifest none);
    };
    goes = turn.goes;
    manifest = turn.manifest;
    same_tried = turn.same_tried;
    same_parent = turn.same_parent;
    same_list = turn.same_list;
  }

  reads_list : (ring : Ring) (parent : ℤ) (work now : Work) (answer : Result Turn JobFault) (x y : S)
      → ReadsList of ring parent work now answer x y
      → ReadsList as_store ring parent work now answer (table_of of x) (table_of of y)
  reads_list ring parent work now answer x y turn = record {
    rows = turn.rows;
    reads = record {
      rows = turn.reads.rows;
      finds = turn.reads.finds;
      are_rows = turn.reads.are_rows;
      asks = asks_where (of.held x) _ x y turn.reads.asks;
      reads = reads_store _ x y turn.reads.reads;
      answers = turn.reads.answers;
    };
    goes = turn.goes;
    parent_rows = turn.parent_rows;
    same_draft = turn.same_draft;
    same_tried = turn.same_tried;
    same_manifest = turn.same_manifest;
    same_list = turn.same_list;
  }

  puts_list : (work now : Work) (answer : Result Turn JobFault) (x y : S) (d e : D)
      → PutsList of random work now answer x y d e
      → PutsList as_store as_draws work now answer (table_of of x) (table_of of y)
      (draws_of random d) (draws_of random e)
  puts_list work now answer x y d e turn = record {
    list = turn.list;
    puts = puts_file _ _ _ _ _ _ x y d e turn.puts;
    goes = turn.goes;
    has = turn.has;
    spent = turn.spent;
    same_draft = turn.same_draft;
    same_tried = turn.same_tried;
    same_manifest = turn.same_manifest;
  }

  commits : (now_ms : ℕ) (work : Work) (taken now : List ℕ) (answer : Result Turn JobFault) (x y : S) (d e : D)
      → Commits of random now_ms work taken now answer x y d e
      → Commits as_store as_draws now_ms work taken now answer (table_of of x) (table_of of y)
      (draws_of random d) (draws_of random e)
  commits now_ms work taken now answer x y d e turn = record {
    list = turn.list;
    is_list = turn.is_list;
    put = turn.put;
    puts = record {
      nonce = turn.puts.nonce;
      text = turn.puts.text;
      draws = draws_text _ _ d e turn.puts.draws;
      puts = puts_path _ _ _ _ _ x y turn.puts.puts;
      answers = turn.puts.answers;
    };
    goes = turn.goes;
    found = turn.found;
  }

  is_turn : (ring : Ring) (now_ms : ℕ) (lines : List ℕ) (at : Place) (work work_now : Option Work)
      (taken taken_now : List ℕ) (answer : Result Turn JobFault) (x y : S) (d e : D)
      → IsTurnAt of random ring now_ms lines at work work_now taken taken_now answer x y d e
      → IsTurnAt as_store as_draws ring now_ms lines at work work_now taken taken_now answer (table_of of x) (table_of of y)
      (draws_of random d) (draws_of random e)
  is_turn ring now_ms lines (place.Probing version) work work_now taken taken_now answer x y d e turn =
      (probes version answer x y turn.0, turn.1, turn.2, ap (draws_of random) turn.3)
  is_turn ring now_ms lines (place.Reading version) work work_now taken taken_now answer x y d e turn =
      (reads_version ring version lines work work_now answer x y d e turn.0, turn.1)
  is_turn ring now_ms lines place.Filing work work_now taken taken_now answer x y d e turn =
      (on_work work work_now (λ had has h. puts_files had has answer x y d e h) turn.0, turn.1)
  is_turn ring now_ms lines (place.Listing parent) work work_now taken taken_now answer x y d e turn =
      (on_work work work_now (λ had has h. reads_list ring parent had has answer x y h) turn.0, turn.1, ap (draws_of random) turn.2)
  is_turn ring now_ms lines place.Writing work work_now taken taken_now answer x y d e turn =
      (on_work work work_now (λ had has h. puts_list had has answer x y d e h) turn.0, turn.1)
  is_turn ring now_ms lines place.Committing work work_now taken taken_now answer x y d e turn =
      (with_work work (λ had h. commits now_ms had taken taken_now answer x y d e h) turn.0, turn.1)
  is_turn ring now_ms lines place.Ended work work_now taken taken_now answer x y d e turn = absurd turn

  -- ---- runs

  takes_turn : (ring : Ring) (now_ms : ℕ) (job now : AppendJob) (answer : Step) (x y : S) (d e : D)
      → TakesTurn of random ring now_ms job now answer x y d e
      → TakesTurn as_store as_draws ring now_ms job now answer (table_of of x) (table_of of y)
      (draws_of random d) (draws_of random e)
  takes_turn ring now_ms job now answer x y d e step = record {
    turn = step.turn;
    is_turn = is_turn ring now_ms job.lines job.place job.work now.work job.taken now.taken step.turn x y d e step.is_turn;
    answers = step.answers;
    goes = step.goes;
    same_lines = step.same_lines;
  }

  abbrev state_told : State S D → State TableTold DrawsTold
  state_told s = record { job = s.job; store = table_of of s.store; draws = draws_of random s.draws }

  reaches : (ring : Ring) (now_ms : ℕ) (x : State S D) (steps : ℕ) (y : State S D)
      → Reaches of random ring now_ms x steps y
      → Reaches as_store as_draws ring now_ms (state_told x) steps (state_told y)
  reaches ring now_ms x zero y is = ap state_told is
  reaches ring now_ms x (suc steps) y (mid, before, step) = (
    state_told mid,
    reaches ring now_ms x steps mid before,
    takes_turn ring now_ms mid.job y.job _ mid.store y.store mid.draws y.draws step,
  )

  -- a run is one over what is told
  pub told_runs : (ring : Ring) (lines : List ℕ) (now_ms : ℕ) (answer : Result Committed JobFault)
      (x y : S) (d e : D) → Runs of random ring lines now_ms answer x y d e
      → Runs as_store as_draws ring lines now_ms answer (table_of of x) (table_of of y)
      (draws_of random d) (draws_of random e)
  told_runs ring lines now_ms answer x y d e runs = record {
    job = runs.job;
    is_new = runs.is_new;
    steps = runs.steps;
    last = state_told runs.last;
    reaches = reaches ring now_ms _ runs.steps runs.last runs.reaches;
    ended = runs.ended;
    ends = takes_turn ring now_ms runs.last.job runs.ended _ runs.last.store y runs.last.draws e runs.ends;
  }
