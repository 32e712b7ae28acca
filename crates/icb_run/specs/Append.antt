-- The command `append`: the rows of the input's lines are added to the table (ours:
-- docs/FORMATS.md, "Files of an append").
use Rattle.std.specs.Prelude.{ℕ, ℤ, ◌≡◌, ◌⊎◌, nat_lt, Bool, true, false, List, ◌++◌, codes, length}
use Rattle.std.specs.Prelude.{Option, IfSome, Result, Ok, Err}
use Rattle.std.specs.Fmt.{signed_decimal}
use Rattle.icb_append.specs.TableAfter.{AppendKeepsTable}
use Rattle.icb_append.specs.Telling.{DrawsTold, TableTold, as_draws, as_store, draws_of, table_of}
use Rattle.icb_append.specs.Whole.{Runs, RunsOnCode}
use Rattle.icb_append.specs.declared.whole.Committed.{Committed}
use Rattle.icb_base.specs.declared.limits.Limited.TheVariants as limit
use Rattle.icb_base.specs.declared.storage.Store as store
use Rattle.icb_base.specs.declared.transfer.Draws as draws
use Rattle.icb_base.specs.declared.transfer.Sink as sink
use Rattle.icb_chain.specs.Ring.{Ring}
use Rattle.icb_run.specs.Answers.{EndsEarly, TellsLine, version_line}
use Rattle.icb_run.specs.Inputs.{input_limit}
use Rattle.icb_run.specs.Jobs.{status_of_job}
use Rattle.icb_run.specs.Keyrings.{keyring_of, status_of_keys}
use Rattle.icb_run.specs.Outside.{Outside}
use Rattle.icb_run.specs.declared.keyring_input.KeysFault.{KeysFault}
use Rattle.icb_run.specs.declared.status.Status.{Status}
use Rattle.icb_run.specs.declared.status.Status.TheVariants as status
use Rattle.icb_turns.specs.declared.fault.JobFault.{JobFault}

-- what a table, a generator and an output tell
pub record Told : Type 0 where
  pub table : TableTold
  pub draws : DrawsTold
  pub out : Option (List ℕ)

-- that of a store, a generator and a sink
abbrev pub told : {S D O : Type 0} → store.Ghosts S → draws.Ghosts D → sink.Ghosts O → S → D → O
    → Told
told table random out s d o =
    record { table = table_of table s; draws = draws_of random d; out = out.written o }

-- that of the outside
abbrev pub told_of : Outside → Told
told_of o = record {
  table = record { held = o.table; faults = o.faults.table };
  draws = record { drawn = o.drawn; faults = o.faults.draws };
  out = o.out;
}

-- the words of a snapshot's id
abbrev pub snapshot_words : ℤ → List ℕ
snapshot_words id = codes "snapshot " ++ signed_decimal id ++ codes " "

-- the line of what was committed
abbrev pub committed_line : Committed → List ℕ
committed_line committed = snapshot_words committed.snapshot ++ version_line committed.version

-- what is answered and printed behind an append: what it committed, or its refusal and nothing
abbrev pub TellsAppend : Result Committed JobFault → Option (List ℕ) → Option (List ℕ) → Status
    → Type 0
TellsAppend (Ok committed) before now answer =
    TellsLine (committed_line committed) before now answer
TellsAppend (Err refused) before now answer = (answer ≡ status_of_job refused) × (now ≡ before)

-- Under a keyring the append of the lines' rows is run to its end, over what the table and the
-- generator tell, and the answer is that of the run. A store that stood for a table stands for the
-- table with the rows of the lines, or for the table as it was.
pub record AppendsTable (ring : Ring) (lines : List ℕ) (now_ms : ℕ) (before now : Told)
    (answer : Status) : Type 0 where
  pub result : Result Committed JobFault
  pub runs : Runs as_store as_draws ring lines now_ms result before.table now.table before.draws
      now.draws
  pub keeps : RunsOnCode as_store as_draws ring lines now_ms result before.table now.table
      before.draws now.draws runs
      → AppendKeepsTable as_store ring lines result before.table now.table
  pub tells : TellsAppend result before.out now.out answer

-- this is answered and nothing was done
abbrev pub DoesNothing : Status → Told → Told → Status → Type 0
DoesNothing refusal before now answer =
    ((answer ≡ refusal) ⊎ EndsEarly answer) × (now ≡ before)

-- an input that is too long is refused, and else its rows are appended; a fault of it or want of
-- memory may end the command before
abbrev pub AnswersLines : Bool → Ring → List ℕ → ℕ → Told → Told → Status → Type 0
AnswersLines true ring lines now_ms before now answer =
    DoesNothing (status.Limit limit.Input input_limit) before now answer
AnswersLines false ring lines now_ms before now answer =
    AppendsTable ring lines now_ms before now answer ⊎ (EndsEarly answer × (now ≡ before))

-- the keyring is refused, and then an input that is too long, and else its rows are appended
abbrev pub AppendAnswers : Result Ring KeysFault → List ℕ → ℕ → Told → Told → Status → Type 0
AppendAnswers (Err refused) lines now_ms before now answer =
    DoesNothing (status_of_keys refused) before now answer
AppendAnswers (Ok ring) lines now_ms before now answer =
    AnswersLines (nat_lt input_limit (length lines)) ring lines now_ms before now answer

-- nothing but the table, the input, the keyring, the draws, the output and their counts was changed
abbrev pub LeavesTheRest : Outside → Outside → Type 0
LeavesTheRest before now = now ≡ record before {
  table = now.table;
  input = now.input;
  keys = now.keys;
  drawn = now.drawn;
  out = now.out;
  faults = record before.faults {
    table = now.faults.table;
    input = now.faults.input;
    keys = now.faults.keys;
    draws = now.faults.draws;
    out = now.faults.out;
  };
}

-- this is answered over a keyring and an input that tell their texts
pub record IsAppend (before now : Outside) (answer : Status) : Type 0 where
  pub answered : IfSome before.keys (λ keyring. IfSome before.input (λ lines.
      AppendAnswers (keyring_of keyring) lines before.now_ms (told_of before) (told_of now) answer))
  pub rest : LeavesTheRest before now
