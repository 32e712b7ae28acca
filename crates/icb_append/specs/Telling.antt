-- What a table and a generator tell of themselves, as a store and a generator of which no more is
-- known.
use Rattle.std.specs.Prelude.{ℕ, List, Option, Result}
use Rattle.icb_base.specs.Objects.{Objects}
use Rattle.icb_base.specs.declared.storage.Store as store
use Rattle.icb_base.specs.declared.transfer.Draws as draws
use Rattle.icb_chain.specs.Ring.{Ring}
use Rattle.icb_turns.specs.declared.fault.JobFault.{JobFault}
use Rattle.icb_append.specs.TableAfter.{AppendKeepsTable}
use Rattle.icb_append.specs.Whole.{Runs, RunsOnCode}
use Rattle.icb_append.specs.declared.whole.Committed.{Committed}

-- what a table holds, and how often it failed
pub record TableTold : Type 0 where
  pub held : Option Objects
  pub faults : ℕ

-- as a store, of which isn't told how often it was asked
abbrev pub as_store : store.Ghosts TableTold
as_store = record {
  held = λ t. t.held;
  asked = λ t path. 0;
  moved = λ t path. 0;
  faults = λ t. t.faults;
  keeps = λ x y. Unit {0};
}

-- that of a store
abbrev pub table_of : {S : Type 0} → store.Ghosts S → S → TableTold
table_of of s = record { held = of.held s; faults = of.faults s }

-- what was drawn, and how often the generator failed
pub record DrawsTold : Type 0 where
  pub drawn : Option (List ℕ)
  pub faults : ℕ

-- as a generator
abbrev pub as_draws : draws.Ghosts DrawsTold
as_draws = record { drawn = λ d. d.drawn; faults = λ d. d.faults }

-- that of a generator
abbrev pub draws_of : {D : Type 0} → draws.Ghosts D → D → DrawsTold
draws_of random d = record { drawn = random.drawn d; faults = random.faults d }

-- A run of an append of which this is told leaves a store that stood for a table as the answer
-- says.
abbrev pub RunsKeepTable : Type 0
RunsKeepTable = (ring : Ring) (lines : List ℕ) (now_ms : ℕ) (answer : Result Committed JobFault)
    (before now : TableTold) (drew drawn : DrawsTold)
    (runs : Runs as_store as_draws ring lines now_ms answer before now drew drawn)
    → RunsOnCode as_store as_draws ring lines now_ms answer before now drew drawn runs
    → AppendKeepsTable as_store ring lines answer before now
