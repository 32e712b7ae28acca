-- What a command sees of the outside, and that a fault of the outside ends it.
use Rattle.std.specs.Prelude.{ℕ, ◌≡◌, ◌≤◌, ◌⊎◌, List, Option}
use Rattle.icb_base.specs.Causes.{Blames, Rose}
use Rattle.icb_base.specs.Objects.{Objects}
use Rattle.icb_base.specs.declared.storage.Store as store
use Rattle.icb_base.specs.declared.transfer.Draws as draws
use Rattle.icb_base.specs.declared.transfer.Sink as sink
use Rattle.icb_base.specs.declared.transfer.Source as source
use Rattle.icb_run.specs.declared.outside.Parts.{Parts}
use Rattle.icb_run.specs.declared.status.Status.{Status}
use Rattle.icb_run.specs.declared.status.Status.TheVariants.{InputFault, OutputFault, RandomFault}
use Rattle.icb_run.specs.declared.status.Status.TheVariants.{StoreFault}

-- how often each part of the outside has failed
pub record Faults : Type 0 where
  pub table : ℕ
  pub genuine : ℕ
  pub input : ℕ
  pub keys : ℕ
  pub trusted : ℕ
  pub draws : ℕ
  pub out : ℕ

-- what each part of the outside tells of itself: the stores their objects, the sources what is
-- left, the draws what was drawn, the output what was written; the time in milliseconds since 1970;
-- and how often each part has failed
pub record Outside : Type 0 where
  pub table : Option Objects
  pub genuine : Option Objects
  pub input : Option (List ℕ)
  pub keys : Option (List ℕ)
  pub trusted : Option (List ℕ)
  pub drawn : Option (List ℕ)
  pub now_ms : ℕ
  pub out : Option (List ℕ)
  pub faults : Faults

-- a count never falls, and it stays unless calls ended with this fault
pub record MayBlame (fault : Type 0) (before now : ℕ) : Type 0 where
  pub later : before ≤ now
  pub stays : (fault → ⊥) → now ≡ before

-- a fault of the outside ends a command, and no status says one that wasn't there: where the status
-- is a fault the count of such a part rose, and where it isn't each of their counts stayed
pub record FaultsEnd (before now : Outside) (status : Status) : Type 0 where
  pub store : status ≡ StoreFault → Rose before.faults.table now.faults.table
      ⊎ Rose before.faults.genuine now.faults.genuine
  pub source : status ≡ InputFault → Rose before.faults.input now.faults.input
      ⊎ Rose before.faults.keys now.faults.keys ⊎ Rose before.faults.trusted now.faults.trusted
  pub table : MayBlame (status ≡ StoreFault) before.faults.table now.faults.table
  pub genuine : MayBlame (status ≡ StoreFault) before.faults.genuine now.faults.genuine
  pub input : MayBlame (status ≡ InputFault) before.faults.input now.faults.input
  pub keys : MayBlame (status ≡ InputFault) before.faults.keys now.faults.keys
  pub trusted : MayBlame (status ≡ InputFault) before.faults.trusted now.faults.trusted
  pub draws : Blames (status ≡ RandomFault) before.faults.draws now.faults.draws
  pub out : Blames (status ≡ OutputFault) before.faults.out now.faults.out

-- no count of a part of the outside rose
pub record NoneRose (before now : Outside) : Type 0 where
  pub table : Rose before.faults.table now.faults.table → ⊥
  pub genuine : Rose before.faults.genuine now.faults.genuine → ⊥
  pub input : Rose before.faults.input now.faults.input → ⊥
  pub keys : Rose before.faults.keys now.faults.keys → ⊥
  pub trusted : Rose before.faults.trusted now.faults.trusted → ⊥
  pub draws : Rose before.faults.draws now.faults.draws → ⊥
  pub out : Rose before.faults.out now.faults.out → ⊥

module _ {S G I K M D O : Type 0} (table : store.Ghosts S) (genuine : store.Ghosts G)
    (input : source.Ghosts I) (keys : source.Ghosts K) (trusted : source.Ghosts M)
    (draws : draws.Ghosts D) (out : sink.Ghosts O) where
  -- what the parts of the outside tell, at a time
  abbrev pub outside_of : S → G → I → K → M → D → ℕ → O → Outside
  outside_of s g i k m d now_ms o = record {
    table = table.held s;
    genuine = genuine.held g;
    input = input.left i;
    keys = keys.left k;
    trusted = trusted.left m;
    drawn = draws.drawn d;
    now_ms = now_ms;
    out = out.written o;
    faults = record {
      table = table.faults s;
      genuine = genuine.faults g;
      input = input.faults i;
      keys = keys.faults k;
      trusted = trusted.faults m;
      draws = draws.faults d;
      out = out.faults o;
    };
  }

  -- the outside as a command gets it
  abbrev pub seen : Parts S G I K M D O → Outside
  seen x = outside_of x.table.now x.genuine.now x.input.now x.keys.now x.trusted.now x.draws.now
      x.now_ms x.out.now

  -- a command does what it means over the parts that it was given, it leaves their sources so, and
  -- a fault of the outside ends it
  pub record Does (means leaves : Outside → Outside → Status → Type 0)
      (x y : Parts S G I K M D O) (status : Status) : Type 0 where
    pub meets : means (seen x) (seen y) status
    pub read : leaves (seen x) (seen y) status
    pub ends : FaultsEnd (seen x) (seen y) status
    pub same_time : y.now_ms ≡ x.now_ms
    pub same_table : y.table.ghost_name ≡ x.table.ghost_name
    pub same_genuine : y.genuine.ghost_name ≡ x.genuine.ghost_name
    pub same_input : y.input.ghost_name ≡ x.input.ghost_name
    pub same_keys : y.keys.ghost_name ≡ x.keys.ghost_name
    pub same_trusted : y.trusted.ghost_name ≡ x.trusted.ghost_name
    pub same_draws : y.draws.ghost_name ≡ x.draws.ghost_name
    pub same_out : y.out.ghost_name ≡ x.out.ghost_name
