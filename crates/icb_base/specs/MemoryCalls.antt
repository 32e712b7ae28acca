-- Which call of input, output or random bytes in memory is to fail.
use Rattle.std.specs.Prelude.{◌≡◌, ◌==◌, Bool}
use Rattle.std.specs.List.{list_any}
use Rattle.icb_base.specs.Counts.{raised}
use Rattle.icb_base.specs.declared.memory_bytes.Calls.{Calls}

-- whether the next call's number is in the list
abbrev pub fails_next : Calls → Bool
fails_next calls = list_any (λ call. call == calls.next) calls.fails.items

-- a call was counted, and which calls are to fail is as before
pub record CountsCall (before now : Calls) : Type 0 where
  pub next : now.next ≡ raised before.next 1
  pub fails : now.fails ≡ before.fails
