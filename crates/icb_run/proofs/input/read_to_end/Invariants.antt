-- What was read and what is left are the whole input.
use Rattle.std.proofs.Common.{◌≡◌, ◌+◌, ◌-◌, ◌≤◌, vec_len}
use Rattle.std.specs.Prelude.{IfSome}
use Rattle.icb_run.specs.Inputs.{Splits}
use Rattle.icb_run.proofs.input.read_to_end.Given as goal

abbrev pub invariant-loop-input : goal.invariant-loop-input
invariant-loop-input g l = record {
  whole : IfSome (g.I.Source.left l.initial.input) (λ whole.
      Splits whole l.bytes.items (g.I.Source.left l.input));
  short : vec_len l.bytes ≤ l.limit + 1;
  count : g.I.Source.faults l.input ≡ g.I.Source.faults l.initial.input;
}

abbrev pub decreases-loop-input : goal.decreases-loop-input
decreases-loop-input g l = l.limit + 1 - vec_len l.bytes
