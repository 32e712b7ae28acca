-- The values of the versions before this one.
use Rattle.std.proofs.Common.{◌≡◌, take}
use Rattle.std.specs.Prelude.{string_bytes}
use Rattle.icb_run.specs.Lines.{version_values}
use Rattle.icb_run.proofs.status_words.version_values.Given as goal

abbrev pub invariant-loop-version : goal.invariant-loop-version
invariant-loop-version l =
    string_bytes l.values ≡ version_values (take l.version-index l.versions)
