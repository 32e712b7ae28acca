use Rattle.icb_append.proofs.StandsLemmas.{run_keeps}
use Rattle.icb_append.specs.Telling.{as_draws, as_store}
use Rattle.icb_append.proofs.laws.runs_keep_table.Goals as goal

pub returns : goal.returns
returns c = λ ring lines now_ms answer before now drew drawn runs code. run_keeps as_store as_draws ring lines now_ms answer before now drew drawn runs code
