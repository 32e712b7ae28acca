-- The pieces of the format, joined.
use Rattle.std.proofs.Common.{◌≡◌, ◌++◌, append_assoc, codes, decimal}
use Rattle.std.specs.Prelude.{string_bytes}
use Rattle.icb_run.proofs.LineLemmas.{same_text}
use Rattle.icb_run.specs.Lines.{limit_name}
use Rattle.icb_run.proofs.status_words.limit_values.Goals as goal

pub returns : goal.returns
returns c =
    let joined : codes " " ++ (c.limit_name-name.result.now ++ (codes " " ++ decimal c.args.number))
    ≡ codes " " ++ limit_name c.args.what ++ codes " " ++ decimal c.args.number
    = rw c.limit_name-name.ensures (simp append_assoc) in
    same_text string_bytes _ _ c.format.result joined c.format.ensures.ok
