use Rattle.std.proofs.Common.{◌∙◌}
use Rattle.icb_types.proofs.WordLemmas.{number_read, plain_utf8}
use Rattle.icb_types.proofs.type_words.number_in.Goals as goal

pub returns-in-Ok : goal.returns-in-Ok
returns-in-Ok c =
    let parsed = rw c.in-Ok.ensures.cases.0 at c.parse.ensures.value.0 in
    c.ok.ensures.value ∙ number_read c.args.digits.now c.parse.result parsed c.requires

pub returns-in-Err : goal.returns-in-Err
returns-in-Err c = absurd (c.in-Err.ensures.cases.0 (plain_utf8 c.args.digits.now c.requires))
