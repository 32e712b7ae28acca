use Rattle.std.proofs.Common.{◌∙◌}
use Rattle.icb_append.proofs.NumberLemmas.{number_read}
use Rattle.icb_append.proofs.settings.number_in.Goals as goal

pub returns : goal.returns
returns c = c.ok.ensures.value ∙ number_read c.args.digits.now c.parse.result c.parse.ensures.value.0 c.requires
