-- A name that is none of these has no form.
use Rattle.std.proofs.Common.{◌∙◌, codes, drop}
use Rattle.icb_words.specs.OptionTables.{number_options}
use Rattle.icb_words.specs.declared.forms.ValueForm.TheVariants.{Within}
use Rattle.icb_words.proofs.OptionLemmas.{passed_over}
use Rattle.icb_words.proofs.option_tables.number_form.Goals as goal

pub returns-in_default : goal.returns-in_default
returns-in_default c =
    passed_over (codes "--retries") c.args.name.now (Within 0 100) (drop 4 number_options) c.in_default.not-text-4
    ∙ passed_over (codes "--rows-per-file") c.args.name.now (Within 1 1000000) (drop 3 number_options) c.in_default.not-text-3
    ∙ passed_over (codes "--avro-block") c.args.name.now (Within 1 1048576) (drop 2 number_options) c.in_default.not-text-2
    ∙ passed_over (codes "--block") c.args.name.now (Within 1 16777216) (drop 1 number_options) c.in_default.not-text
