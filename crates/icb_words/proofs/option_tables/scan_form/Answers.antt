-- A name that is none of these has no form.
use Rattle.std.proofs.Common.{◌∙◌, codes, drop}
use Rattle.icb_words.specs.OptionTables.{options_of}
use Rattle.icb_words.specs.declared.forms.ValueForm.TheVariants.{Number, Text}
use Rattle.icb_words.specs.declared.option_tables.OptionTable.TheVariants.{Scan}
use Rattle.icb_words.proofs.OptionLemmas.{passed_over}
use Rattle.icb_words.proofs.option_tables.scan_form.Goals as goal

pub returns-in_default : goal.returns-in_default
returns-in_default c =
    passed_over (codes "--take") c.args.name.now Number (drop 9 (options_of Scan)) c.in_default.not-text-9
    ∙ passed_over (codes "--skip") c.args.name.now Number (drop 8 (options_of Scan)) c.in_default.not-text-8
    ∙ passed_over (codes "--high") c.args.name.now Text (drop 7 (options_of Scan)) c.in_default.not-text-7
    ∙ passed_over (codes "--low") c.args.name.now Text (drop 6 (options_of Scan)) c.in_default.not-text-6
    ∙ passed_over (codes "--range") c.args.name.now Text (drop 5 (options_of Scan)) c.in_default.not-text-5
    ∙ passed_over (codes "--columns") c.args.name.now Text (drop 4 (options_of Scan)) c.in_default.not-text-4
    ∙ passed_over (codes "--snapshot") c.args.name.now Number (drop 3 (options_of Scan)) c.in_default.not-text-3
    ∙ passed_over (codes "--metadata") c.args.name.now Text (drop 2 (options_of Scan)) c.in_default.not-text-2
    ∙ passed_over (codes "--keys") c.args.name.now Text (drop 1 (options_of Scan)) c.in_default.not-text
