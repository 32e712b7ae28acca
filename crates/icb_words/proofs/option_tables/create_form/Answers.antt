-- A name that is none of these has the form of a number, or none.
use Rattle.std.proofs.Common.{◌∙◌, codes, drop}
use Rattle.icb_words.specs.OptionTables.{options_of}
use Rattle.icb_words.specs.declared.forms.ValueForm.TheVariants.{Id, KeyBytes, Location, Schema, Text}
use Rattle.icb_words.specs.declared.option_tables.OptionTable.TheVariants.{Create}
use Rattle.icb_words.proofs.OptionLemmas.{passed_over}
use Rattle.icb_words.proofs.option_tables.create_form.Goals as goal

pub returns-in_default : goal.returns-in_default
returns-in_default c =
    c.number_form.ensures
    ∙ passed_over (codes "--key-bytes") c.args.name.now KeyBytes (drop 5 (options_of Create)) c.in_default.not-text-5
    ∙ passed_over (codes "--location") c.args.name.now Location (drop 4 (options_of Create)) c.in_default.not-text-4
    ∙ passed_over (codes "--schema") c.args.name.now Schema (drop 3 (options_of Create)) c.in_default.not-text-3
    ∙ passed_over (codes "--master") c.args.name.now Id (drop 2 (options_of Create)) c.in_default.not-text-2
    ∙ passed_over (codes "--keys") c.args.name.now Text (drop 1 (options_of Create)) c.in_default.not-text
