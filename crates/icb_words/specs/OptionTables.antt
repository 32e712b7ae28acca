-- The options of each command (ours; README.md of this crate).
use Rattle.std.specs.Prelude.{[], ◌∷◌, codes}
use Rattle.icb_words.specs.Options.{Options}
use Rattle.icb_words.specs.declared.forms.ValueForm.TheVariants.{Id, Key, KeyBytes, Location}
use Rattle.icb_words.specs.declared.forms.ValueForm.TheVariants.{Number, Schema, Text}
use Rattle.icb_words.specs.declared.forms.ValueForm.TheVariants.{Within}
use Rattle.icb_words.specs.declared.option_tables.OptionTable.{OptionTable}
use Rattle.icb_words.specs.declared.option_tables.OptionTable.TheVariants as table

-- the options of a new table that are numbers
abbrev pub number_options : Options
number_options = (codes "--block", Within 1 16777216) ∷ (codes "--avro-block", Within 1 1048576)
    ∷ (codes "--rows-per-file", Within 1 1000000) ∷ (codes "--retries", Within 0 100) ∷ []

-- the options of a command: the name of each, and the form of its value
abbrev pub options_of : OptionTable → Options
options_of table.CatFile = (codes "--key", Key) ∷ (codes "--length", Number)
    ∷ (codes "--prefix", Text) ∷ (codes "--skip", Number) ∷ (codes "--take", Number) ∷ []
options_of table.SealFile =
    (codes "--key-bytes", KeyBytes) ∷ (codes "--block", Within 1 16777216) ∷ []
options_of table.Create = (codes "--keys", Text) ∷ (codes "--master", Id)
    ∷ (codes "--schema", Schema) ∷ (codes "--location", Location) ∷ (codes "--key-bytes", KeyBytes)
    ∷ number_options
options_of table.Scan = (codes "--keys", Text) ∷ (codes "--metadata", Text)
    ∷ (codes "--snapshot", Number) ∷ (codes "--columns", Text) ∷ (codes "--range", Text)
    ∷ (codes "--low", Text) ∷ (codes "--high", Text) ∷ (codes "--skip", Number)
    ∷ (codes "--take", Number) ∷ []
options_of table.Rotate = (codes "--keys", Text) ∷ (codes "--master", Id) ∷ []
options_of table.Keyring = (codes "--keys", Text) ∷ []
options_of table.Empty = []
