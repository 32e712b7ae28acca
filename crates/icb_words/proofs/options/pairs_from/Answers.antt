-- The first word without a place decides, and then a value that isn't there.
use Rattle.std.proofs.Common.{◌∙◌, map, string_bytes, sym}
use Rattle.std.proofs.lemmas.List.{length-map}
use Rattle.icb_words.specs.OptionTables.{options_of}
use Rattle.icb_words.proofs.OptionLemmas.{far, found, odd, rest_of, whole}
use Rattle.icb_words.proofs.options.pairs_from.Goals as goal

pub returns-in-Ok-Some : goal.returns-in-Ok-Some
returns-in-Ok-Some c =
    rw (c.no_place.ensures, c.saturating_add.ensures, far c.args.first c.in-Ok-Some.at) (found (options_of c.args.options) (map string_bytes c.args.words.now) _ c.args.first _
    (rest_of _ c.args.words.now c.args.first) (sym c.in-Ok-Some.field-0-is ∙ c.in-Ok-Some.ensures.first))

pub returns-then-pairs-eq1 : goal.returns-then-pairs-eq1
returns-then-pairs-eq1 c =
    rw (c.no_place-then-pairs-eq1.ensures, ← length-map c.args.words.now string_bytes)
    (odd (options_of c.args.options) (map string_bytes c.args.words.now) _ c.args.first _
    (rest_of _ c.args.words.now c.args.first) (length-map _ _) (sym c.in-Ok-None.field-0-is ∙ c.in-Ok-None.ensures.first) c.if-pairs-eq1.true)

pub returns : goal.returns
returns c =
    whole (options_of c.args.options) (map string_bytes c.args.words.now) _ c.args.first _
    (rest_of _ c.args.words.now c.args.first) (length-map _ _) (sym c.in-Ok-None.field-0-is ∙ c.in-Ok-None.ensures.first) c.if-pairs-eq1.false
