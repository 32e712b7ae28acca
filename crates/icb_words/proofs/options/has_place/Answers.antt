-- A name has its place by the pairs before it.
use Rattle.std.proofs.Common.{◌∙◌, [], map, string_bytes, sym, rules}
use Rattle.icb_words.specs.OptionTables.{options_of}
use Rattle.std.proofs.lemmas.List.{take-map}
use Rattle.icb_words.proofs.OptionLemmas.{mapped_item, name_place}
use Rattle.icb_words.proofs.options.has_place.Goals as goal

pub returns-then-at-eq0 : goal.returns-then-at-eq0
returns-then-at-eq0 c =
    name_place (options_of c.args.options) (map string_bytes c.args.pairs.now) _ c.args.at c.as_str-word.result.now
    c.is_new_name.result c.if-at-eq0.true
    (c.as_str-word.ensures.value ∙ mapped_item string_bytes c.args.pairs.now c.args.at c.index-pairs-at.result [] c.requires c.index-pairs-at.is)
    (sym (take-map _ _ _)) c.is_new_name.ensures
