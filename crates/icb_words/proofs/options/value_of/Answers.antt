-- Behind the last pair no value is left.
use Rattle.std.proofs.Common.{◌∙◌, ap, map, string_bytes}
use Rattle.std.specs.Prelude.{is_some}
use Rattle.std.proofs.lemmas.List.{length-map}
use Rattle.icb_words.proofs.OptionLemmas.{short_pairs}
use Rattle.icb_words.proofs.options.value_of.Goals as goal

pub returns-clause-value : goal.returns-clause-value
returns-clause-value c =
    short_pairs c.args.name.now (map string_bytes c.loop-rest.rest.now) (rw length-map c.in_default.len_below)
    ∙ c.loop-rest.invariant

pub returns-clause-given : goal.returns-clause-given
returns-clause-given c =
    ap is_some (short_pairs c.args.name.now (map string_bytes c.loop-rest.rest.now) (rw length-map c.in_default.len_below)
    ∙ c.loop-rest.invariant)
