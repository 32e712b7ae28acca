-- Bytes of another length are no key.
use Rattle.std.proofs.Common.{◌∙◌, ap, Err, rules}
use Rattle.std.proofs.lemmas.List.{length-map}
use Rattle.icb_words.proofs.words.needed_meta.Goals as goal

pub returns-in-Err-KeyLength : goal.returns-in-Err-KeyLength
returns-in-Err-KeyLength c =
    let refused = (c.new.ensures.key_length_exactly c.in-Err-KeyLength.field-0-0).0
    (c.in-Err-KeyLength.is ∙ ap Err c.in-Err-KeyLength.field-0-is) in
    search (rules, length-map, refused)
