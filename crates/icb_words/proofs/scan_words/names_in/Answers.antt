-- Each name is the first of those that are left.
use Rattle.std.proofs.Common.{◌∙◌, ap}
use Rattle.icb_types.proofs.WordLemmas.{less_left}
use Rattle.icb_words.proofs.WordLemmas.{name_read}
use Rattle.icb_words.proofs.scan_words.names_in.Goals as goal

pub loop-rest-smaller : goal.loop-rest-smaller
loop-rest-smaller c =
    let e = less_left c.in-Some.left.now c.first_name.result.0.now c.first_name.result.1 c.first_name.ensures in
    rw c.in-Some.is e

pub loop-rest-preserved : goal.loop-rest-preserved
loop-rest-preserved c =
    let same = rw c.in-Some.is at c.loop-rest.invariant in
    let grown = rw c.in_ok-from_str.ensures at c.in_ok-push.ensures.ok in
    name_read c.loop-rest.names c.push.new.self c.args.word.now c.in-Some.left.now c.first_name.result.0.now
    c.first_name.result.1 same c.first_name.ensures grown
