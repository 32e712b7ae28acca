-- An entry of a list stays, and any other is sealed again with the nonce at the place.
use Rattle.std.proofs.Common.{◌∙◌, Some, ap, drop, sym}
use Rattle.icb_chain.specs.Opening.{keys_of}
use Rattle.icb_rotate.specs.Keys.{put_first, rewrapped}
use Rattle.icb_rotate.proofs.CallLemmas.{drop_behind, next_kept, next_sealed}
use Rattle.icb_rotate.proofs.keys.next_entry.Goals as goal

pub returns-then-not-seals_key-clause-entry : goal.returns-then-not-seals_key-clause-entry
returns-then-not-seals_key-clause-entry c more =
    let table = keys_of c.args.meta.now in
    let left = drop c.args.at.now c.args.drawn.now in
    next_kept table c.args.ring.now c.args.master.now c.args.entry.now left (sym c.seals_key.ensures ∙ c.if-not-seals_key.true) more
    ∙ ap (λ e. put_first (Some e) (rewrapped table c.args.ring.now c.args.master.now more left)) (sym c.in_ok-copy.ensures)

pub returns-clause-entry : goal.returns-clause-entry
returns-clause-entry c more =
    let table = keys_of c.args.meta.now in
    let left = drop c.args.at.now c.args.drawn.now in
    next_sealed table c.args.ring.now c.args.master.now c.args.entry.now left c.in-Some.nonce c.in-Ok.key c.in_ok-sealed.sealed
    (sym c.seals_key.ensures ∙ c.if-not-seals_key.false) (sym c.in-Some.ensures.nonce) c.in-Ok.ensures.opens c.in_ok-sealed.ensures.sealed more
    ∙ ap (λ l. put_first (Some c.in_ok-sealed.sealed) (rewrapped table c.args.ring.now c.args.master.now more l)) (drop_behind c.args.at.now c.args.drawn.now)
