use Rattle.std.proofs.Common.{refl, rules, sym, ap, Err, ◌∙◌}
use Rattle.std.proofs.lemmas.Int.{to_z-of_z}
use Rattle.std.proofs.lemmas.Result.{err_from_is_err_and}
use mir.Val.{SFits}
use mir.Syntax.{w32}
use Rattle.icb_fields.specs.Answers.{row}
use Rattle.icb_manifest.specs.Maps.{bytes_at}
use Rattle.icb_manifest.proofs.PairLemmas.{bytes_other, bytes_typed}
use Rattle.icb_manifest.proofs.maps.bytes_at.Goals as goal

pub returns-in_err-node : goal.returns-in_err-node
unfolding bytes_at
returns-in_err-node c =
    let p = err_from_is_err_and c.from_residual.result c.from_residual.ensures.1 in
    let f : SFits w32 c.args.ids.id = search rules in
    let found = rw (to_z-of_z w32 c.args.ids.id f) at c.in_err-node.ensures in
    rw (p.1, p.2) (rw found refl)

pub returns-in_default : goal.returns-in_default
unfolding bytes_at
returns-in_default c =
    let f : SFits w32 c.args.ids.id = search rules in
    let found = rw (to_z-of_z w32 c.args.ids.id f, c.in_default.is) at c.in_ok-node.ensures in
    rw (found, c.new.ensures) refl

pub returns-then-maps_to_bytes : goal.returns-then-maps_to_bytes
returns-then-maps_to_bytes c =
    let f : SFits w32 c.args.ids.id = search rules in
    let found = rw (to_z-of_z w32 c.args.ids.id f, c.in-Some.is) at c.in_ok-node.ensures in
    rw (bytes_typed c.args.ids (row c.args.from.now) c.in-Some.node.now c.in-Some.items.now found (sym c.maps_to_bytes.ensures ∙ c.if-maps_to_bytes.true)) c.bytes_in.ensures

pub returns-else-maps_to_bytes : goal.returns-else-maps_to_bytes
returns-else-maps_to_bytes c =
    let f : SFits w32 c.args.ids.id = search rules in
    let found = rw (to_z-of_z w32 c.args.ids.id f, c.in-Some.is) at c.in_ok-node.ensures in
    bytes_other c.args.ids (row c.args.from.now) c.in-Some.node.now c.in-Some.items.now found (sym c.maps_to_bytes.ensures ∙ c.if-maps_to_bytes.false) ∙ ap (λ n. Err n) (sym (to_z-of_z w32 c.args.ids.id f))
