use Rattle.std.proofs.Common.{◌≡◌, pos, refl, rules, sym, ap, ◌∙◌}
use Rattle.std.proofs.lemmas.Int.{to_z-of_z}
use Rattle.std.proofs.lemmas.Result.{err_from_is_err_and}
use mir.Val.{SFits, of_z, to_z}
use mir.Syntax.{w32}
use Rattle.icb_list.specs.Rows.{content_of}
use Rattle.icb_list.proofs.ContentLemmas.{no_content}
use Rattle.icb_list.proofs.row.content.Goals as goal

pub returns-in_err-content : goal.returns-in_err-content
unfolding content_of
returns-in_err-content c =
    let p = err_from_is_err_and c.from_residual.result c.from_residual.ensures.1 in
    rw (p.1, p.2) (rw c.in_err-content.ensures refl)

pub returns-then-content-eq0 : goal.returns-then-content-eq0
unfolding content_of
returns-then-content-eq0 c =
    let f : SFits w32 c.in_ok-content.content = search rules in
    let e : c.in_ok-content.content ≡ pos 0 = sym (to_z-of_z w32 c.in_ok-content.content f) ∙ ap (to_z w32) c.if-content-eq0.true in
    rw (c.in_ok-content.ensures, e) refl

pub returns-then-content-eq1 : goal.returns-then-content-eq1
unfolding content_of
returns-then-content-eq1 c =
    let f : SFits w32 c.in_ok-content.content = search rules in
    let e : c.in_ok-content.content ≡ pos 1 = sym (to_z-of_z w32 c.in_ok-content.content f) ∙ ap (to_z w32) c.if-content-eq1.true in
    rw (c.in_ok-content.ensures, e) refl

pub returns : goal.returns
unfolding content_of
returns c = rw c.in_ok-content.ensures (no_content c.in_ok-content.content (λ e. c.if-content-eq0.false (ap (of_z w32) e)) (λ e. c.if-content-eq1.false (ap (of_z w32) e)))
