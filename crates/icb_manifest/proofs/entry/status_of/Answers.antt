use Rattle.std.proofs.Common.{◌≡◌, pos, refl, rules, sym, ap, ◌∙◌}
use Rattle.std.proofs.lemmas.Int.{to_z-of_z}
use Rattle.std.proofs.lemmas.Result.{err_from_is_err_and}
use mir.Val.{SFits, of_z, to_z}
use mir.Syntax.{w32}
use Rattle.icb_manifest.specs.Entries.{status_of}
use Rattle.icb_manifest.proofs.StatusLemmas.{no_status}
use Rattle.icb_manifest.proofs.entry.status_of.Goals as goal

pub returns-in_err-status : goal.returns-in_err-status
unfolding status_of
returns-in_err-status c =
    let p = err_from_is_err_and c.from_residual.result c.from_residual.ensures.1 in
    rw (p.1, p.2) (rw c.in_err-status.ensures refl)

pub returns-then-status-eq0 : goal.returns-then-status-eq0
unfolding status_of
returns-then-status-eq0 c =
    let f : SFits w32 c.in_ok-status.status = search rules in
    let e : c.in_ok-status.status ≡ pos 0 = sym (to_z-of_z w32 c.in_ok-status.status f) ∙ ap (to_z w32) c.if-status-eq0.true in
    rw (c.in_ok-status.ensures, e) refl

pub returns-then-status-eq1 : goal.returns-then-status-eq1
unfolding status_of
returns-then-status-eq1 c =
    let f : SFits w32 c.in_ok-status.status = search rules in
    let e : c.in_ok-status.status ≡ pos 1 = sym (to_z-of_z w32 c.in_ok-status.status f) ∙ ap (to_z w32) c.if-status-eq1.true in
    rw (c.in_ok-status.ensures, e) refl

pub returns-then-status-eq2 : goal.returns-then-status-eq2
unfolding status_of
returns-then-status-eq2 c =
    let f : SFits w32 c.in_ok-status.status = search rules in
    let e : c.in_ok-status.status ≡ pos 2 = sym (to_z-of_z w32 c.in_ok-status.status f) ∙ ap (to_z w32) c.if-status-eq2.true in
    rw (c.in_ok-status.ensures, e) refl

pub returns : goal.returns
unfolding status_of
returns c = rw c.in_ok-status.ensures (no_status c.in_ok-status.status (λ e. c.if-status-eq0.false (ap (of_z w32) e)) (λ e. c.if-status-eq1.false (ap (of_z w32) e)) (λ e. c.if-status-eq2.false (ap (of_z w32) e)))
