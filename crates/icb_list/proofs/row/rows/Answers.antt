use Rattle.std.proofs.Common.{refl, rules}
use Rattle.std.proofs.lemmas.Int.{to_z-of_z}
use Rattle.std.proofs.lemmas.Result.{err_from_is_err_and}
use mir.Val.{SFits}
use mir.Syntax.{w64}
use Rattle.icb_list.specs.Rows.{rows_of}
use Rattle.icb_list.proofs.row.rows.Goals as goal

pub returns-in_err-added : goal.returns-in_err-added
unfolding rows_of
returns-in_err-added c =
    let p = err_from_is_err_and c.from_residual.result c.from_residual.ensures.1 in
    rw (p.1, p.2) (rw (c.in_err-added.ensures) refl)

pub returns-in_err-existing : goal.returns-in_err-existing
unfolding rows_of
returns-in_err-existing c =
    let p = err_from_is_err_and c.from_residual-in_err-existing.result c.from_residual-in_err-existing.ensures.1 in
    rw (p.1, p.2) (rw (c.in_ok-added.ensures, c.in_err-existing.ensures) refl)

pub returns-in_err-deleted : goal.returns-in_err-deleted
unfolding rows_of
returns-in_err-deleted c =
    let p = err_from_is_err_and c.from_residual-in_err-deleted.result c.from_residual-in_err-deleted.ensures.1 in
    rw (p.1, p.2) (rw (c.in_ok-added.ensures, c.in_ok-existing.ensures, c.in_err-deleted.ensures) refl)

pub returns : goal.returns
unfolding rows_of
returns c =
    let f0 : SFits w64 c.in_ok-added.added = search rules in
    let f1 : SFits w64 c.in_ok-existing.existing = search rules in
    let f2 : SFits w64 c.in_ok-deleted.deleted = search rules in
    rw (c.in_ok-added.ensures, c.in_ok-existing.ensures, c.in_ok-deleted.ensures, to_z-of_z w64 c.in_ok-added.added f0, to_z-of_z w64 c.in_ok-existing.existing f1, to_z-of_z w64 c.in_ok-deleted.deleted f2) refl
