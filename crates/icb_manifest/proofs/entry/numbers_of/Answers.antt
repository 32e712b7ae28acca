use Rattle.std.proofs.Common.{refl, rules}
use Rattle.std.proofs.lemmas.Int.{to_z-of_z}
use Rattle.std.proofs.lemmas.Result.{err_from_is_err_and}
use mir.Val.{SFits}
use mir.Syntax.{w32}
use Rattle.icb_manifest.specs.Entries.{numbers_of}
use Rattle.icb_manifest.proofs.entry.numbers_of.Goals as goal

pub returns-in_err-status : goal.returns-in_err-status
unfolding numbers_of
returns-in_err-status c =
    let p = err_from_is_err_and c.from_residual.result c.from_residual.ensures.1 in
    rw (p.1, p.2) (rw (c.in_err-status.ensures) refl)

pub returns-in_err-snapshot : goal.returns-in_err-snapshot
unfolding numbers_of
returns-in_err-snapshot c =
    let p = err_from_is_err_and c.from_residual-in_err-snapshot.result c.from_residual-in_err-snapshot.ensures.1 in
    rw (p.1, p.2) (rw (c.in_ok-status.ensures, c.in_err-snapshot.ensures) refl)

pub returns-in_err-sequence : goal.returns-in_err-sequence
unfolding numbers_of
returns-in_err-sequence c =
    let p = err_from_is_err_and c.from_residual-in_err-sequence.result c.from_residual-in_err-sequence.ensures.1 in
    rw (p.1, p.2) (rw (c.in_ok-status.ensures, c.in_ok-snapshot.ensures, c.in_err-sequence.ensures) refl)

pub returns-in_err-file_sequence : goal.returns-in_err-file_sequence
unfolding numbers_of
returns-in_err-file_sequence c =
    let p = err_from_is_err_and c.from_residual-in_err-file_sequence.result c.from_residual-in_err-file_sequence.ensures.1 in
    rw (p.1, p.2) (rw (c.in_ok-status.ensures, c.in_ok-snapshot.ensures, c.in_ok-sequence.ensures, c.in_err-file_sequence.ensures) refl)

pub returns : goal.returns
unfolding numbers_of
returns c =
    let f0 : SFits w32 c.in_ok-status.status = search rules in
    rw (c.in_ok-status.ensures, c.in_ok-snapshot.ensures, c.in_ok-sequence.ensures, c.in_ok-file_sequence.ensures, to_z-of_z w32 c.in_ok-status.status f0) refl
