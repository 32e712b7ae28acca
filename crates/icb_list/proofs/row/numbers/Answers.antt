use Rattle.std.proofs.Common.{refl, rules}
use Rattle.std.proofs.lemmas.Int.{to_z-of_z}
use Rattle.std.proofs.lemmas.Result.{err_from_is_err_and}
use mir.Val.{SFits}
use mir.Syntax.{w32, w64}
use Rattle.icb_list.specs.Rows.{numbers_of}
use Rattle.icb_list.proofs.row.numbers.Goals as goal

pub returns-in_err-length : goal.returns-in_err-length
unfolding numbers_of
returns-in_err-length c =
    let p = err_from_is_err_and c.from_residual.result c.from_residual.ensures.1 in
    rw (p.1, p.2) (rw (c.in_err-length.ensures) refl)

pub returns-in_err-spec : goal.returns-in_err-spec
unfolding numbers_of
returns-in_err-spec c =
    let p = err_from_is_err_and c.from_residual-in_err-spec.result c.from_residual-in_err-spec.ensures.1 in
    rw (p.1, p.2) (rw (c.in_ok-length.ensures, c.in_err-spec.ensures) refl)

pub returns-in_err-content : goal.returns-in_err-content
unfolding numbers_of
returns-in_err-content c =
    let p = err_from_is_err_and c.from_residual-in_err-content.result c.from_residual-in_err-content.ensures.1 in
    rw (p.1, p.2) (rw (c.in_ok-length.ensures, c.in_ok-spec.ensures, c.in_err-content.ensures) refl)

pub returns-in_err-sequence : goal.returns-in_err-sequence
unfolding numbers_of
returns-in_err-sequence c =
    let p = err_from_is_err_and c.from_residual-in_err-sequence.result c.from_residual-in_err-sequence.ensures.1 in
    rw (p.1, p.2) (rw (c.in_ok-length.ensures, c.in_ok-spec.ensures, c.in_ok-content.ensures, c.in_err-sequence.ensures) refl)

pub returns-in_err-min_sequence : goal.returns-in_err-min_sequence
unfolding numbers_of
returns-in_err-min_sequence c =
    let p = err_from_is_err_and c.from_residual-in_err-min_sequence.result c.from_residual-in_err-min_sequence.ensures.1 in
    rw (p.1, p.2) (rw (c.in_ok-length.ensures, c.in_ok-spec.ensures, c.in_ok-content.ensures, c.in_ok-sequence.ensures, c.in_err-min_sequence.ensures) refl)

pub returns-in_err-snapshot : goal.returns-in_err-snapshot
unfolding numbers_of
returns-in_err-snapshot c =
    let p = err_from_is_err_and c.from_residual-in_err-snapshot.result c.from_residual-in_err-snapshot.ensures.1 in
    rw (p.1, p.2) (rw (c.in_ok-length.ensures, c.in_ok-spec.ensures, c.in_ok-content.ensures, c.in_ok-sequence.ensures, c.in_ok-min_sequence.ensures, c.in_err-snapshot.ensures) refl)

pub returns : goal.returns
unfolding numbers_of
returns c =
    let f0 : SFits w64 c.in_ok-length.length = search rules in
    let f1 : SFits w32 c.in_ok-spec.spec = search rules in
    let f2 : SFits w32 c.in_ok-content.content = search rules in
    let f3 : SFits w64 c.in_ok-sequence.sequence = search rules in
    let f4 : SFits w64 c.in_ok-min_sequence.min_sequence = search rules in
    let f5 : SFits w64 c.in_ok-snapshot.snapshot = search rules in
    rw (c.in_ok-length.ensures, c.in_ok-spec.ensures, c.in_ok-content.ensures, c.in_ok-sequence.ensures, c.in_ok-min_sequence.ensures, c.in_ok-snapshot.ensures, to_z-of_z w64 c.in_ok-length.length f0, to_z-of_z w32 c.in_ok-spec.spec f1, to_z-of_z w32 c.in_ok-content.content f2, to_z-of_z w64 c.in_ok-sequence.sequence f3, to_z-of_z w64 c.in_ok-min_sequence.min_sequence f4, to_z-of_z w64 c.in_ok-snapshot.snapshot f5) refl
