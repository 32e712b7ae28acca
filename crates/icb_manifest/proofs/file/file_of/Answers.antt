use Rattle.std.proofs.Common.{refl, rules}
use Rattle.std.proofs.lemmas.Int.{to_z-of_z}
use Rattle.std.proofs.lemmas.Result.{err_from_is_err_and}
use mir.Val.{SFits}
use mir.Syntax.{w32, w64}
use Rattle.icb_manifest.specs.Files.{file_of}
use Rattle.icb_manifest.proofs.RefusedLemmas.{file_refused}
use Rattle.icb_manifest.proofs.file.file_of.Goals as goal

pub returns-in_err-content : goal.returns-in_err-content
unfolding file_of
returns-in_err-content c =
    let p = err_from_is_err_and c.from_residual.result c.from_residual.ensures.1 in
    rw (p.1, p.2) (rw (c.in_err-content.ensures) refl)

pub returns-in_err-path : goal.returns-in_err-path
unfolding file_of
returns-in_err-path c =
    let p = err_from_is_err_and c.from_residual-in_err-path.result c.from_residual-in_err-path.ensures.1 in
    rw (p.1, p.2) (rw (c.in_ok-content.ensures, c.in_err-path.ensures) refl)

pub returns-in_err-format : goal.returns-in_err-format
unfolding file_of
returns-in_err-format c =
    let p = err_from_is_err_and c.from_residual-in_err-format.result c.from_residual-in_err-format.ensures.1 in
    rw (p.1, p.2) (rw (c.in_ok-content.ensures, c.in_ok-path.ensures, c.in_err-format.ensures) refl)

pub returns-in_err-records : goal.returns-in_err-records
unfolding file_of
returns-in_err-records c =
    let p = err_from_is_err_and c.from_residual-in_err-records.result c.from_residual-in_err-records.ensures.1 in
    rw (p.1, p.2) (rw (c.in_ok-content.ensures, c.in_ok-path.ensures, c.in_ok-format.ensures, c.in_err-records.ensures) refl)

pub returns-in_err-size : goal.returns-in_err-size
unfolding file_of
returns-in_err-size c =
    let p = err_from_is_err_and c.from_residual-in_err-size.result c.from_residual-in_err-size.ensures.1 in
    rw (p.1, p.2) (rw (c.in_ok-content.ensures, c.in_ok-path.ensures, c.in_ok-format.ensures, c.in_ok-records.ensures, c.in_err-size.ensures) refl)

pub returns-in_err-key : goal.returns-in_err-key
unfolding file_of
returns-in_err-key c =
    let p = err_from_is_err_and c.from_residual-in_err-key.result c.from_residual-in_err-key.ensures.1 in
    rw (p.1, p.2) (rw (c.in_ok-content.ensures, c.in_ok-path.ensures, c.in_ok-format.ensures, c.in_ok-records.ensures, c.in_ok-size.ensures, c.in_ok-maps.ensures, c.in_err-key.ensures) refl)

pub returns-in_err-first_row : goal.returns-in_err-first_row
unfolding file_of
returns-in_err-first_row c =
    let p = err_from_is_err_and c.from_residual-in_err-first_row.result c.from_residual-in_err-first_row.ensures.1 in
    rw (p.1, p.2) (rw (c.in_ok-content.ensures, c.in_ok-path.ensures, c.in_ok-format.ensures, c.in_ok-records.ensures, c.in_ok-size.ensures, c.in_ok-maps.ensures, c.in_ok-key.ensures, c.in_err-first_row.ensures) refl)

pub returns : goal.returns
unfolding file_of
returns c =
    let f0 : SFits w32 c.in_ok-content.content = search rules in
    let f1 : SFits w64 c.in_ok-records.records = search rules in
    let f2 : SFits w64 c.in_ok-size.size = search rules in
    rw (c.in_ok-content.ensures, c.in_ok-path.ensures, c.in_ok-format.ensures, c.in_ok-records.ensures, c.in_ok-size.ensures, c.in_ok-maps.ensures, c.in_ok-key.ensures, c.in_ok-first_row.ensures, c.in_ok-from_str.ensures, c.in_ok-from_str-2.ensures, c.in_ok-owned.ensures, to_z-of_z w32 c.in_ok-content.content f0, to_z-of_z w64 c.in_ok-records.records f1, to_z-of_z w64 c.in_ok-size.size f2) refl

pub returns-in_err-maps : goal.returns-in_err-maps
returns-in_err-maps c =
    let p = err_from_is_err_and c.from_residual-in_err-maps.result c.from_residual-in_err-maps.ensures.1 in
    rw (p.1, p.2) (file_refused _ c.in_err-maps.field-0.0 _ _ _ _ _ c.in_ok-content.ensures c.in_ok-path.ensures c.in_ok-format.ensures c.in_ok-records.ensures c.in_ok-size.ensures c.in_err-maps.ensures)
