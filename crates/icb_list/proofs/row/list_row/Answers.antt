use Rattle.std.proofs.Common.{refl, rules}
use Rattle.std.proofs.lemmas.Int.{to_z-of_z}
use Rattle.std.proofs.lemmas.Result.{err_from_is_err_and}
use mir.Val.{SFits}
use mir.Syntax.{w32, w64}
use Rattle.icb_list.specs.Rows.{list_row}
use Rattle.icb_list.proofs.row.list_row.Goals as goal

pub returns-in_err-path : goal.returns-in_err-path
unfolding list_row
returns-in_err-path c =
    let p = err_from_is_err_and c.from_residual.result c.from_residual.ensures.1 in
    rw (p.1, p.2) (rw (c.in_err-path.ensures) refl)

pub returns-in_err-numbers : goal.returns-in_err-numbers
unfolding list_row
returns-in_err-numbers c =
    let p = err_from_is_err_and c.from_residual-in_err-numbers.result c.from_residual-in_err-numbers.ensures.1 in
    rw (p.1, p.2) (rw (c.in_ok-path.ensures, c.in_err-numbers.ensures) refl)

pub returns-in_err-files : goal.returns-in_err-files
unfolding list_row
returns-in_err-files c =
    let p = err_from_is_err_and c.from_residual-in_err-files.result c.from_residual-in_err-files.ensures.1 in
    rw (p.1, p.2) (rw (c.in_ok-path.ensures, c.in_ok-numbers.ensures, c.in_err-files.ensures) refl)

pub returns-in_err-rows : goal.returns-in_err-rows
unfolding list_row
returns-in_err-rows c =
    let p = err_from_is_err_and c.from_residual-in_err-rows.result c.from_residual-in_err-rows.ensures.1 in
    rw (p.1, p.2) (rw (c.in_ok-path.ensures, c.in_ok-numbers.ensures, c.in_ok-files.ensures, c.in_err-rows.ensures) refl)

pub returns-in_err-key : goal.returns-in_err-key
unfolding list_row
returns-in_err-key c =
    let p = err_from_is_err_and c.from_residual-in_err-key.result c.from_residual-in_err-key.ensures.1 in
    rw (p.1, p.2) (rw (c.in_ok-path.ensures, c.in_ok-numbers.ensures, c.in_ok-files.ensures, c.in_ok-rows.ensures, c.in_err-key.ensures) refl)

pub returns-in_err-first_row : goal.returns-in_err-first_row
unfolding list_row
returns-in_err-first_row c =
    let p = err_from_is_err_and c.from_residual-in_err-first_row.result c.from_residual-in_err-first_row.ensures.1 in
    rw (p.1, p.2) (rw (c.in_ok-path.ensures, c.in_ok-numbers.ensures, c.in_ok-files.ensures, c.in_ok-rows.ensures, c.in_ok-key.ensures, c.in_err-first_row.ensures) refl)

pub returns : goal.returns
unfolding list_row
returns c =
    let f0 : SFits w64 c.in_ok-numbers.numbers.length = search rules in
    let f1 : SFits w32 c.in_ok-numbers.numbers.spec = search rules in
    let f2 : SFits w32 c.in_ok-numbers.numbers.content = search rules in
    let f3 : SFits w64 c.in_ok-numbers.numbers.sequence = search rules in
    let f4 : SFits w64 c.in_ok-numbers.numbers.min_sequence = search rules in
    let f5 : SFits w64 c.in_ok-numbers.numbers.snapshot = search rules in
    rw (c.in_ok-path.ensures, c.in_ok-numbers.ensures, c.in_ok-files.ensures, c.in_ok-rows.ensures, c.in_ok-key.ensures, c.in_ok-first_row.ensures, c.in_ok-from_str.ensures, c.in_ok-owned.ensures, to_z-of_z w64 c.in_ok-numbers.numbers.length f0, to_z-of_z w32 c.in_ok-numbers.numbers.spec f1, to_z-of_z w32 c.in_ok-numbers.numbers.content f2, to_z-of_z w64 c.in_ok-numbers.numbers.sequence f3, to_z-of_z w64 c.in_ok-numbers.numbers.min_sequence f4, to_z-of_z w64 c.in_ok-numbers.numbers.snapshot f5) refl
