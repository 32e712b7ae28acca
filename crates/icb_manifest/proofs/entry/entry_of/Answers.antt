use Rattle.std.proofs.Common.{refl, rules}
use Rattle.std.proofs.lemmas.Int.{to_z-of_z}
use Rattle.std.proofs.lemmas.Result.{err_from_is_err_and}
use mir.Val.{SFits}
use mir.Syntax.{w32}
use Rattle.icb_manifest.specs.Entries.{entry_of}
use Rattle.icb_manifest.proofs.RefusedLemmas.{entry_refused}
use Rattle.icb_manifest.proofs.entry.entry_of.Goals as goal

pub returns-in_err-numbers : goal.returns-in_err-numbers
unfolding entry_of
returns-in_err-numbers c =
    let p = err_from_is_err_and c.from_residual.result c.from_residual.ensures.1 in
    rw (p.1, p.2) (rw (c.in_err-numbers.ensures) refl)

pub returns-in_err-inner : goal.returns-in_err-inner
unfolding entry_of
returns-in_err-inner c =
    let p = err_from_is_err_and c.from_residual-in_err-inner.result c.from_residual-in_err-inner.ensures.1 in
    rw (p.1, p.2) (rw (c.in_ok-numbers.ensures, c.in_err-inner.ensures) refl)

pub returns : goal.returns
unfolding entry_of
returns c =
    let f0 : SFits w32 c.in_ok-numbers.numbers.status = search rules in
    rw (c.in_ok-numbers.ensures, c.in_ok-inner.ensures, c.in_ok-file.ensures, to_z-of_z w32 c.in_ok-numbers.numbers.status f0) refl

pub returns-in_err-file : goal.returns-in_err-file
returns-in_err-file c =
    let p = err_from_is_err_and c.from_residual-in_err-file.result c.from_residual-in_err-file.ensures.1 in
    rw (p.1, p.2) (entry_refused _ _ c.in_err-file.field-0.0 _ c.in_ok-numbers.ensures c.in_ok-inner.ensures c.in_err-file.ensures)
