use Rattle.std.proofs.Common.{refl}
use Rattle.std.proofs.lemmas.Result.{err_from_is_err_and}
use Rattle.icb_manifest.specs.Maps.{maps_of}
use Rattle.icb_manifest.proofs.RefusedLemmas.{lower_refused, nulls_refused, upper_refused, values_refused}
use Rattle.icb_manifest.proofs.maps.maps_of.Goals as goal

pub returns-in_err-values : goal.returns-in_err-values
returns-in_err-values c =
    let p = err_from_is_err_and c.from_residual.result c.from_residual.ensures.1 in
    let h = rw c.map_ids.ensures at c.in_err-values.ensures in
    rw (p.1, p.2) (values_refused _ c.in_err-values.field-0.0 h)

pub returns-in_err-nulls : goal.returns-in_err-nulls
returns-in_err-nulls c =
    let p = err_from_is_err_and c.from_residual-in_err-nulls.result c.from_residual-in_err-nulls.ensures.1 in
    let e0 = rw c.map_ids.ensures at c.in_ok-values.ensures in
    let h = rw c.map_ids-2.ensures at c.in_err-nulls.ensures in
    rw (p.1, p.2) (nulls_refused _ c.in_err-nulls.field-0.0 _ e0 h)

pub returns-in_err-lower : goal.returns-in_err-lower
returns-in_err-lower c =
    let p = err_from_is_err_and c.from_residual-in_err-lower.result c.from_residual-in_err-lower.ensures.1 in
    let e0 = rw c.map_ids.ensures at c.in_ok-values.ensures in
    let e1 = rw c.map_ids-2.ensures at c.in_ok-nulls.ensures in
    let h = rw c.map_ids-3.ensures at c.in_err-lower.ensures in
    rw (p.1, p.2) (lower_refused _ c.in_err-lower.field-0.0 _ _ e0 e1 h)

pub returns-in_err-upper : goal.returns-in_err-upper
returns-in_err-upper c =
    let p = err_from_is_err_and c.from_residual-in_err-upper.result c.from_residual-in_err-upper.ensures.1 in
    let e0 = rw c.map_ids.ensures at c.in_ok-values.ensures in
    let e1 = rw c.map_ids-2.ensures at c.in_ok-nulls.ensures in
    let e2 = rw c.map_ids-3.ensures at c.in_ok-lower.ensures in
    let h = rw c.map_ids-4.ensures at c.in_err-upper.ensures in
    rw (p.1, p.2) (upper_refused _ c.in_err-upper.field-0.0 _ _ _ e0 e1 e2 h)

pub returns : goal.returns
unfolding maps_of
returns c =
    let e0 = rw c.map_ids.ensures at c.in_ok-values.ensures in
    let e1 = rw c.map_ids-2.ensures at c.in_ok-nulls.ensures in
    let e2 = rw c.map_ids-3.ensures at c.in_ok-lower.ensures in
    let e3 = rw c.map_ids-4.ensures at c.in_ok-upper.ensures in
    rw (e0, e1, e2, e3) refl
