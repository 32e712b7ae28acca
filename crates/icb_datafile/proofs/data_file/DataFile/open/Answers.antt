use Rattle.std.proofs.Common.{rules, ◌≡◌, Err, ap, subst, arith}
use Rattle.std.proofs.lemmas.Result.{err_from_is_err_and}
use Rattle.icb_schema.specs.Nodes.{tree_of}
use Rattle.icb_container.specs.Opened.{state_of}
use Rattle.icb_rows.specs.Records.{file_fields}
use Rattle.icb_rows.specs.Views.{IsProjection}
use Rattle.icb_datafile.proofs.OpeningLemmas.{not_found, not_opened, opened_is, stands_within}
use Rattle.icb_datafile.proofs.data_file.DataFile.open.Goals as goal

pub returns-in_err-container-clause-opens : goal.returns-in_err-container-clause-opens
returns-in_err-container-clause-opens g c = λ known is file fills f.
    let p = err_from_is_err_and c.from_residual.result c.from_residual.ensures.1 in
    let r = c.in_err-container.ensures.opens known is file fills in
    rw (p.1, p.2) (not_opened c.args.schema.now.columns f file c.in_err-container.field-0.0 r.gives)

pub returns-in_err-projection-clause-opens : goal.returns-in_err-projection-clause-opens
returns-in_err-projection-clause-opens g c = λ known is file fills f.
    let e : c.from_residual-in_err-projection.result ≡ Err c.in_err-projection.field-0.0 = search rules in
    let r = c.in_ok-container.ensures.opens known is file fills in
    let schema = ap (λ n. file_fields (tree_of n)) c.schema.ensures in
    rw e (not_found c.args.schema.now.columns f file (state_of c.in_ok-container.container) _ c.in_err-projection.field-0.0 r.gives schema c.in_err-projection.ensures.finds)

pub returns-clause-opens : goal.returns-clause-opens
returns-clause-opens g c = λ known is file fills f.
    let r = c.in_ok-container.ensures.opens known is file fills in
    let schema = ap (λ n. file_fields (tree_of n)) c.schema.ensures in
    let projection = subst (λ fs. IsProjection c.in_ok-projection.projection c.args.schema.now.columns fs) schema c.in_ok-projection.ensures.finds in
    let within = stands_within file (state_of c.in_ok-container.container) r.gives in (
      record { is_projection = projection; within = within.0; passed = omega (arith, within.1) },
      opened_is c.args.schema.now.columns f file (state_of c.in_ok-container.container) r.gives projection.fit,
    )
