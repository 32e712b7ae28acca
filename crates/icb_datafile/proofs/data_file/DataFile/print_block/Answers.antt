use Rattle.std.proofs.Common.{rules, ◌≡◌, ◌+◌, ◌≤◌, List, ℕ, [], length, Err, ap, subst, refl, arith}
use Rattle.std.proofs.lemmas.Result.{err_from_is_err_and}
use Rattle.icb_schema.specs.Nodes.{tree_of}
use Rattle.icb_container.specs.Opened.{state_of}
use Rattle.icb_rows.specs.Records.{file_fields}
use Rattle.icb_datafile.specs.declared.plan.Plan.{Plan}
use Rattle.icb_datafile.specs.Answers.{StopsAt}
use Rattle.icb_datafile.specs.Plans.{IsPlanOf, emptied}
use Rattle.icb_datafile.proofs.BlockLemmas.{PassesTo, block_ends_so, block_goes_on, block_refused, left_ends, rows_at, stands_behind}
use Rattle.icb_datafile.proofs.ChoosingLemmas.{none_passed}
use Rattle.icb_datafile.proofs.data_file.DataFile.print_block.Goals as goal

-- a plan with this text
with_text : Plan → List ℕ → Plan
with_text p text = record {
  columns = p.columns;
  range = p.range;
  skip = p.skip;
  most = p.most;
  shown = p.shown;
  line = p.line;
  text = text;
}

pub returns-in_err-block-clause-prints : goal.returns-in_err-block-clause-prints
returns-in_err-block-clause-prints g c = λ known is file fills columns f stands plan.
    let p = err_from_is_err_and c.from_residual.result c.from_residual.ensures.1 in
    let r = c.in_err-block.ensures.reads known is file fills in
    let within : c.args.self.now.container.block ≤ length file = omega (arith, stands.within, stands.passed) in
    rw (p.1, p.2) (block_refused columns f (emptied c.args.plan.now) _ (state_of c.args.self.now.container) file c.in_err-block.field-0.0 within r.gives
    (record { same_columns = refl; same_range = refl }) (record { same_skip = refl; same_most = refl; same_shown = refl; same_text = c.truncate.ensures }) c.requires)

pub returns-in_default-clause-prints : goal.returns-in_default-clause-prints
returns-in_default-clause-prints g c = λ known is file fills columns f stands plan.
    let r = rw c.in_default.is at (c.in_ok-block.ensures.reads known is file fills) in
    let within : c.args.self.now.container.block ≤ length file = omega (arith, stands.within, stands.passed) in (
      left_ends columns f (state_of c.args.self.now.container) (state_of c.next_block.new.self) file within r.gives,
      none_passed columns (emptied c.args.plan.now) _ [] (record { same_columns = refl; same_range = refl })
          (record { same_skip = refl; same_most = refl; same_shown = refl; same_text = c.truncate.ensures }),
    )

pub returns-in_err-print_rows-clause-prints : goal.returns-in_err-print_rows-clause-prints
unfolding with_text
returns-in_err-print_rows-clause-prints g c = λ known is file fills columns f stands plan.
    let e : c.from_residual-in_err-print_rows.result ≡ Err c.in_err-print_rows.field-0.0 = search rules in
    let r = rw c.in-Some.is at (c.in_ok-block.ensures.reads known is file fills) in
    let within : c.args.self.now.container.block ≤ length file = omega (arith, stands.within, stands.passed) in
    let schema = ap tree_of c.in_ok-block.ensures.stays.same_schema in
    let fs = file_fields (tree_of c.args.self.now.container.schema) in
    let plan1 : IsPlanOf columns (with_text c.args.plan.now c.truncate.new.self) = record { own_ids = plan.own_ids; shown = plan.shown; range_in = plan.range_in } in
    let h = c.in_err-print_rows.ensures.prints columns fs f stands.is_projection plan1 in
    let g = subst (λ (t : List ℕ). StopsAt columns f (with_text c.args.plan.now t) c.print_rows.new.plan
    (rows_at columns f fs (c.in-Some.block.place + length c.in-Some.block.bytes) c.in-Some.block.count c.in-Some.block.bytes) c.in_err-print_rows.field-0.0) c.truncate.ensures h in
    rw e (block_ends_so columns f (emptied c.args.plan.now) c.print_rows.new.plan (state_of c.args.self.now.container) (state_of c.next_block.new.self) file c.in-Some.block r.gives.0
    c.in_err-print_rows.field-0.0 within stands.within r.gives.1 schema r.gives.2 g)

pub returns-clause-prints : goal.returns-clause-prints
unfolding with_text
returns-clause-prints g c = λ known is file fills columns f stands plan.
    let r = rw c.in-Some.is at (c.in_ok-block.ensures.reads known is file fills) in
    let within : c.args.self.now.container.block ≤ length file = omega (arith, stands.within, stands.passed) in
    let schema = ap tree_of c.in_ok-block.ensures.stays.same_schema in
    let fs = file_fields (tree_of c.args.self.now.container.schema) in
    let plan1 : IsPlanOf columns (with_text c.args.plan.now c.truncate.new.self) = record { own_ids = plan.own_ids; shown = plan.shown; range_in = plan.range_in } in
    let h = c.in_ok-print_rows.ensures.prints columns fs f stands.is_projection plan1 in
    let passes = subst (λ (t : List ℕ). PassesTo columns (with_text c.args.plan.now t) c.print_rows.new.plan
    (rows_at columns f fs (c.in-Some.block.place + length c.in-Some.block.bytes) c.in-Some.block.count c.in-Some.block.bytes)) c.truncate.ensures h in
    let on = block_goes_on columns f (emptied c.args.plan.now) c.print_rows.new.plan (state_of c.args.self.now.container) (state_of c.next_block.new.self) file c.in-Some.block r.gives.0
    within stands.within r.gives.1 schema r.gives.2 passes in
    record {
      left = on.left;
      passes = on.passes;
      ends = on.ends;
      stands = stands_behind columns c.args.self.now _ file r.gives.0 stands refl c.in_ok-block.ensures.stays.same_schema r.gives.1;
    }
