use Rattle.std.proofs.Common.{◌≡◌, ◌+◌, Global, Vec, sym, ◌∙◌, arith, length}
use Rattle.std.proofs.lemmas.Grind.{common_steps}
use Rattle.icb_types.specs.declared.datum.Datum.{Datum}
use Rattle.icb_append.specs.Lines.{lines_of, rows_of_input}
use Rattle.icb_append.proofs.LineLemmas.{all_read, refused_reads, row_more, row_refused, rows_fit}
use Rattle.icb_append.proofs.lines.read_rows.Goals as goal

pub returns-in-Err-clause-reads : goal.returns-in-Err-clause-reads
returns-in-Err-clause-reads c =
    refused_reads (λ (row : Vec Datum Global). row.items) c.in-Err.fault _ (rows_of_input c.args.schema.now.columns c.args.input.now) c.in-Err.ensures
    (λ x found. sym c.loop-rest.invariant.same
    ∙ row_refused (c.loop-rest.number + 1) c.args.schema.now.columns c.loop-rest.rest.now c.first_line.result.0.now c.first_line.result.1.now c.loop-rest.rows x c.first_line.ensures.lines found)

pub loop-rest-preserved : goal.loop-rest-preserved
loop-rest-preserved c =
    let next = row_more (c.loop-rest.number + 1) (c.loop-rest.number + 1 + 1) c.args.schema.now.columns c.loop-rest.rest.now c.first_line.result.0.now c.first_line.result.1.now c.loop-rest.rows c.in-Ok.row.items
    (omega arith) c.first_line.ensures.lines c.in-Ok.ensures in
    record {
      same = rw c.in_ok-push-in-Ok.ensures.ok (sym next ∙ c.loop-rest.invariant.same);
      few = omega (arith, c.first_line.ensures.shorter, c.loop-rest.invariant.few);
    }

pub returns-clause-reads : goal.returns-clause-reads
returns-clause-reads c =
    let none : length c.loop-rest.rest.now ≡ 0 = grind (arith, common_steps) in
    all_read (c.loop-rest.number + 1) c.args.schema.now.columns c.loop-rest.rows c.loop-rest.rest.now (rows_of_input c.args.schema.now.columns c.args.input.now) none c.loop-rest.invariant.same

pub returns-clause-fit : goal.returns-clause-fit
returns-clause-fit c =
    let none : length c.loop-rest.rest.now ≡ 0 = grind (arith, common_steps) in
    let read = all_read (c.loop-rest.number + 1) c.args.schema.now.columns c.loop-rest.rows c.loop-rest.rest.now (rows_of_input c.args.schema.now.columns c.args.input.now) none c.loop-rest.invariant.same in
    rows_fit 1 c.args.schema.now.columns (lines_of c.args.input.now) c.loop-rest.rows read
