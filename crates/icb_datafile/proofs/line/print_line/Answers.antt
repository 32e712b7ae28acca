use Rattle.std.proofs.Common.{◌∙◌, ◌+◌, ap, sym, map, drop, arith}
use Rattle.icb_types.specs.Data.{seen}
use Rattle.icb_rows.specs.Records.{datum_by_id}
use Rattle.icb_rows.specs.Views.{chosen}
use Rattle.icb_datafile.proofs.DatumLemmas.{line_done, line_is, line_more, line_with, ok_then}
use Rattle.icb_datafile.proofs.line.print_line.Goals as goal

pub loop-position-preserved : goal.loop-position-preserved
loop-position-preserved c = λ columns fs vs inside all.
    let more = line_more columns fs vs c.args.positions.now c.loop-position.position-index 0 c.loop-position.line (seen c.datum-datum.result) (omega (arith, c.loop-position-test.true)) all
    (λ col e. c.datum-datum.ensures columns fs inside.is_projection vs inside.is_record col e) in
    ap (λ line. line_with line (map (λ k. datum_by_id k fs vs) (chosen columns (drop (c.loop-position.position-index + 1) c.args.positions.now)))) c.in_ok-row_datum.ensures.ok
    ∙ sym more ∙ c.loop-position.invariant columns fs vs inside all

pub returns : goal.returns
returns c =
    ok_then c.row_end.result _ _ (λ is columns fs vs inside own all. is
    ∙ line_is columns fs vs c.args.positions.now c.loop-position.line own all
    (line_done columns fs vs c.args.positions.now c.loop-position.position-index c.loop-position.line _ (omega (arith, c.loop-position-test.false)) (c.loop-position.invariant columns fs vs inside all)))
    c.row_end.ensures.ok
