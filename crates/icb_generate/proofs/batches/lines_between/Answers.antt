-- One more row is one more line.
use Rattle.std.proofs.Common.{◌≡◌, ◌∙◌, ◌-◌, ap, rules, arith}
use Rattle.std.specs.List.{flat_map, range_with_len}
use Rattle.icb_types.specs.Lines.{row_line}
use Rattle.icb_generate.specs.Rows.{row_of}
use Rattle.icb_generate.proofs.BatchLemmas.{lines_more}
use Rattle.icb_generate.proofs.batches.lines_between.Goals as goal

pub loop-number-preserved : goal.loop-number-preserved
loop-number-preserved c =
    (c.in_ok-extend_from_slice.ensures.ok)
    ∙ lines_more c.args.seed c.args.first c.loop-number.number c.loop-number.lines c.as_slice.result.now
    c.loop-number.auto.number c.loop-number.invariant (search rules)

pub returns : goal.returns
returns c =
    let all : c.loop-number.number - c.args.first ≡ c.args.last - c.args.first = omega (arith, c.loop-number-test.false, c.loop-number.auto.number-end c.requires) in
    c.loop-number.invariant ∙ ap (λ n. flat_map (λ i. row_line (row_of c.args.seed i)) (range_with_len c.args.first n)) all
