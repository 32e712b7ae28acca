-- The pieces follow one another to the end of the input, or past the limit.
use Rattle.std.proofs.Common.{◌≡◌, ◌∙◌, ap, Ok, Err, arith, refl, rules}
use Rattle.icb_run.proofs.ToldLemmas.{where_told}
use Rattle.icb_run.proofs.InputLemmas.{begins, ends_all, faulty, goes_on, items_within, items_pass, too_long}
use Rattle.icb_run.proofs.input.read_to_end.Goals as goal

pub loop-input-init : goal.loop-input-init
loop-input-init g c = record {
  whole = begins (g.I.Source.left c.args.input.now) c.new-bytes.result.items c.new-bytes.ensures.items;
  short = omega arith;
  count = refl;
}

pub loop-input-preserved : goal.loop-input-preserved
loop-input-preserved g c = record {
  whole = goes_on (g.I.Source.left c.args.input.now) (g.I.Source.left c.loop-input.input)
      (g.I.Source.left c.read_piece.new.input) c.loop-input.bytes.items c.read_piece.new.bytes.items
      c.loop-input.invariant.whole c.in-Ok.ensures.splits;
  short = omega (arith, c.loop-input-test.true, c.in-Ok.ensures.grows.0, c.in-Ok.ensures.grows.1);
  count = c.read_piece.ensures.count.stays (search rules) ∙ c.loop-input.invariant.count;
}

pub returns-in-Err-clause-read : goal.returns-in-Err-clause-read
returns-in-Err-clause-read g c =
    faulty (g.I.Source.left c.args.input.now) (g.I.Source.left c.read_piece.new.input) c.args.limit c.in-Err.fault
    (λ e. c.read_piece.ensures.no_limit (c.in-Err.is ∙ ap Err e))

pub returns-in-Ok-eq0-clause-read : goal.returns-in-Ok-eq0-clause-read
returns-in-Ok-eq0-clause-read g c =
    let none : c.read_piece.result ≡ Ok 0 = c.in-Ok-eq0.is ∙ ap Ok c.in-Ok-eq0.field-0-test in
    rw c.from_vec.ensures
    (ends_all (g.I.Source.left c.args.input.now) (g.I.Source.left c.loop-input.input)
    (g.I.Source.left c.read_piece.new.input) c.loop-input.bytes.items c.read_piece.new.bytes.items c.args.limit
    c.loop-input.invariant.whole
    (where_told (g.I.Source.left c.loop-input.input) (λ rest ends. ends none) c.read_piece.ensures.ends)
    (c.read_piece.ensures.kept none)
    (items_within c.loop-input.bytes c.args.limit (rw c.len.ensures at c.loop-input-test.true)))

pub returns-clause-read : goal.returns-clause-read
returns-clause-read g c =
    too_long (g.I.Source.left c.args.input.now) (g.I.Source.left c.loop-input.input)
    c.loop-input.bytes.items c.args.limit c.loop-input.invariant.whole
    (items_pass c.loop-input.bytes c.args.limit (rw c.len.ensures at c.loop-input-test.false)
    c.loop-input.invariant.short)
