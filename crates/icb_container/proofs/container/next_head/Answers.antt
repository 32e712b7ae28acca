-- What stands in front of the next block.
use Rattle.std.proofs.Common.{rules, ◌≡◌, length, drop, arith, Err, Ok, Some, refl, sym, ◌∙◌}
use Rattle.icb_container.specs.Blocks.{head_at}
use Rattle.icb_container.proofs.Heads.{next_at_end, next_beyond, next_inside}
use Rattle.icb_container.proofs.Knowledge.{file_size}
use Rattle.icb_container.proofs.Refused.{refuses_first}
use Rattle.icb_container.proofs.container.next_head.Goals as goal

pub returns-then-at-length-clause-reads : goal.returns-then-at-length-clause-reads
returns-then-at-length-clause-reads g c = λ known is file fills.
    let size = file_size known file _ fills (g.met.R.ReadAt.known_size c.args.reader.now known is) in
    record { gives = next_at_end c.args.at file (c.if-at-length.true ∙ c.length-length.ensures ∙ sym size); there = search rules }

pub returns-then-at-length-2-clause-reads : goal.returns-then-at-length-2-clause-reads
returns-then-at-length-2-clause-reads g c = λ known is file fills.
    let size = file_size known file _ fills (g.met.R.ReadAt.known_size c.args.reader.now known is) in
    let bytes : length file ≡ c.length-length.result = size ∙ sym c.length-length.ensures in
    let r = next_beyond c.args.at file (omega (arith, bytes, c.if-at-length-2.true)) in
    record { gives = rw (c.refuse.ensures, r, bytes) refl; there = search rules }

pub returns-in_err-head-clause-reads : goal.returns-in_err-head-clause-reads
returns-in_err-head-clause-reads g c = λ known is file fills.
    let size = file_size known file _ fills (g.met.R.ReadAt.known_size c.args.reader.now known is) in
    let e : c.from_residual.result ≡ Err c.in_err-head.field-0.0 = search rules in
    let r = c.in_err-head.ensures.reads known is file fills in
    let inside = next_inside c.args.at file (λ f. c.if-at-length.false (f ∙ size ∙ sym c.length-length.ensures)) in
    record { gives = rw (e, inside) (refuses_first c.in_err-head.field-0.0 (head_at (length file) (drop c.args.at file)) (λ head. Ok (Some head)) r.gives); there = rw e tt }

pub returns-clause-reads : goal.returns-clause-reads
returns-clause-reads g c = λ known is file fills.
    let size = file_size known file _ fills (g.met.R.ReadAt.known_size c.args.reader.now known is) in
    let r = c.in_ok-head.ensures.reads known is file fills in
    let inside = next_inside c.args.at file (λ f. c.if-at-length.false (f ∙ size ∙ sym c.length-length.ensures)) in
    record { gives = rw (inside, r.gives) refl; there = r.there }
