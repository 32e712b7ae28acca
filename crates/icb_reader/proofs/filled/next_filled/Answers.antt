use Rattle.std.proofs.Common.{rules, ◌≡◌, ◌≤◌, ◌<◌, None, Err, length, arith, ◌∙◌}
use Rattle.icb_container.specs.Opened.{state_of}
use Rattle.icb_container.proofs.Knowledge.{file_size, known_through}
use Rattle.icb_container.proofs.Reading.{reads_twice}
use Rattle.icb_reader.proofs.FilledLemmas.{filled_empty, filled_none, filled_refused, filled_some}
use Rattle.icb_reader.proofs.Passing.{passed_more}
use Rattle.icb_reader.proofs.filled.next_filled.Goals as goal

pub returns-in_err-block-clause-finds : goal.returns-in_err-block-clause-finds
returns-in_err-block-clause-finds g c = λ known is file fills.
    let e : c.from_residual.result ≡ Err c.in_err-block.field-0.0 = search rules in
    let kept = c.loop-block.invariant in
    let p = kept.passed known is file fills in
    let r = c.in_err-block.ensures.reads known (kept.reader.same known is) file fills in
    record { gives = rw (e, p.same) (filled_refused (state_of c.loop-block.container) file c.in_err-block.field-0.0 r.gives); there = rw e tt }

pub returns-in_default-clause-finds : goal.returns-in_default-clause-finds
returns-in_default-clause-finds g c = λ known is file fills.
    let kept = c.loop-block.invariant in
    let p = kept.passed known is file fills in
    let r = rw c.in_default.is at (c.in_ok-block.ensures.reads known (kept.reader.same known is) file fills) in
    record {
      gives = p.same ∙ filled_none (state_of c.loop-block.container) (state_of c.next_block.new.self) file r.gives;
      there = known_through known c.args.container.now.place c.loop-block.container.place c.next_block.new.self.place p.there r.there;
    }

pub returns-then-block-gt0-clause-finds : goal.returns-then-block-gt0-clause-finds
returns-then-block-gt0-clause-finds g c = λ known is file fills.
    let kept = c.loop-block.invariant in
    let p = kept.passed known is file fills in
    let r = rw c.in-Some.is at (c.in_ok-block.ensures.reads known (kept.reader.same known is) file fills) in
    let some : 0 < r.gives.0.count = omega (arith, c.if-block-gt0.true, r.gives.2.same_count) in
    record {
      gives = (r.gives.0, p.same ∙ filled_some (state_of c.loop-block.container) (state_of c.next_block.new.self) file r.gives.0 r.gives.1 some, r.gives.2);
      there = known_through known c.args.container.now.place c.loop-block.container.place c.next_block.new.self.place p.there r.there;
    }

pub loop-block-preserved : goal.loop-block-preserved
loop-block-preserved g c =
    let law = g.met.R.ReadAt in
    let kept = c.loop-block.invariant in
    let ends = rw c.in-Some.is at c.in_ok-block.ensures.ends in
    record {
      counted = omega (arith, kept.counted, ends.behind, ends.ends, ends.one_more);
      passed = λ known is file fills.
          let p = kept.passed known is file fills in
          let r = rw c.in-Some.is at (c.in_ok-block.ensures.reads known (kept.reader.same known is) file fills) in
          let size = file_size known file _ fills (law.known_size c.args.reader.now known is) in
          let none : r.gives.0.count ≡ 0 = omega (arith, c.if-block-gt0.false, r.gives.2.same_count) in
          let within : c.loop-block.container.block ≤ length file = omega (arith, kept.counted, ends.behind, ends.ends, ends.in_file, kept.reader.same_size, size) in
          passed_more c.args.container.now c.loop-block.container c.next_block.new.self known file p
          (filled_empty (state_of c.loop-block.container) (state_of c.next_block.new.self) file r.gives.0 r.gives.1 none ends.one_more within) r.there;
      header = record {
        same_schema = c.in_ok-block.ensures.stays.same_schema ∙ kept.header.same_schema;
        same_marker = c.in_ok-block.ensures.stays.same_marker ∙ kept.header.same_marker;
      };
      reader = reads_twice g.R.ReadAt None c.args.reader.now c.loop-block.reader c.next_block.new.reader (law.kept_twice _ _ _) (law.calm_twice _ _ _) (λ f. law.blamed_since _ _ _ f) kept.reader c.in_ok-block.ensures.reader;
    }
