-- Properties of the header, one by one.
use Rattle.std.proofs.Common.{rules, ◌≡◌, ◌+◌, ◌-◌, suc, None, arith, Err}
use Rattle.icb_container.proofs.HeaderParts.{more_properties_read, properties_read, properties_refuse}
use Rattle.icb_container.proofs.Knowledge.{known_through}
use Rattle.icb_container.proofs.Reading.{reads_twice}
use Rattle.icb_container.proofs.opening.properties_at.Goals as goal

pub returns-in_err-place-clause-reads : goal.returns-in_err-place-clause-reads
returns-in_err-place-clause-reads g c = λ known is file fills.
    let e : c.from_residual.result ≡ Err c.in_err-place.field-0.0 = search rules in
    let kept = c.loop-done.invariant in
    let reading = kept.read known is file fills in
    let r = c.in_err-place.ensures.reads known (kept.reader.same known is) file fills in
    let refused = properties_refuse file c.args.count (c.args.count - c.loop-done.done) c.args.at c.loop-done.place c.args.found.now c.loop-done.found c.in_err-place.field-0.0
    (omega (arith, c.loop-done-test.true)) reading.read r.adds in
    record { adds = rw e refused; there = rw e tt }

pub loop-done-preserved : goal.loop-done-preserved
loop-done-preserved g c =
    let law = g.met.R.ReadAt in
    let kept = c.loop-done.invariant in
    let w = c.in_ok-place.ensures.within in
    let left : c.args.count - c.loop-done.done ≡ suc (c.args.count - (c.loop-done.done + 1)) = omega (arith, c.loop-done-test.true) in
    record {
      behind = omega (arith, kept.behind, w.0);
      inside = omega (arith, w.1, kept.reader.same_size);
      read = λ known is file fills.
          let reading = kept.read known is file fills in
          let r = c.in_ok-place.ensures.reads known (kept.reader.same known is) file fills in
          record {
            read = more_properties_read file c.args.count (c.args.count - c.loop-done.done) (c.args.count - (c.loop-done.done + 1)) c.args.at c.loop-done.place c.in_ok-place.place
                c.args.found.now c.loop-done.found c.property_at.new.found left reading.read r.adds;
            there = known_through known c.args.at c.loop-done.place c.in_ok-place.place reading.there r.there;
          };
      reader = reads_twice g.R.ReadAt None c.args.reader.now c.loop-done.reader c.property_at.new.reader (law.kept_twice _ _ _) (law.calm_twice _ _ _) (λ f. law.blamed_since _ _ _ f) kept.reader c.in_ok-place.ensures.reader;
    }

pub returns-clause-reads : goal.returns-clause-reads
returns-clause-reads g c = λ known is file fills.
    let reading = c.loop-done.invariant.read known is file fills in
    record {
      adds = properties_read file c.args.count (c.args.count - c.loop-done.done) c.args.at c.loop-done.place c.args.found.now c.loop-done.found (omega (arith, c.loop-done-test.false)) reading.read;
      there = reading.there;
    }
