-- The map of properties, block by block.
use Rattle.std.proofs.Common.{rules, ◌≡◌, ◌≤◌, None, true, drop, arith, Err, pos, refl}
use Rattle.std.proofs.lemmas.Int.{to_z-of_z}
use Rattle.icb_avro.specs.Reading.{is_zero}
use Rattle.icb_container.proofs.HeaderParts.{map_block_refuses, map_count_refuses, map_read, more_blocks_read, no_block_read}
use Rattle.icb_container.proofs.Knowledge.{file_size, known_none, known_through}
use Rattle.icb_container.proofs.Reading.{reads_at_rest, reads_twice}
use Rattle.icb_container.proofs.Signs.{not_zero}
use Rattle.icb_container.proofs.opening.map_at.Goals as goal

pub loop-found-init : goal.loop-found-init
loop-found-init g c =
    let law = g.met.R.ReadAt in
    record {
      behind = omega arith;
      inside = omega (arith, c.requires);
      read = λ known is file fills. record { read = no_block_read file c.args.at c.new-found.result c.new-found.ensures; there = known_none known c.args.at };
      reader = reads_at_rest g.R.ReadAt c.args.reader.now (law.kept_at_rest _) (law.calm_at_rest _);
    }

pub returns-in_err-count-clause-reads : goal.returns-in_err-count-clause-reads
returns-in_err-count-clause-reads g c = λ known is file fills.
    let e : c.from_residual.result ≡ Err c.in_err-count.field-0.0 = search rules in
    let kept = c.loop-found.invariant in
    let reading = kept.read known is file fills in
    let r = c.in_err-count.ensures.reads known (kept.reader.same known is) file fills in
    record { gives = rw e (map_count_refuses file c.args.at c.loop-found.place c.loop-found.found c.in_err-count.field-0.0 reading.read r.gives); there = rw e tt }

pub returns-then-count-eq0-clause-reads : goal.returns-then-count-eq0-clause-reads
returns-then-count-eq0-clause-reads g c = λ known is file fills.
    let kept = c.loop-found.invariant in
    let reading = kept.read known is file fills in
    let r = c.in_ok-count.ensures.reads known (kept.reader.same known is) file fills in
    let zero : c.in_ok-count.count.0 ≡ pos 0 = search (rules, to_z-of_z) in
    let none : is_zero c.in_ok-count.count.0 ≡ true = rw zero refl in
    record {
      gives = map_read file c.args.at c.loop-found.place c.in_ok-count.count.1 c.in_ok-count.count.0 c.loop-found.found reading.read r.gives none;
      there = known_through known c.args.at c.loop-found.place c.in_ok-count.count.1 reading.there r.there;
    }

pub returns-in_err-place-clause-reads : goal.returns-in_err-place-clause-reads
returns-in_err-place-clause-reads g c = λ known is file fills.
    let e : c.from_residual-in_err-place.result ≡ Err c.in_err-place.field-0.0 = search rules in
    let kept = c.loop-found.invariant in
    let reading = kept.read known is file fills in
    let mid = kept.reader.same known is in
    let r = c.in_ok-count.ensures.reads known mid file fills in
    let b = c.in_err-place.ensures.reads known (c.in_ok-count.ensures.reader.same known mid) file fills in
    let other : c.in_ok-count.count.0 ≡ pos 0 → ⊥ = search (rules, to_z-of_z) in
    let more = not_zero c.in_ok-count.count.0 other in
    record {
      gives = rw e (map_block_refuses file c.args.at c.loop-found.place (drop c.in_ok-count.count.1 file) c.in_ok-count.count.0 c.loop-found.found c.in_err-place.field-0.0 reading.read r.gives more b.adds);
      there = rw e tt;
    }

pub returns-in_err-place-clause-reader : goal.returns-in_err-place-clause-reader
returns-in_err-place-clause-reader g c =
    let law = g.met.R.ReadAt in
    let e : c.from_residual-in_err-place.result ≡ Err c.in_err-place.field-0.0 = search rules in
    let two = reads_twice g.R.ReadAt None c.args.reader.now c.loop-found.reader c.number_at.new.reader (law.kept_twice _ _ _) (law.calm_twice _ _ _) (λ f. law.blamed_since _ _ _ f) c.loop-found.invariant.reader c.in_ok-count.ensures.reader in
    rw e (reads_twice g.R.ReadAt _ c.args.reader.now c.number_at.new.reader c.block_at.new.reader (law.kept_twice _ _ _) (law.calm_twice _ _ _) (λ f. law.blamed_since _ _ _ f) two c.in_err-place.ensures.reader)

pub loop-found-preserved : goal.loop-found-preserved
loop-found-preserved g c =
    let law = g.met.R.ReadAt in
    let kept = c.loop-found.invariant in
    let w = c.in_ok-count.ensures.within in
    let v = c.in_ok-place.ensures.within in
    let next : c.in_ok-place.place ≤ g.R.ReadAt.size c.args.reader.now = omega (arith, v.1, kept.reader.same_size, c.in_ok-count.ensures.reader.same_size) in
    let two = reads_twice g.R.ReadAt None c.args.reader.now c.loop-found.reader c.number_at.new.reader (law.kept_twice _ _ _) (law.calm_twice _ _ _) (λ f. law.blamed_since _ _ _ f) kept.reader c.in_ok-count.ensures.reader in
    record {
      behind = omega (arith, kept.behind, w.0, v.0);
      inside = next;
      read = λ known is file fills.
          let size = file_size known file _ fills (law.known_size c.args.reader.now known is) in
          let reading = kept.read known is file fills in
          let mid = kept.reader.same known is in
          let r = c.in_ok-count.ensures.reads known mid file fills in
          let b = c.in_ok-place.ensures.reads known (c.in_ok-count.ensures.reader.same known mid) file fills in
          let other : c.in_ok-count.count.0 ≡ pos 0 → ⊥ = search (rules, to_z-of_z) in
          let more = not_zero c.in_ok-count.count.0 other in
          let counted = known_through known c.args.at c.loop-found.place c.in_ok-count.count.1 reading.there r.there in
          record {
            read = more_blocks_read file c.args.at c.loop-found.place c.in_ok-place.place (drop c.in_ok-count.count.1 file) c.in_ok-count.count.0 c.loop-found.found c.block_at.new.found
                (omega (arith, w.0, v.0)) (omega (arith, next, size)) reading.read r.gives more b.adds;
            there = known_through known c.args.at c.in_ok-count.count.1 c.in_ok-place.place counted b.there;
          };
      reader = reads_twice g.R.ReadAt None c.args.reader.now c.number_at.new.reader c.block_at.new.reader (law.kept_twice _ _ _) (law.calm_twice _ _ _) (λ f. law.blamed_since _ _ _ f) two c.in_ok-place.ensures.reader;
    }
