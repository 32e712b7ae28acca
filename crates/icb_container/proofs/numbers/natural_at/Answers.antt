-- A number that isn't below 0.
use Rattle.std.proofs.Common.{rules, ◌≡◌, length, drop, arith, Err, of_z, to_z, w64, refl}
use Rattle.std.proofs.lemmas.Int.{to_z-of_z}
use Rattle.icb_avro.specs.Reading.{long_at}
use Rattle.icb_container.specs.Blocks.{natural, natural_at}
use Rattle.icb_container.specs.Wrong.{in_file}
use Rattle.icb_container.proofs.Knowledge.{file_size, place_of}
use Rattle.icb_container.proofs.Refused.{refuses_first}
use Rattle.icb_container.proofs.Signs.{natural_below, natural_is}
use Rattle.icb_container.proofs.numbers.natural_at.Goals as goal

pub returns-in_err-number-clause-reads : goal.returns-in_err-number-clause-reads
unfolding natural_at
returns-in_err-number-clause-reads g c = λ known is file fills.
    let e : c.from_residual.result ≡ Err c.in_err-number.field-0.0 = search rules in
    let r = c.in_err-number.ensures.reads known is file fills in
    record { gives = rw e (refuses_first c.in_err-number.field-0.0 (in_file (length file) (long_at (drop c.args.at file))) (natural (length file) (drop c.args.at file)) r.gives); there = rw e tt }

pub returns-then-number-lt0-clause-reads : goal.returns-then-number-lt0-clause-reads
unfolding natural_at
returns-then-number-lt0-clause-reads g c = λ known is file fills.
    let r = c.in_ok-number.ensures.reads known is file fills in
    let n : to_z w64 (of_z w64 c.in_ok-number.number) ≡ c.in_ok-number.number = search (rules, to_z-of_z) in
    let size = file_size known file _ fills (g.met.R.ReadAt.known_size c.args.reader.now known is) in
    let at = place_of file c.args.at (omega (arith, size, c.requires)) in
    let below = natural_below (length file) (drop c.args.at file) (drop c.in_ok-number.place file) c.in_ok-number.number (rw n at c.if-number-lt0.true) in
    record { gives = rw (c.refuse.ensures, r.gives, below, at) refl; there = search rules }

pub returns-clause-reads : goal.returns-clause-reads
unfolding natural_at
returns-clause-reads g c = λ known is file fills.
    let r = c.in_ok-number.ensures.reads known is file fills in
    let n : to_z w64 (of_z w64 c.in_ok-number.number) ≡ c.in_ok-number.number = search (rules, to_z-of_z) in
    let natural = natural_is (length file) (drop c.args.at file) (drop c.in_ok-number.place file) c.in_ok-number.number (rw n at c.if-number-lt0.false) in
    record { gives = rw (n, r.gives, natural) refl; there = r.there }
