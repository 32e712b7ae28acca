-- A number of the header.
use Rattle.std.proofs.Common.{rules, ◌≡◌, arith, Err, of_z, to_z, w64}
use Rattle.std.proofs.lemmas.Int.{to_z-of_z}
use Rattle.icb_container.proofs.HeaderItems.{number_is, number_is_beyond, number_refuses}
use Rattle.icb_container.proofs.Knowledge.{file_size}
use Rattle.icb_container.proofs.opening.number_at.Goals as goal

pub returns-in_err-number-clause-reads : goal.returns-in_err-number-clause-reads
returns-in_err-number-clause-reads g c = λ known is file fills.
    let e : c.from_residual.result ≡ Err c.in_err-number.field-0.0 = search rules in
    let r = c.in_err-number.ensures.reads known is file fills in
    record { gives = rw e (number_refuses file c.args.at c.in_err-number.field-0.0 r.gives); there = rw e tt }

pub returns-in_err-check_limit-clause-reads : goal.returns-in_err-check_limit-clause-reads
returns-in_err-check_limit-clause-reads g c = λ known is file fills.
    let e : c.from_residual-in_err-check_limit.result ≡ Err c.in_err-check_limit.field-0.0 = search rules in
    let size = file_size known file _ fills (g.met.R.ReadAt.known_size c.args.reader.now known is) in
    let r = c.in_ok-number.ensures.reads known is file fills in
    let w = c.in_ok-number.ensures.within in
    let beyond = c.in_err-check_limit.ensures.gives file (omega (arith, size, c.requires)) in
    record {
      gives = rw e (number_is_beyond file c.args.at c.in_ok-number.place c.in_ok-number.number c.in_err-check_limit.field-0.0 (omega (arith, w.0)) (omega (arith, size, w.1)) r.gives beyond);
      there = rw e tt;
    }

pub returns-clause-reads : goal.returns-clause-reads
returns-clause-reads g c = λ known is file fills.
    let size = file_size known file _ fills (g.met.R.ReadAt.known_size c.args.reader.now known is) in
    let r = c.in_ok-number.ensures.reads known is file fills in
    let w = c.in_ok-number.ensures.within in
    let n : to_z w64 (of_z w64 c.in_ok-number.number) ≡ c.in_ok-number.number = search (rules, to_z-of_z) in
    let limit = c.in_ok-check_limit.ensures.gives file (omega (arith, size, c.requires)) in
    record {
      gives = rw n (number_is file c.args.at c.in_ok-number.place c.in_ok-number.number (omega (arith, w.0)) (omega (arith, size, w.1)) r.gives limit);
      there = r.there;
    }
