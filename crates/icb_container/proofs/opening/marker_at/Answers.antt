-- The marker of the header.
use Rattle.std.proofs.Common.{rules, ◌≡◌, ◌≤◌, ◌<◌, ◌+◌, ◌-◌, length, drop, arith, Err}
use Rattle.icb_container.specs.Header.{marker_at}
use Rattle.icb_container.proofs.HeaderItems.{marker_beyond, marker_ends, marker_is_there}
use Rattle.icb_container.proofs.Knowledge.{file_size, known_part}
use Rattle.icb_container.proofs.Refused.{of_reader}
use Rattle.icb_container.proofs.opening.marker_at.Goals as goal

pub returns-in_err-check_limit-clause-reads : goal.returns-in_err-check_limit-clause-reads
returns-in_err-check_limit-clause-reads g c = λ known is file fills.
    let e : c.from_residual.result ≡ Err c.in_err-check_limit.field-0.0 = search rules in
    let size = file_size known file _ fills (g.met.R.ReadAt.known_size c.args.reader.now known is) in
    let h : c.args.at ≤ length file = omega (arith, size, c.requires.within) in
    record { gives = rw e (marker_beyond file c.args.at c.in_err-check_limit.field-0.0 h (c.in_err-check_limit.ensures.gives file h)); there = rw e tt }

pub returns-then-length-at-lt16-clause-reads : goal.returns-then-length-at-lt16-clause-reads
returns-then-length-at-lt16-clause-reads g c = λ known is file fills.
    let size = file_size known file _ fills (g.met.R.ReadAt.known_size c.args.reader.now known is) in
    let h : c.args.at ≤ length file = omega (arith, size, c.requires.within) in
    let short : length file - c.args.at < 16 = omega (arith, size, c.length.ensures, c.if-length-at-lt16.true) in
    let ends = marker_ends file c.args.at h (c.in_ok-check_limit.ensures.gives file h) short in
    record { gives = rw c.refuse.ensures ends; there = search rules }

pub returns-in_err-read-clause-reads : goal.returns-in_err-read-clause-reads
returns-in_err-read-clause-reads g c = λ known is file fills.
    let e : c.from_residual-in_err-read.result ≡ Err c.in_err-read.field-0.0 = search rules in
    record { gives = rw e (of_reader c.in_err-read.field-0.0 (marker_at (length file) (drop c.args.at file)) c.in_err-read.ensures.refused); there = rw e tt }

pub returns-clause-reads : goal.returns-clause-reads
returns-clause-reads g c = λ known is file fills.
    let size = file_size known file _ fills (g.met.R.ReadAt.known_size c.args.reader.now known is) in
    let h : c.args.at ≤ length file = omega (arith, size, c.requires.within) in
    let inside : c.args.at + 16 ≤ length file = omega (arith, size, c.length.ensures, c.if-length-at-lt16.false, c.requires.within) in
    let count : length c.read.new.out ≡ 16 = search rules in
    let has = c.in_ok-read.ensures.bytes known is in
    record {
      gives = marker_is_there known file c.read.new.out c.args.at fills has count inside (c.in_ok-check_limit.ensures.gives file h);
      there = known_part known c.args.at (c.args.at + 16) c.read.new.out has (omega (arith, count));
    }
