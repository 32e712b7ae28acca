-- Bytes of the header.
use Rattle.std.proofs.Common.{rules, ◌≡◌, ◌≤◌, ◌<◌, ◌+◌, ◌-◌, None, length, drop, arith, Err, of_z, to_z, w64}
use Rattle.std.proofs.lemmas.Int.{to_z-of_z}
use lib.IntN.{nat_abs}
use Rattle.icb_container.proofs.HeaderItems.{bytes_are, bytes_below, bytes_beyond, bytes_end, bytes_refuse}
use Rattle.icb_container.proofs.Knowledge.{file_size, known_part, known_through}
use Rattle.icb_container.proofs.Reading.{reads_twice}
use Rattle.icb_container.proofs.opening.bytes_at.Goals as goal

pub returns-in_err-number-clause-reads : goal.returns-in_err-number-clause-reads
returns-in_err-number-clause-reads g c = λ known is file fills.
    let e : c.from_residual.result ≡ Err c.in_err-number.field-0.0 = search rules in
    let r = c.in_err-number.ensures.reads known is file fills in
    record { gives = rw e (bytes_refuse (length file) (drop c.args.at file) c.in_err-number.field-0.0 r.gives); there = rw e tt }

pub returns-then-number-lt0-clause-reads : goal.returns-then-number-lt0-clause-reads
returns-then-number-lt0-clause-reads g c = λ known is file fills.
    let size = file_size known file _ fills (g.met.R.ReadAt.known_size c.args.reader.now known is) in
    let r = c.in_ok-number.ensures.reads known is file fills in
    let n : to_z w64 (of_z w64 c.in_ok-number.number) ≡ c.in_ok-number.number = search (rules, to_z-of_z) in
    let below = bytes_below file c.args.at c.in_ok-number.place c.in_ok-number.number (omega (arith, size, c.requires)) r.gives (rw n at c.if-number-lt0.true) in
    record { gives = rw c.refuse.ensures below; there = search rules }

pub returns-in_err-check_limit-clause-reads : goal.returns-in_err-check_limit-clause-reads
returns-in_err-check_limit-clause-reads g c = λ known is file fills.
    let e : c.from_residual-in_err-check_limit.result ≡ Err c.in_err-check_limit.field-0.0 = search rules in
    let size = file_size known file _ fills (g.met.R.ReadAt.known_size c.args.reader.now known is) in
    let r = c.in_ok-number.ensures.reads known is file fills in
    let w = c.in_ok-number.ensures.within in
    let n : to_z w64 (of_z w64 c.in_ok-number.number) ≡ c.in_ok-number.number = search (rules, to_z-of_z) in
    let beyond = rw n at (c.in_err-check_limit.ensures.gives file (omega (arith, size, c.requires))) in
    record {
      gives = rw e (bytes_beyond file c.args.at c.in_ok-number.place c.in_ok-number.number c.in_err-check_limit.field-0.0 (omega (arith, size, w.1)) r.gives (rw n at c.if-number-lt0.false) beyond);
      there = rw e tt;
    }

pub returns-then-length-place-clause-reads : goal.returns-then-length-place-clause-reads
returns-then-length-place-clause-reads g c = λ known is file fills.
    let size = file_size known file _ fills (g.met.R.ReadAt.known_size c.args.reader.now known is) in
    let r = c.in_ok-number.ensures.reads known is file fills in
    let w = c.in_ok-number.ensures.within in
    let n : to_z w64 (of_z w64 c.in_ok-number.number) ≡ c.in_ok-number.number = search (rules, to_z-of_z) in
    let limit = rw n at (c.in_ok-check_limit.ensures.gives file (omega (arith, size, c.requires))) in
    let short : c.length.result - c.in_ok-number.place < nat_abs c.in_ok-number.number = rw n at c.if-length-place.true in
    let ends = bytes_end file c.args.at c.in_ok-number.place c.in_ok-number.number (omega (arith, size, c.requires)) (omega (arith, size, w.1)) r.gives (rw n at c.if-number-lt0.false) limit
    (omega (arith, short, size, c.length.ensures, c.in_ok-number.ensures.reader.same_size)) in
    record { gives = rw c.refuse-then-length-place.ensures ends; there = search rules }

pub returns-clause-reads : goal.returns-clause-reads
returns-clause-reads g c = λ known is file fills.
    let size = file_size known file _ fills (g.met.R.ReadAt.known_size c.args.reader.now known is) in
    let r = c.in_ok-number.ensures.reads known is file fills in
    let w = c.in_ok-number.ensures.within in
    let n : to_z w64 (of_z w64 c.in_ok-number.number) ≡ c.in_ok-number.number = search (rules, to_z-of_z) in
    let limit = rw n at (c.in_ok-check_limit.ensures.gives file (omega (arith, size, c.requires))) in
    let enough : nat_abs c.in_ok-number.number ≤ c.length.result - c.in_ok-number.place = rw n at c.if-length-place.false in
    let inside : c.in_ok-number.place + nat_abs c.in_ok-number.number ≤ length file = omega (arith, enough, size, w.1, c.length.ensures, c.in_ok-number.ensures.reader.same_size) in
    let has = c.in_ok-bytes.ensures.bytes known (c.in_ok-number.ensures.reader.same known is) in
    let count : length c.in_ok-bytes.bytes ≡ nat_abs c.in_ok-number.number = rw n at c.in_ok-bytes.ensures.size in
    let are = bytes_are known file c.in_ok-bytes.bytes c.args.at c.in_ok-number.place c.in_ok-number.number fills has count inside r.gives (rw n at c.if-number-lt0.false) limit in
    let part = known_part known c.in_ok-number.place (c.in_ok-number.place + nat_abs c.in_ok-number.number) c.in_ok-bytes.bytes has (omega (arith, count)) in
    let there = known_through known c.args.at c.in_ok-number.place (c.in_ok-number.place + nat_abs c.in_ok-number.number) r.there part in
    record { gives = rw n are; there = rw n there }

pub returns-clause-reader : goal.returns-clause-reader
returns-clause-reader g c =
    let law = g.met.R.ReadAt in
    reads_twice g.R.ReadAt None c.args.reader.now c.number_at.new.reader c.pieces_at.new.reader (law.kept_twice _ _ _) (law.calm_twice _ _ _) (λ f. law.blamed_since _ _ _ f)
    c.in_ok-number.ensures.reader c.in_ok-bytes.ensures.reader
