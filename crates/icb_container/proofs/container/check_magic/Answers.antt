-- The magic of a file.
use Rattle.std.proofs.Common.{rules, ◌≡◌, length, arith}
use Rattle.icb_container.proofs.HeaderIs.{magic_is, magic_is_short}
use Rattle.icb_container.proofs.Knowledge.{file_size, known_part}
use Rattle.icb_container.proofs.container.check_magic.Goals as goal

pub returns-then-length-lt4-clause-checks : goal.returns-then-length-lt4-clause-checks
returns-then-length-lt4-clause-checks g c = λ known is file fills.
    let size = file_size known file _ fills (g.met.R.ReadAt.known_size c.args.reader.now known is) in
    record { gives = magic_is_short file (omega (arith, size, c.length.ensures, c.if-length-lt4.true)); there = search rules }

pub returns-then-ne-clause-checks : goal.returns-then-ne-clause-checks
returns-then-ne-clause-checks g c = λ known is file fills.
    let count : length c.read.new.out ≡ 4 = search rules in
    record { gives = magic_is known file c.read.new.out _ fills (c.in_ok-read.ensures.bytes known is) count c.if-ne.ensures; there = search rules }

pub returns-clause-checks : goal.returns-clause-checks
returns-clause-checks g c = λ known is file fills.
    let count : length c.read.new.out ≡ 4 = search rules in
    let has = c.in_ok-read.ensures.bytes known is in
    record { gives = magic_is known file c.read.new.out _ fills has count c.if-ne.ensures; there = known_part known 0 4 c.read.new.out has (omega (arith, count)) }
