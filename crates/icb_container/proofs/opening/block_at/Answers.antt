-- The properties of a block.
use Rattle.std.proofs.Common.{rules, ◌≡◌, ◌≤◌, ◌<◌, ◌-◌, length, arith, of_z, to_z, w64}
use Rattle.std.proofs.lemmas.Int.{to_z-of_z}
use lib.IntN.{nat_abs}
use Rattle.icb_container.proofs.HeaderParts.{block_is_plain, block_is_sized, count_refuses}
use Rattle.icb_container.proofs.Knowledge.{file_size}
use Rattle.icb_container.proofs.opening.block_at.Goals as goal

pub returns-then-count-length-clause-reads : goal.returns-then-count-length-clause-reads
returns-then-count-length-clause-reads g c = λ known is file fills.
    let size = file_size known file _ fills (g.met.R.ReadAt.known_size c.args.reader.now known is) in
    let n : to_z w64 (of_z w64 c.args.count.0) ≡ c.args.count.0 = search (rules, to_z-of_z) in
    let count : c.unsigned_abs-count.result ≡ nat_abs c.args.count.0 = search (rules, to_z-of_z) in
    let many : length file - c.args.count.1 < nat_abs c.args.count.0 = omega (arith, c.if-count-length.true, count, size, c.length.ensures) in
    let refused = count_refuses file c.args.at c.args.count.1 c.args.count.0 (omega (arith, size, c.requires.behind, c.requires.in_file)) (omega (arith, size, c.requires.in_file)) many in
    record { adds = rw c.refuse.ensures refused; there = search rules }

pub returns-then-number-lt0-clause-reads : goal.returns-then-number-lt0-clause-reads
returns-then-number-lt0-clause-reads g c = λ known is file fills.
    let size = file_size known file _ fills (g.met.R.ReadAt.known_size c.args.reader.now known is) in
    let n : to_z w64 (of_z w64 c.args.count.0) ≡ c.args.count.0 = search (rules, to_z-of_z) in
    let count : c.unsigned_abs-count.result ≡ nat_abs c.args.count.0 = search (rules, to_z-of_z) in
    let few : nat_abs c.args.count.0 ≤ length file - c.args.count.1 = omega (arith, c.if-count-length.false, count, size, c.length.ensures) in
    let block = block_is_sized file c.args.at c.args.count.1 c.args.count.0 (omega (arith, size, c.requires.in_file)) few (rw n at c.if-number-lt0.true) in
    let r = rw count at (c.sized_at.ensures.reads known is file fills) in
    record { adds = rw block r.adds; there = r.there }

pub returns-clause-reads : goal.returns-clause-reads
returns-clause-reads g c = λ known is file fills.
    let size = file_size known file _ fills (g.met.R.ReadAt.known_size c.args.reader.now known is) in
    let n : to_z w64 (of_z w64 c.args.count.0) ≡ c.args.count.0 = search (rules, to_z-of_z) in
    let count : c.unsigned_abs-count.result ≡ nat_abs c.args.count.0 = search (rules, to_z-of_z) in
    let few : nat_abs c.args.count.0 ≤ length file - c.args.count.1 = omega (arith, c.if-count-length.false, count, size, c.length.ensures) in
    let block = block_is_plain file c.args.at c.args.count.1 c.args.count.0 (omega (arith, size, c.requires.in_file)) few (rw n at c.if-number-lt0.false) in
    let r = rw count at (c.properties_at.ensures.reads known is file fills) in
    record { adds = rw block r.adds; there = r.there }
