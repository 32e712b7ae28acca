-- The properties of a block with its size.
use Rattle.std.proofs.Common.{rules, ◌≡◌, ◌≤◌, ◌+◌, eqb, true, false, length, drop, arith, of_z, to_z, w64}
use Rattle.std.proofs.lemmas.Bool.{eq-eqb, ne_eqb}
use Rattle.std.proofs.lemmas.Int.{to_z-of_z}
use Rattle.std.proofs.lemmas.List.{length-drop}
use lib.IntN.{nat_abs}
use Rattle.icb_container.proofs.HeaderParts.{size_below, sized_properties}
use Rattle.icb_container.proofs.Knowledge.{file_size, known_through}
use Rattle.icb_container.proofs.opening.sized_at.Goals as goal

pub returns-then-number-lt0-clause-reads : goal.returns-then-number-lt0-clause-reads
returns-then-number-lt0-clause-reads g c = λ known is file fills.
    let size = file_size known file _ fills (g.met.R.ReadAt.known_size c.args.reader.now known is) in
    let r = c.in_ok-number.ensures.reads known is file fills in
    let n : to_z w64 (of_z w64 c.in_ok-number.number) ≡ c.in_ok-number.number = search (rules, to_z-of_z) in
    let below = size_below file c.args.count c.args.at c.in_ok-number.place c.in_ok-number.number (omega (arith, size, c.requires)) r.gives (rw n at c.if-number-lt0.true) in
    record { adds = rw c.refuse.ensures below; there = search rules }

pub returns-then-behind-place-clause-reads : goal.returns-then-behind-place-clause-reads
returns-then-behind-place-clause-reads g c = λ known is file fills.
    let size = file_size known file _ fills (g.met.R.ReadAt.known_size c.args.reader.now known is) in
    let r = c.in_ok-number.ensures.reads known is file fills in
    let w = c.in_ok-behind.ensures.within in
    let two = c.in_ok-behind.ensures.reads known (c.in_ok-number.ensures.reader.same known is) file fills in
    let n : to_z w64 (of_z w64 c.in_ok-number.number) ≡ c.in_ok-number.number = search (rules, to_z-of_z) in
    let inside : c.in_ok-behind.behind ≤ length file = omega (arith, size, w.1, c.in_ok-number.ensures.reader.same_size) in
    let other = rw n at c.if-behind-place.true in
    let test : eqb (length (drop c.in_ok-number.place file)) (nat_abs c.in_ok-number.number + length (drop c.in_ok-behind.behind file)) ≡ false =
    ne_eqb _ _ (λ e. other (omega (arith, e, inside, w.0, length-drop c.in_ok-number.place file, length-drop c.in_ok-behind.behind file))) in
    let refused = sized_properties file c.args.count c.args.at c.in_ok-number.place c.in_ok-behind.behind c.in_ok-number.number two.adds.0 false w.0 inside r.gives (rw n at c.if-number-lt0.false) two.adds.1 test in
    record { adds = rw c.refuse-then-behind-place.ensures refused; there = search rules }

pub returns-clause-reads : goal.returns-clause-reads
returns-clause-reads g c = λ known is file fills.
    let size = file_size known file _ fills (g.met.R.ReadAt.known_size c.args.reader.now known is) in
    let r = c.in_ok-number.ensures.reads known is file fills in
    let w = c.in_ok-behind.ensures.within in
    let two = c.in_ok-behind.ensures.reads known (c.in_ok-number.ensures.reader.same known is) file fills in
    let n : to_z w64 (of_z w64 c.in_ok-number.number) ≡ c.in_ok-number.number = search (rules, to_z-of_z) in
    let inside : c.in_ok-behind.behind ≤ length file = omega (arith, size, w.1, c.in_ok-number.ensures.reader.same_size) in
    let same = rw n at c.if-behind-place.false in
    let test : eqb (length (drop c.in_ok-number.place file)) (nat_abs c.in_ok-number.number + length (drop c.in_ok-behind.behind file)) ≡ true =
    eq-eqb _ _ (omega (arith, same, inside, w.0, length-drop c.in_ok-number.place file, length-drop c.in_ok-behind.behind file)) in
    let read = sized_properties file c.args.count c.args.at c.in_ok-number.place c.in_ok-behind.behind c.in_ok-number.number two.adds.0 true w.0 inside r.gives (rw n at c.if-number-lt0.false) two.adds.1 test in
    record { adds = (two.adds.0, read, two.adds.2); there = known_through known c.args.at c.in_ok-number.place c.in_ok-behind.behind r.there two.there }
