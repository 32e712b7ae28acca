-- A number of the window is one of the file.
use Rattle.std.proofs.Common.{rules, ◌≡◌, length, drop, arith, Err, Ok, of_z, to_z, w64, ℤ, refl, sym, ◌∙◌}
use Rattle.std.proofs.lemmas.Int.{to_z-of_z}
use Rattle.icb_base.proofs.LawLemmas.{length_filled}
use Rattle.icb_avro.specs.Cursor.{Reads}
use Rattle.icb_container.proofs.Windows.{IsEnough, is_enough, number_moves, number_is_read, number_is_refused}
use Rattle.icb_avro.specs.Reading.{long_at}
use Rattle.icb_container.specs.Wrong.{in_file}
use Rattle.icb_container.proofs.Refused.{of_reader}
use Rattle.icb_container.proofs.numbers.long_at.Goals as goal

pub returns-in_err-read-clause-reads : goal.returns-in_err-read-clause-reads
returns-in_err-read-clause-reads g c = λ known is file fills.
    let e : c.from_residual.result ≡ Err c.in_err-read.field-0.0 = search rules in
    let r = of_reader c.in_err-read.field-0.0 (in_file (length file) (long_at (drop c.args.at file))) c.in_err-read.ensures.refused in
    record { gives = rw e r; there = rw e tt }

pub returns-in-Ok-clause-reads : goal.returns-in-Ok-clause-reads
returns-in-Ok-clause-reads g c = λ known is file fills.
    let size : length file ≡ g.R.ReadAt.size c.args.reader.now = sym (length_filled known file fills) ∙ g.met.R.ReadAt.known_size c.args.reader.now known is in
    let count : length c.read.new.out ≡ c.min-count.result = search rules in
    let enough : IsEnough c.args.at c.read.new.out file = is_enough c.args.at _ c.min-count.result c.read.new.out file (omega (arith, c.requires)) size (search rules) count in
    let n : to_z w64 (of_z w64 c.in-Ok.number) ≡ c.in-Ok.number = search (rules, to_z-of_z) in
    let w : Reads (λ n. n) (Ok c.in-Ok.number) (record { whole = c.read.new.out; place = 0 }) c.long.new.self (long_at c.read.new.out) = rw c.new-cursor.ensures at c.in-Ok.ensures in
    let r = number_is_read known file c.read.new.out c.args.at c.in-Ok.number c.long.new.self (long_at c.read.new.out) fills (c.in_ok-read.ensures.bytes known is) enough refl w in
    record { gives = rw (n, c.place.ensures) r.0; there = rw c.place.ensures r.1 }

pub returns-in-Err-clause-reads : goal.returns-in-Err-clause-reads
returns-in-Err-clause-reads g c = λ known is file fills.
    let size : length file ≡ g.R.ReadAt.size c.args.reader.now = sym (length_filled known file fills) ∙ g.met.R.ReadAt.known_size c.args.reader.now known is in
    let count : length c.read.new.out ≡ c.min-count.result = search rules in
    let enough : IsEnough c.args.at c.read.new.out file = is_enough c.args.at _ c.min-count.result c.read.new.out file (omega (arith, c.requires)) size (search rules) count in
    let w : Reads {X = ℤ} (λ n. n) (Err c.in-Err.fault) (record { whole = c.read.new.out; place = 0 }) c.long.new.self (long_at c.read.new.out) = rw c.new-cursor.ensures at c.in-Err.ensures in
    let r = number_is_refused known file c.read.new.out c.args.at c.in-Err.fault c.long.new.self (long_at c.read.new.out) (omega (arith, c.requires, size)) fills (c.in_ok-read.ensures.bytes known is) enough refl w in
    record { gives = rw c.refuse.ensures r; there = search rules }

pub returns-in-Ok-clause-within : goal.returns-in-Ok-clause-within
returns-in-Ok-clause-within g c =
    let count : length c.read.new.out ≡ c.min-count.result = search rules in
    let w : Reads (λ n. n) (Ok c.in-Ok.number) (record { whole = c.read.new.out; place = 0 }) c.long.new.self (long_at c.read.new.out) = rw c.new-cursor.ensures at c.in-Ok.ensures in
    let moves = number_moves c.read.new.out c.in-Ok.number c.long.new.self (long_at c.read.new.out) refl w in
    (omega (arith, moves.0, c.place.ensures), omega (arith, moves.1, count, c.place.ensures, c.min-count.ensures, c.length.ensures, c.requires))
