-- A text of the header.
use Rattle.std.proofs.Common.{rules, ◌≡◌, length, drop, arith, Err}
use Rattle.icb_container.proofs.HeaderItems.{text_is, text_is_none, text_refuses}
use Rattle.icb_container.proofs.Knowledge.{file_size}
use Rattle.icb_container.proofs.opening.text_at.Goals as goal

pub returns-in_err-bytes-clause-reads : goal.returns-in_err-bytes-clause-reads
returns-in_err-bytes-clause-reads g c = λ known is file fills.
    let e : c.from_residual.result ≡ Err c.in_err-bytes.field-0.0 = search rules in
    let r = c.in_err-bytes.ensures.reads known is file fills in
    record { gives = rw e (text_refuses (length file) (drop c.args.at file) c.in_err-bytes.field-0.0 r.gives); there = rw e tt }

pub returns-in-Ok-clause-reads : goal.returns-in-Ok-clause-reads
returns-in-Ok-clause-reads g c = λ known is file fills.
    let r = c.in_ok-bytes.ensures.reads known is file fills in
    let bytes : c.as_slice.result.now ≡ c.in_ok-bytes.bytes = search rules in
    let text = rw bytes at c.in-Ok.ensures.cases.1 in
    record { gives = text_is (length file) (drop c.args.at file) c.in_ok-bytes.bytes (drop c.in_ok-bytes.place file) r.gives text; there = r.there }

pub returns-in-Err-clause-reads : goal.returns-in-Err-clause-reads
returns-in-Err-clause-reads g c = λ known is file fills.
    let size = file_size known file _ fills (g.met.R.ReadAt.known_size c.args.reader.now known is) in
    let r = c.in_ok-bytes.ensures.reads known is file fills in
    let bytes : c.as_slice.result.now ≡ c.in_ok-bytes.bytes = search rules in
    let none = rw bytes at c.in-Err.ensures.cases.0 in
    let refused = text_is_none file c.in_ok-bytes.bytes (drop c.in_ok-bytes.place file) c.args.at (omega (arith, size, c.requires)) r.gives none in
    record { gives = rw c.refuse.ensures refused; there = search rules }
