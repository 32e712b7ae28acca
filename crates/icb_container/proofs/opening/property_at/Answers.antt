-- A property of the header.
use Rattle.std.proofs.Common.{rules, ◌≡◌, [], ◌∷◌, length, drop, arith, Err}
use Rattle.icb_container.specs.Header.{Property}
use Rattle.icb_container.proofs.HeaderParts.{key_refuses, property_is, value_refuses}
use Rattle.icb_container.proofs.Knowledge.{file_size, known_through}
use Rattle.icb_container.proofs.opening.property_at.Goals as goal

pub returns-in_err-key-clause-reads : goal.returns-in_err-key-clause-reads
returns-in_err-key-clause-reads g c = λ known is file fills.
    let e : c.from_residual.result ≡ Err c.in_err-key.field-0.0 = search rules in
    let r = c.in_err-key.ensures.reads known is file fills in
    record { adds = rw e (key_refuses (length file) (drop c.args.at file) c.in_err-key.field-0.0 r.gives); there = rw e tt }

pub returns-in_err-bytes-clause-reads : goal.returns-in_err-bytes-clause-reads
returns-in_err-bytes-clause-reads g c = λ known is file fills.
    let e : c.from_residual-in_err-bytes.result ≡ Err c.in_err-bytes.field-0.0 = search rules in
    let one = c.in_ok-key.ensures.reads known is file fills in
    let two = c.in_err-bytes.ensures.reads known (c.in_ok-key.ensures.reader.same known is) file fills in
    record {
      adds = rw e (value_refuses (length file) (drop c.args.at file) c.in_ok-key.key (drop c.in_ok-key.place file) c.in_err-bytes.field-0.0 one.gives two.gives);
      there = rw e tt;
    }

pub returns-clause-reads : goal.returns-clause-reads
returns-clause-reads g c = λ known is file fills.
    let size = file_size known file _ fills (g.met.R.ReadAt.known_size c.args.reader.now known is) in
    let w = c.in_ok-key.ensures.within in
    let one = c.in_ok-key.ensures.reads known is file fills in
    let two = c.in_ok-bytes.ensures.reads known (c.in_ok-key.ensures.reader.same known is) file fills in
    let key : c.as_slice.result.now ≡ c.in_ok-key.key = search rules in
    let p : Property = record { key = c.in_ok-key.key; value = c.in_ok-bytes.bytes; place = c.in_ok-key.place } in
    let read = property_is file c.in_ok-key.key c.in_ok-bytes.bytes (drop c.in_ok-bytes.behind file) c.args.at c.in_ok-key.place (omega (arith, size, w.1)) one.gives two.gives in
    record {
      adds = (p ∷ [], read, λ qs kept. rw key at (c.put.ensures qs kept));
      there = known_through known c.args.at c.in_ok-key.place c.in_ok-bytes.behind one.there two.there;
    }
