-- A count, a size, and how they are judged.
use Rattle.std.proofs.Common.{rules, ◌≡◌, length, drop, Err, sym, ◌∙◌}
use Rattle.icb_container.specs.Blocks.{Head, head_at, head_from, natural_at}
use Rattle.icb_container.specs.Wrong.{◌>>=◌}
use Rattle.icb_container.specs.Answers.{Refuses}
use Rattle.icb_container.specs.Known.{KnownFromTo}
use Rattle.icb_container.proofs.Knowledge.{file_size, known_through}
use Rattle.icb_container.proofs.Refused.{ok_more, refuses_first}
use Rattle.icb_container.proofs.numbers.head_at.Goals as goal

pub returns-in_err-count-clause-reads : goal.returns-in_err-count-clause-reads
unfolding head_at
returns-in_err-count-clause-reads g c = λ known is file fills.
    let e : c.from_residual.result ≡ Err c.in_err-count.field-0.0 = search rules in
    let r = c.in_err-count.ensures.reads known is file fills in
    record { gives = rw e (refuses_first c.in_err-count.field-0.0 (natural_at (length file) (drop c.args.at file)) _ r.gives); there = rw e tt }

pub returns-in_err-size-clause-reads : goal.returns-in_err-size-clause-reads
unfolding head_at
returns-in_err-size-clause-reads g c = λ known is file fills.
    let e : c.from_residual-in_err-size.result ≡ Err c.in_err-size.field-0.0 = search rules in
    let one = c.in_ok-count.ensures.reads known is file fills in
    let two = c.in_err-size.ensures.reads known (c.in_ok-count.ensures.reader.same known is) file fills in
    let second : Refuses {B = Head} c.in_err-size.field-0.0 (natural_at (length file) (drop c.in_ok-count.count.1 file) >>= (λ size.
    head_from (length file) (drop c.args.at file) (drop c.in_ok-count.count.1 file) c.in_ok-count.count.0 size)) =
    refuses_first c.in_err-size.field-0.0 (natural_at (length file) (drop c.in_ok-count.count.1 file)) _ two.gives in
    record { gives = rw (e, one.gives) second; there = rw e tt }

pub returns-clause-reads : goal.returns-clause-reads
unfolding head_at
returns-clause-reads g c = λ known is file fills.
    let one = c.in_ok-count.ensures.reads known is file fills in
    let two = c.in_ok-size.ensures.reads known (c.in_ok-count.ensures.reader.same known is) file fills in
    let size = file_size known file _ fills (g.met.R.ReadAt.known_size c.args.reader.now known is) in
    let bytes : length file ≡ c.length.result = size ∙ sym (c.length.ensures ∙ c.in_ok-size.ensures.reader.same_size ∙ c.in_ok-count.ensures.reader.same_size) in
    let there = known_through known c.args.at c.in_ok-count.count.1 c.in_ok-size.size.1 one.there two.there in
    record {
      gives = rw (one.gives, two.gives) (c.judge.ensures.gives file bytes);
      there = ok_more c.judge.result (λ h. h.place ≡ c.in_ok-size.size.1) (λ h. KnownFromTo known c.args.at h.place) (λ h same. rw same there) c.judge.ensures.place;
    }
