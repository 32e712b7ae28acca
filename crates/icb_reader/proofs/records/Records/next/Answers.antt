use Rattle.std.proofs.Common.{◌≡◌, ◌<◌, true, sym, ◌∙◌, arith}
use Rattle.std.specs.Result.{is_err}
use Rattle.icb_container.specs.Known.{KnownFromTo}
use Rattle.icb_container.proofs.Knowledge.{known_none}
use Rattle.icb_reader.specs.Answers.{reading_of}
use Rattle.icb_reader.proofs.StepLemmas.{next_behind_is, next_inside_is, refused_alike, refused_there, there_anyway}
use Rattle.icb_reader.proofs.records.Records.next.Goals as goal

pub returns-then-self-gt0-clause-reads : goal.returns-then-self-gt0-clause-reads
returns-then-self-gt0-clause-reads g c = λ known is file fills.
    let some : 0 < c.args.self.now.left = omega (arith, c.if-self-gt0.true) in
    let there : KnownFromTo known c.args.self.now.container.place c.next_in_block.new.self.container.place =
    rw c.next_in_block.ensures.header (known_none known c.args.self.now.container.place) in
    record {
      gives = rw (next_inside_is g.T.FromRecord.made (reading_of c.args.self.now) file some) c.next_in_block.ensures.gives;
      there = there_anyway c.next_in_block.result _ there;
    }

pub returns-then-is_err-clause-reads : goal.returns-then-is_err-clause-reads
returns-then-is_err-clause-reads g c = λ known is file fills.
    let none : c.args.self.now.left ≡ 0 = omega (arith, c.if-self-gt0.false) in
    let e : is_err c.next_behind-found.result ≡ true = sym c.is_err.ensures.value ∙ c.if-is_err.true in
    let r = c.next_behind-found.ensures.reads known is file fills in
    record {
      gives = rw (next_behind_is g.T.FromRecord.made (reading_of c.args.self.now) file none) (refused_alike c.next_behind-found.result _ _ _ e r.gives);
      there = refused_there c.next_behind-found.result _ e;
    }

pub returns-else-is_err-clause-reads : goal.returns-else-is_err-clause-reads
returns-else-is_err-clause-reads g c = λ known is file fills.
    let none : c.args.self.now.left ≡ 0 = omega (arith, c.if-self-gt0.false) in
    let r = c.next_behind-found.ensures.reads known is file fills in
    record {
      gives = rw (next_behind_is g.T.FromRecord.made (reading_of c.args.self.now) file none) r.gives;
      there = r.there;
    }
