-- Both openings say the same, by the law.
use Rattle.container_tests.proofs.two_readers.opened_twice.Goals as goal

pub returns : goal.returns
returns g c = λ all is less.
    c.less_is_answered_alike.ensures.open c.args.less.now c.args.more.now all is less c.open-first.result c.open-second.result c.open-first.ensures.opens c.open-second.ensures.opens
