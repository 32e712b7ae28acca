use Rattle.std.proofs.lemmas.Result.{err_from_is_err_and}
use Rattle.icb_container.specs.Opened.{state_of}
use Rattle.icb_reader.proofs.OpeningLemmas.{opening_refuses, opening_stands}
use Rattle.icb_reader.proofs.records.Records.open.Goals as goal

pub returns-in_err-container-clause-opens : goal.returns-in_err-container-clause-opens
returns-in_err-container-clause-opens g c = λ known is file fills.
    let p = err_from_is_err_and c.from_residual.result c.from_residual.ensures.1 in
    let r = c.in_err-container.ensures.opens known is file fills in
    record { gives = rw (p.1, p.2) (opening_refuses file c.in_err-container.field-0.0 r.gives); there = rw p.1 tt }

pub returns-clause-opens : goal.returns-clause-opens
returns-clause-opens g c = λ known is file fills.
    let r = c.in_ok-container.ensures.opens known is file fills in
    record { gives = rw c.new.ensures (opening_stands file (state_of c.in_ok-container.container) r.gives); there = r.there }
