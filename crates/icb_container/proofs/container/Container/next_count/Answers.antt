-- The count of the next block.
use Rattle.std.proofs.Common.{rules, ◌≡◌, arith, Err, Ok, None, ap}
use Rattle.icb_container.specs.Blocks.{State, count_of}
use Rattle.icb_container.specs.Items.{head_of}
use Rattle.icb_container.specs.Opened.{Opened, state_of}
use Rattle.icb_container.proofs.Heads.{head_is_known, no_head_is_known, step_none, step_refuses, step_some}
use Rattle.icb_container.proofs.Knowledge.{file_size}
use Rattle.icb_container.proofs.container.Container.next_count.Goals as goal

pub returns-in_err-head-clause-counts : goal.returns-in_err-head-clause-counts
unfolding count_of
returns-in_err-head-clause-counts g c = λ known is file fills.
    let e : c.from_residual.result ≡ Err c.in_err-head.field-0.0 = search rules in
    let at : c.self.inside.place ≡ c.args.self.now.place = ap (λ (o : Opened). o.place) c.self.view_is in
    let r = c.in_err-head.ensures.reads known is file fills in
    let s : State = state_of c.args.self.now in
    record { gives = rw e (step_refuses s file (λ head. Ok (head.count, s)) c.in_err-head.field-0.0 (rw at at r.gives)); head_known = rw e tt }

pub returns-in_default-clause-counts : goal.returns-in_default-clause-counts
unfolding count_of
returns-in_default-clause-counts g c = λ known is file fills.
    let at : c.self.inside.place ≡ c.args.self.now.place = ap (λ (o : Opened). o.place) c.self.view_is in
    let s : State = state_of c.args.self.now in
    let none : c.in_ok-head.field-0 ≡ None = search rules in
    let r = rw (at, none) at (c.in_ok-head.ensures.reads known is file fills) in
    record { gives = step_none s file (λ head. Ok (head.count, s)) r.gives; head_known = no_head_is_known known file s.place r.gives }

pub returns-clause-counts : goal.returns-clause-counts
unfolding count_of
returns-clause-counts g c = λ known is file fills.
    let at : c.self.inside.place ≡ c.args.self.now.place = ap (λ (o : Opened). o.place) c.self.view_is in
    let s : State = state_of c.args.self.now in
    let r = rw (at, c.in-Some.is) at (c.in_ok-head.ensures.reads known is file fills) in
    let within = rw c.in-Some.is at c.in_ok-head.ensures.within in
    let size = file_size known file _ fills (g.met.R.ReadAt.known_size c.args.reader.now known is) in
    let step = step_some s file (λ head. Ok (head.count, s)) (head_of file c.in-Some.head) r.gives in
    record { gives = step.0; head_known = head_is_known known file s.place c.in-Some.head (omega (arith, size, within.in_file)) step.1 r.there }
