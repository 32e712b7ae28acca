-- The next block is passed over.
use Rattle.std.proofs.Common.{rules, ◌≡◌, ◌≤◌, ℕ, length, arith, Err, refl, sym, ap, ◌∙◌}
use Rattle.icb_container.specs.Blocks.{Head, State, answered, behind, marked, skipped_of}
use Rattle.icb_container.specs.Items.{head_of}
use Rattle.icb_container.specs.Opened.{Opened, state_of}
use Rattle.icb_container.proofs.Heads.{head_is_known, marker_is_known, no_marker_is_known, marked_is, marked_refuses, no_head_is_known, state_behind, step_none, step_refuses, step_some}
use Rattle.icb_container.proofs.Knowledge.{file_size}
use Rattle.icb_container.proofs.Refused.{refuses_first}
use Rattle.icb_container.proofs.container.Container.skip_block.Goals as goal

pub returns-in_err-head-clause-skips : goal.returns-in_err-head-clause-skips
unfolding skipped_of
returns-in_err-head-clause-skips g c = λ known is file fills.
    let e : c.from_residual.result ≡ Err c.in_err-head.field-0.0 = search rules in
    let at : c.self.inside.place ≡ c.args.self.now.place = ap (λ (o : Opened). o.place) c.self.view_is in
    let r = c.in_err-head.ensures.reads known is file fills in
    let s : State = state_of c.args.self.now in
    record {
      gives = rw e (step_refuses s file (λ head. marked s head (head.count, behind s (length file) head)) c.in_err-head.field-0.0 (rw at at r.gives));
      head_known = rw e tt;
      marker_known = rw e tt;
    }

pub returns-in_default-clause-skips : goal.returns-in_default-clause-skips
unfolding skipped_of
returns-in_default-clause-skips g c = λ known is file fills.
    let at : c.self.inside.place ≡ c.args.self.now.place = ap (λ (o : Opened). o.place) c.self.view_is in
    let s : State = state_of c.args.self.now in
    let r = rw (at, c.in_default.is) at (c.in_ok-head.ensures.reads known is file fills) in
    record {
      gives = step_none s file (λ head. marked s head (head.count, behind s (length file) head)) r.gives;
      head_known = no_head_is_known known file s.place r.gives;
      marker_known = no_marker_is_known known file s.place r.gives;
    }

pub returns-in_err-check_marker-clause-skips : goal.returns-in_err-check_marker-clause-skips
unfolding skipped_of
returns-in_err-check_marker-clause-skips g c = λ known is file fills.
    let e : c.from_residual-in_err-check_marker.result ≡ Err c.in_err-check_marker.field-0.0 = search rules in
    let at : c.self.inside.place ≡ c.args.self.now.place = ap (λ (o : Opened). o.place) c.self.view_is in
    let marker : c.self.inside.marker ≡ c.args.self.now.marker = ap (λ (o : Opened). o.marker) c.self.view_is in
    let block : c.self.inside.block ≡ c.args.self.now.block = ap (λ (o : Opened). o.block) c.self.view_is in
    let s : State = state_of c.args.self.now in
    let head : Head = head_of file c.in-Some.head in
    let r = rw (at, c.in-Some.is) at (c.in_ok-head.ensures.reads known is file fills) in
    let m = rw (marker, block) at (c.in_err-check_marker.ensures.checks known (c.in_ok-head.ensures.reader.same known is) file fills) in
    let step = step_some s file (λ head. marked s head (head.count, behind s (length file) head)) head r.gives in
    let refused = refuses_first c.in_err-check_marker.field-0.0 (marked s head (head.count, behind s (length file) head)) answered
    (marked_refuses s head (head.count, behind s (length file) head) c.in_err-check_marker.field-0.0 m.gives) in
    record { gives = rw (e, step.0) refused; head_known = rw e tt; marker_known = rw e tt }

pub returns-clause-skips : goal.returns-clause-skips
unfolding skipped_of
returns-clause-skips g c = λ known is file fills.
    let at : c.self.inside.place ≡ c.args.self.now.place = ap (λ (o : Opened). o.place) c.self.view_is in
    let marker : c.self.inside.marker ≡ c.args.self.now.marker = ap (λ (o : Opened). o.marker) c.self.view_is in
    let block : c.self.inside.block ≡ c.args.self.now.block = ap (λ (o : Opened). o.block) c.self.view_is in
    let s : State = state_of c.args.self.now in
    let head : Head = head_of file c.in-Some.head in
    let r = rw (at, c.in-Some.is) at (c.in_ok-head.ensures.reads known is file fills) in
    let within = rw c.in-Some.is at c.in_ok-head.ensures.within in
    let size = file_size known file _ fills (g.met.R.ReadAt.known_size c.args.reader.now known is) in
    let inside : c.in-Some.head.place ≤ length file = omega (arith, size, within.in_file) in
    let m = rw (marker, block) at (c.in_ok-check_marker.ensures.checks known (c.in_ok-head.ensures.reader.same known is) file fills) in
    let step = step_some s file (λ head. marked s head (head.count, behind s (length file) head)) head r.gives in
    let answer : ℕ × State = (head.count, behind s (length file) head) in
    let marked = marked_is s head answer m.gives in
    let new : behind s (length file) head ≡ state_of c.pass.new.self = state_behind c.args.self.now file c.in-Some.head inside ∙ ap state_of (sym c.pass.ensures) in
    record {
      gives = step.0 ∙ rw (marked, new) refl;
      head_known = head_is_known known file s.place c.in-Some.head inside step.1 r.there;
      marker_known = marker_is_known known file s.place c.in-Some.head inside step.1 m.there;
    }
