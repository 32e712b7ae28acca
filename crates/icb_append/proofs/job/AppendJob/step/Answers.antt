-- The store stands for the table behind the turn.
use Rattle.std.proofs.Common.{◌≡◌, true, sym, subst}
use Rattle.icb_append.specs.Places.{has_work}
use Rattle.icb_append.proofs.CommitStepLemmas.{step_keeps}
use Rattle.icb_append.proofs.job.AppendJob.step.Goals as goal

pub returns-clause-stands : goal.returns-clause-stands
returns-clause-stands g c = step_keeps g.S.Store g.D.Draws c.args.ring.now c.args.now_ms c.args.store.now c.turn-turn.new.store c.args.draws.now c.turn-turn.new.draws c.args.self.now
    (record {
      lines = c.turn-turn.new.self.lines;
      place = c.place_after-self.result;
      work = c.turn-turn.new.self.work;
      taken = c.turn-turn.new.self.taken;
      has_work = subst (λ p. has_work p c.turn-turn.new.self.work ≡ true) (sym c.place_after-self.ensures) c.turn-turn.ensures.ready;
    }) c.step_of.result
    (record {
      turn = c.turn-turn.result;
      is_turn = c.turn-turn.ensures.turn;
      answers = c.step_of.ensures;
      goes = c.place_after-self.ensures;
      same_lines = c.turn-turn.ensures.lines;
    })
