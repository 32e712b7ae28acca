-- The turn is the one of the job's place, and the store stands for the table behind it.
use Rattle.icb_rotate.proofs.StepLemmas.{step_keeps, took_turn}
use Rattle.icb_rotate.proofs.job.RotateJob.step.Goals as goal

pub returns-clause-turn : goal.returns-clause-turn
returns-clause-turn g c = took_turn g.S.Store g.D.Draws c.args.ring.now c.args.now_ms c.args.store.now c.turn-turn.new.store c.args.draws.now c.turn-turn.new.draws
    c.args.self.now c.turn-turn.new.self c.after.new.self c.turn-turn.result c.after.result
    c.turn-turn.ensures.turn c.turn-turn.ensures.id c.after.ensures.step c.after.ensures.place c.after.ensures.id c.after.ensures.taken

pub returns-clause-stands : goal.returns-clause-stands
returns-clause-stands g c = step_keeps g.S.Store g.D.Draws c.args.ring.now c.args.now_ms c.args.store.now c.turn-turn.new.store c.args.draws.now c.turn-turn.new.draws
    c.args.self.now c.after.new.self c.after.result
    (took_turn g.S.Store g.D.Draws c.args.ring.now c.args.now_ms c.args.store.now c.turn-turn.new.store c.args.draws.now c.turn-turn.new.draws
    c.args.self.now c.turn-turn.new.self c.after.new.self c.turn-turn.result c.after.result
    c.turn-turn.ensures.turn c.turn-turn.ensures.id c.after.ensures.step c.after.ensures.place c.after.ensures.id c.after.ensures.taken)
