-- The first refusal is answered, and nothing is drawn.
use Rattle.std.proofs.Common.{[]}
use Rattle.icb_base.proofs.CallLemmas.{draws_at_rest}
use Rattle.icb_chain.specs.Opening.{keys_of}
use Rattle.icb_rotate.proofs.CallLemmas.{not_random, refused_keys}
use Rattle.icb_rotate.proofs.keys.rotated_keys.Goals as goal

pub returns-in-Err : goal.returns-in-Err
returns-in-Err g c = record {
  drawn = [];
  answers = refused_keys (keys_of c.args.meta.now) c.args.ring.now c.args.version c.args.id.now c.in-Err.fault c.in-Err.ensures;
  draws = draws_at_rest g.D.Draws _ c.args.draws.now
      (not_random (keys_of c.args.meta.now) c.args.ring.now c.args.version c.args.id.now c.in-Err.fault c.in-Err.ensures);
}
