-- The version is refused.
use Rattle.icb_append.proofs.BeginLemmas.{refused_counted, same_count}
use Rattle.icb_append.proofs.beginning.with_rows.Goals as goal

pub returns-in-Err : goal.returns-in-Err
returns-in-Err g c = refused_counted c.args.meta c.args.ring.now c.args.version c.args.rows g.D.Draws _ c.in-Err.fault c.args.draws.now
    (same_count _ c.as_slice.result.now c.args.rows c.as_slice.ensures) c.in-Err.ensures
