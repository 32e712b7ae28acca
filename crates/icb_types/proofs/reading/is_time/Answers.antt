use Rattle.std.proofs.lemmas.Int.{to_z-of_z}
use mir.Val.{SFits}
use mir.Syntax.{w64}
use Rattle.icb_types.proofs.ReadLemmas.{time_below, time_negative}
use Rattle.icb_types.proofs.reading.is_time.Goals as goal

pub returns-then-time-ge0 : goal.returns-then-time-ge0
returns-then-time-ge0 c =
    let fits : SFits w64 c.args.time = c.ranges.time in
    let h = rw to_z-of_z at c.if-time-ge0.true in
    rw to_z-of_z (time_below c.args.time h)

pub returns-else-time-ge0 : goal.returns-else-time-ge0
returns-else-time-ge0 c =
    let fits : SFits w64 c.args.time = c.ranges.time in
    let h = rw to_z-of_z at c.if-time-ge0.false in
    rw to_z-of_z (time_negative c.args.time h)
