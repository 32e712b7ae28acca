-- One more piece.
use Rattle.std.proofs.Common.{◌≡◌, ◌+◌, ◌-◌, None, length, ap, ◌∙◌, arith}
use Rattle.std.proofs.lemmas.List.{length-append}
use Rattle.icb_container.proofs.Knowledge.{parts_are_known}
use Rattle.icb_container.proofs.Reading.{reads_twice}
use Rattle.icb_container.proofs.pieces.pieces_at.Goals as goal

pub loop-left-preserved : goal.loop-left-preserved
loop-left-preserved g c =
    let law = g.met.R.ReadAt in
    let kept = c.loop-left.invariant in
    let more = c.in_ok-append.ensures.bytes in
    let size : length c.append.new.bytes ≡ length c.loop-left.bytes + length more.0 = ap length more.2 ∙ length-append c.loop-left.bytes more.0 in
    let mid : c.args.at + (c.args.size - c.loop-left.left) ≡ c.args.at + length c.loop-left.bytes = omega (arith, kept.size) in
    record {
      size = omega (arith, size, more.1, kept.size, c.min-count.ensures);
      part = λ known is. rw more.2 (parts_are_known known c.args.at (c.args.at + (c.args.size - c.loop-left.left)) c.loop-left.bytes more.0 (kept.part known is) mid (more.3 known (kept.reader.same known is)));
      reader = reads_twice g.R.ReadAt None c.args.reader.now c.loop-left.reader c.append.new.reader (law.kept_twice _ _ _) (law.calm_twice _ _ _) (λ f. law.blamed_since _ _ _ f) kept.reader c.in_ok-append.ensures.reader;
    }
