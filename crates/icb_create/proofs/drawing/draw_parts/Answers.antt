-- The parts of the drawn bytes are what was drawn.
use Rattle.std.proofs.Common.{rules}
use Rattle.icb_create.proofs.DrawnLemmas.{bytes_back, whole_is}
use Rattle.icb_create.proofs.drawing.draw_parts.Goals as goal

pub returns-clause-draws : goal.returns-clause-draws
returns-clause-draws g c =
    rw (bytes_back c.args.size c.fill.new.out c.parts_of.result c.parts_of.ensures) (search rules)

pub returns-clause-whole : goal.returns-clause-whole
returns-clause-whole g c =
    whole_is c.args.size c.fill.new.out c.parts_of.result c.parts_of.ensures (search rules)
