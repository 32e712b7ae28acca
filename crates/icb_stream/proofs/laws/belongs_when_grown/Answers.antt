-- The object stays held.
use Rattle.icb_stream.proofs.laws.belongs_when_grown.Goals as goal

pub returns : goal.returns
returns c = λ stream before now grows belongs. record {
  object = belongs.object;
  held = grows.stays stream.path belongs.object belongs.held;
  is_open = belongs.is_open;
  keeps = belongs.keeps;
}
