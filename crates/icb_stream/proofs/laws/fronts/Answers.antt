-- The laws of fronts.
use Rattle.icb_stream.proofs.FrontLaws.{front_joined, front_length, front_refused, whole_front}
use Rattle.icb_stream.proofs.laws.fronts.Goals as goal

pub returns : goal.returns
returns c = record {
  whole = whole_front;
  join = front_joined;
  refused_stays = front_refused;
  refused_ends = front_length;
}
