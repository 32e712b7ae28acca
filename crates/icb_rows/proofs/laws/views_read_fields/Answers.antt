use Rattle.icb_rows.proofs.NullLemmas.{views_read_fields}
use Rattle.icb_rows.proofs.laws.views_read_fields.Goals as goal

pub returns : goal.returns
returns c = views_read_fields
