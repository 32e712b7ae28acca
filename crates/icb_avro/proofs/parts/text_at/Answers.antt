use Rattle.icb_avro.proofs.PartLemmas.{is_text, no_text}
use Rattle.icb_avro.proofs.parts.text_at.Goals as goal

pub returns-in-Ok : goal.returns-in-Ok
returns-in-Ok c = rw c.in-Ok.ensures.cases.0 (is_text c.args.all.now c.in_ok-bytes.bytes.now c.in_ok-bytes.rest.now c.in_ok-bytes.ensures c.in-Ok.ensures.cases.1)

pub returns-in-Err : goal.returns-in-Err
returns-in-Err c = rw c.refuse.ensures (no_text c.args.all.now c.in_ok-bytes.bytes.now c.in_ok-bytes.rest.now c.in_ok-bytes.ensures c.in-Err.ensures.cases.0)
