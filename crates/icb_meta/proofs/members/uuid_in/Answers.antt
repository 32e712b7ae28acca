use Rattle.std.proofs.Common.{refl}
use Rattle.icb_types.proofs.ReadLemmas.{no_uuid}
use Rattle.icb_meta.proofs.members.uuid_in.Goals as goal

pub returns-in-Err : goal.returns-in-Err
returns-in-Err c =
    let none = no_uuid c.in-Err.field-0 c.parse_str.result c.args.text.now c.in-Err.is c.parse_str.ensures.ok in
    rw none refl
