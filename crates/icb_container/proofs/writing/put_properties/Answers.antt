use Rattle.std.proofs.Common.{arith}
use Rattle.icb_container.proofs.Appended.{property_more}
use Rattle.icb_container.proofs.writing.put_properties.Goals as goal

pub loop-property-preserved : goal.loop-property-preserved
loop-property-preserved c =
    property_more c.args.list.now c.loop-property.property-index _ c.args.out.now c.loop-property.out c.put_property.new.out
    (omega arith) c.loop-property.invariant c.in_ok-put_property.ensures
