use Rattle.std.proofs.Common.{◌≡◌, drop}
use Rattle.icb_meta.specs.Forms.{order_named}
use Rattle.icb_meta.proofs.orders.order_named.Given as goal

abbrev pub invariant-loop-order : goal.invariant-loop-order
invariant-loop-order l = order_named l.id l.orders ≡ order_named l.id (drop l.order-index l.orders)
