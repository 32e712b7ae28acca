use Rattle.std.proofs.Common.{◌≡◌, ◌++◌, drop, map, option_map}
use Rattle.serde_json.specs.View.{view}
use Rattle.icb_schema.specs.Reading.{all_read}
use Rattle.icb_meta.specs.Forms.{order_in}
use Rattle.icb_meta.proofs.orders.orders_in.Given as goal

abbrev pub invariant-loop-item : goal.invariant-loop-item
invariant-loop-item l =
    all_read (order_in l.id_name) (map view l.items) ≡ option_map (λ more. l.orders.items ++ more) (all_read (order_in l.id_name) (map view (drop l.item-index l.items)))
