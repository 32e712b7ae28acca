use Rattle.std.proofs.Common.{refl, arith}
use Rattle.icb_container.specs.declared.properties.Property.{Property}
use Rattle.icb_container.proofs.Sorting.{passed_more, put_at, put_before}
use Rattle.icb_container.proofs.properties.put.Goals as goal

pub returns-in-Less : goal.returns-in-Less
returns-in-Less c =
    let q : Property = record { key = c.args.key; value = c.args.value } in
    put_before c.args.key.now c.args.value.now c.loop-place.place c.loop-place.list.items c.args.list.now.items c.index.result.now q c.loop-place.invariant
    (omega arith) c.index.ensures refl refl c.in-Less.ensures c.insert.new.self.items c.in_ok-insert-in-Less.ensures.items

pub returns-in-Equal : goal.returns-in-Equal
returns-in-Equal c =
    let q : Property = record { key = c.index_mut.result.now.key; value = c.args.value } in
    put_at c.args.key.now c.args.value.now c.loop-place.place c.loop-place.list.items c.args.list.now.items c.index.result.now c.index_mut.result.now q c.loop-place.invariant
    (omega arith) c.index.ensures c.index_mut.ensures.value refl refl c.in-Equal.ensures

pub loop-place-preserved : goal.loop-place-preserved
loop-place-preserved c =
    passed_more c.args.key.now c.args.value.now c.loop-place.place c.loop-place.list.items c.args.list.now.items c.index.result.now c.loop-place.invariant
    (omega arith) c.index.ensures c.in-Greater.ensures
