use Rattle.std.proofs.Common.{◌≡◌, codes, ap, subst, ◌∙◌, arith}
use Rattle.std.specs.FinMap as finite
use Rattle.std.proofs.lemmas.List.{take_all}
use Rattle.icb_container.specs.Sorted.{pairs}
use Rattle.icb_container.specs.Written.{put_all}
use Rattle.icb_container.proofs.Appended.{empty_at_first, put_in, sorted_more, texts_more}
use Rattle.icb_container.proofs.NumbersAgain.{HaveTexts}
use Rattle.icb_container.proofs.properties.sorted.Goals as goal

pub loop-property-init : goal.loop-property-init
loop-property-init c = record { same = empty_at_first (pairs c.new-list.result.items) (ap pairs c.new-list.ensures.items); texts = tt }

pub loop-property-preserved : goal.loop-property-preserved
loop-property-preserved c = record {
  same = sorted_more c.args.extra.now c.loop-property.property-index c.property-item.result (pairs c.loop-property.list.items) (pairs c.put.new.list.items)
      (omega arith) c.property-item.is c.loop-property.invariant.same (rw (← c.as_str.ensures, ← c.as_slice.ensures) c.in_ok-put.ensures);
  texts = texts_more c.args.extra.now c.loop-property.property-index c.property-item.result c.as_str.result.now (omega arith) c.property-item.is c.as_str.ensures c.as_str.utf8 c.loop-property.invariant.texts;
}

pub returns-clause-sorted : goal.returns-clause-sorted
returns-clause-sorted c =
    let start : pairs c.loop-property.list.items ≡ finite.entries (put_all c.args.extra.now) =
    c.loop-property.invariant.same ∙ ap (λ es. finite.entries (put_all es)) (take_all c.loop-property.property-index c.args.extra.now (omega arith)) in
    let codec = put_in (put_all c.args.extra.now) (codes "avro.codec") (codes "null") (pairs c.loop-property.list.items) (pairs c.put-2.new.list.items) start c.in_ok-put-2.ensures in
    put_in (finite.insert (put_all c.args.extra.now) (codes "avro.codec") (codes "null")) (codes "avro.schema") c.args.schema.now (pairs c.put-2.new.list.items) (pairs c.put-3.new.list.items)
    codec (rw (← c.as_slice-2.ensures.value) c.in_ok-put-3.ensures)

pub returns-clause-texts : goal.returns-clause-texts
returns-clause-texts c = subst HaveTexts (take_all c.loop-property.property-index c.args.extra.now (omega arith)) c.loop-property.invariant.texts
