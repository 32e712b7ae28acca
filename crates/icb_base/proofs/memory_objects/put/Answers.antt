-- The object that is added is the only one at its path, and nothing was asked of it.
use Rattle.std.proofs.Common.{◌≡◌, ◌++◌, [], ◌∷◌, refl, ap, Ok, Err, OnOk, OnErr, ◌∙◌}
use Rattle.icb_base.specs.Memory.{asked_in, moved_in, objects_of}
use Rattle.icb_base.specs.Objects.{with_object}
use Rattle.icb_base.proofs.MemoryProofs.{added, added_uncounted, new_object}
use Rattle.icb_base.proofs.memory_objects.put.Goals as goal

pub returns-clause-ok : goal.returns-clause-ok
returns-clause-ok c =
    elim (c.add.result) as (λ r. OnOk r (c.add.new.objects.items ≡ c.args.objects.now.items ++ new_object c.args.path.now c.args.bytes.now ∷ []) → OnOk r (objects_of c.add.new.objects.items
    ≡ with_object (objects_of c.args.objects.now.items) c.args.path.now c.args.bytes.now)) [
      | Ok done ↦ λ items. ap objects_of items ∙ added c.args.objects.now.items (new_object c.args.path.now c.args.bytes.now) c.requires
      | Err e ↦ λ items. items
    ] c.add.ensures.ok

pub returns-clause-unasked : goal.returns-clause-unasked
returns-clause-unasked c any =
    elim (c.add.result) as (λ r. OnOk r (c.add.new.objects.items ≡ c.args.objects.now.items ++ new_object c.args.path.now c.args.bytes.now ∷ []) → OnErr r (c.add.new.objects.items ≡ c.args.objects.now.items)
    → asked_in c.add.new.objects.items any ≡ asked_in c.args.objects.now.items any) [
      | Ok done ↦ λ items same. ap (λ os. asked_in os any) items ∙ added_uncounted (λ object. object.asked) c.args.objects.now.items (new_object c.args.path.now c.args.bytes.now) any refl
      | Err e ↦ λ items same. ap (λ os. asked_in os any) same
    ] c.add.ensures.ok c.add.ensures.err

pub returns-clause-unmoved : goal.returns-clause-unmoved
returns-clause-unmoved c any =
    elim (c.add.result) as (λ r. OnOk r (c.add.new.objects.items ≡ c.args.objects.now.items ++ new_object c.args.path.now c.args.bytes.now ∷ []) → OnErr r (c.add.new.objects.items ≡ c.args.objects.now.items)
    → moved_in c.add.new.objects.items any ≡ moved_in c.args.objects.now.items any) [
      | Ok done ↦ λ items same. ap (λ os. moved_in os any) items ∙ added_uncounted (λ object. object.moved) c.args.objects.now.items (new_object c.args.path.now c.args.bytes.now) any refl
      | Err e ↦ λ items same. ap (λ os. moved_in os any) same
    ] c.add.ensures.ok c.add.ensures.err
