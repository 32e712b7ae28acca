-- The number is that of the first object at the path.
use Rattle.std.proofs.Common.{sym, ap, ◌∙◌}
use Rattle.std.specs.Option.{option_map_or}
use Rattle.icb_base.proofs.MemoryLemmas.{number_in, number_is}
use Rattle.icb_base.proofs.memory_objects.MemStore.asked_of.Goals as goal

pub returns-in-Some : goal.returns-in-Some
returns-in-Some c =
    ap (λ found. option_map_or (λ object. object.asked) found 0) c.in-Some.ensures
    ∙ ap (λ objects. number_in (λ object. object.asked) objects c.args.path.now) c.deref.ensures.value
    ∙ sym (number_is (λ object. object.asked) c.args.self.now.objects.items c.args.path.now)
