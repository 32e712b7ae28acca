-- The bytes at a path are those of the first object there.
use Rattle.std.proofs.Common.{sym, ap, ◌∙◌, option_map}
use Rattle.icb_base.proofs.MemoryLemmas.{object_at-objects_of}
use Rattle.icb_base.proofs.memory_objects.look.Goals as goal

pub returns-in-Some : goal.returns-in-Some
returns-in-Some c =
    rw c.as_slice.ensures
    (sym (object_at-objects_of c.args.objects.now c.args.path.now ∙ ap (option_map (λ object. object.bytes)) (sym c.in-Some.ensures)))

pub returns-in-None : goal.returns-in-None
returns-in-None c =
    sym (object_at-objects_of c.args.objects.now c.args.path.now ∙ ap (option_map (λ object. object.bytes)) (sym c.in-None.ensures))
