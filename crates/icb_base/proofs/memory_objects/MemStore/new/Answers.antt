-- An empty list holds nothing.
use Rattle.std.proofs.Common.{[], List, ℕ, ap, ◌∙◌}
use Rattle.icb_base.proofs.MemoryLemmas.{object_at-objects_of}
use Rattle.std.specs.Ordering.{nat_cmp}
use Rattle.std.specs.Cmp.Lexicographic.{slice_cmp}
use Rattle.std.specs.FinMap.{len, len-empty}
use Rattle.icb_base.specs.Memory.{objects_of}
use Rattle.icb_base.proofs.memory_objects.MemStore.new.Goals as goal

pub returns-clause-empty : goal.returns-clause-empty
returns-clause-empty c path = rw c.new.ensures.items (object_at-objects_of [] path)

pub returns-clause-no_object : goal.returns-clause-no_object
returns-clause-no_object c = ap (λ os. len (objects_of os)) c.new.ensures.items ∙ len-empty (slice_cmp nat_cmp) (List ℕ)
