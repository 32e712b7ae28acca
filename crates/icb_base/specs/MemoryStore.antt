-- What a store in memory shows: its objects, how often each path was asked for, and which calls
-- fail.
use Rattle.std.specs.Prelude.{ℕ, ◌≡◌, List, Option, Some, Bool, true, false, find, option_map, ◌==◌}
use Rattle.std.specs.Prelude.{Result, Ok, IsErr, IsNone, IsSome}
use Rattle.std.specs.FinMap as finite
use Rattle.icb_base.specs.Answers.{Shown}
use Rattle.icb_base.specs.declared.memory_objects.MemStore.{MemStore}
use Rattle.icb_base.specs.Counts.{raised}
use Rattle.icb_base.specs.Objects.{Objects, object_at, without_object}
use Rattle.icb_base.specs.declared.storage.Failed.{Failed}
use Rattle.icb_base.specs.declared.storage.Put.{Put}
use Rattle.icb_base.specs.declared.storage.Put.TheVariants.{Taken}
use Rattle.icb_base.specs.Memory.{asked_in, moved_in, objects_of, SetsIn}

-- the objects by path
abbrev pub files_of : MemStore → Objects
files_of store = objects_of store.objects.items

-- how many calls asked for a path
abbrev pub asked_of : MemStore → List ℕ → ℕ
asked_of store = asked_in store.objects.items

-- how many bytes were moved at a path
abbrev pub moved_of : MemStore → List ℕ → ℕ
moved_of store = moved_in store.objects.items

-- how many paths are held
abbrev pub object_count : MemStore → ℕ
object_count store = finite.len (files_of store)

-- what the store shows
abbrev pub shown_of : MemStore → Shown
shown_of store = record {
  held = Some (files_of store);
  asked = asked_of store;
  moved = moved_of store;
  faults = store.faults;
}

-- how many calls there were, up to the greatest number of 64 bits
abbrev pub call_count : MemStore → ℕ
call_count store = store.calls

-- what the plan says of the next call: nothing where it isn't to fail, and else whether a put takes
-- place first
abbrev pub plan_says : MemStore → Option Bool
plan_says store =
    option_map (λ entry. entry.1) (find (λ entry. entry.0 == store.calls) store.plan.items)

-- the calls, the faults and the plan are as before
pub record KeepsCalls (before now : MemStore) : Type 0 where
  pub calls : call_count now ≡ call_count before
  pub faults : now.faults ≡ before.faults
  pub plan : now.plan ≡ before.plan

-- one path holds these bytes with nothing counted, or nothing where none are given; all else is as
-- before
pub record SetsPath (path : List ℕ) (object : Option (List ℕ))
    (before now : MemStore) : Type 0 where
  pub objects : SetsIn path object before.objects.items now.objects.items
  pub rest : KeepsCalls before now

-- the objects, what was counted of them, and all else are as before
pub record KeepsObjects (before now : MemStore) : Type 0 where
  pub objects : now.objects.items ≡ before.objects.items
  pub rest : KeepsCalls before now

-- a call was counted, and the plan is as before
pub record CountsCall (before now : MemStore) : Type 0 where
  pub calls : call_count now ≡ raised (call_count before) 1
  pub plan : now.plan ≡ before.plan

-- a put fails where the plan says so; where it is to fail at once nothing is put
pub record PutsAsPlanned (path : List ℕ) (result : Result Put Failed)
    (before now : MemStore) : Type 0 where
  pub fails : IsSome (plan_says before) → IsErr result
  pub taken : IsNone (plan_says before) → IsSome (object_at (files_of before) path)
      → result ≡ Ok Taken
  pub at_once : plan_says before ≡ Some false → files_of now ≡ files_of before

-- a removal fails exactly where the plan says so; where it is to fail at once nothing is taken
-- away, and else the object is
pub record RemovesAsPlanned (path : List ℕ) (result : Result Bool Failed)
    (before now : MemStore) : Type 0 where
  pub fails : IsSome (plan_says before) → IsErr result
  pub succeeds : IsNone (plan_says before) → IsErr result → ⊥
  pub at_once : plan_says before ≡ Some false → files_of now ≡ files_of before
  pub after : plan_says before ≡ Some true → files_of now ≡ without_object (files_of before) path
