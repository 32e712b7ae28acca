-- What a store that stops does with a call.
use Rattle.std.specs.Prelude.{◌+◌, ◌-◌, ◌^◌, ◌<◌, ◌≡◌, min}
use Rattle.icb_base.specs.Answers.{Shown}
use Rattle.icb_base.specs.Causes.{Blames}
use Rattle.icb_base.specs.Counts.{raised}
use Rattle.icb_base.specs.declared.fuse_store.FuseStore.{FuseStore}
use Rattle.icb_base.specs.declared.storage.Store as store

-- what the store that stops shows: what the other one shows, with the refused calls as faults
abbrev pub shown_through : {S : Type 0} → store.Ghosts S → FuseStore S → Shown
shown_through of fuse = record {
  held = of.held fuse.inner.now;
  asked = of.asked fuse.inner.now;
  moved = of.moved fuse.inner.now;
  faults = min (of.faults fuse.inner.now + fuse.refused) (2 ^ 64 - 1);
}

-- while calls are left the call is passed on, and fails exactly where the other store failed; then
-- it fails, and nothing is passed on
pub record PassesOn {S : Type 0} (of : store.Ghosts S) (fault : Type 0)
    (before now : FuseStore S) : Type 0 where
  pub kept : (now.inner.ghost_name ≡ before.inner.ghost_name)
      × of.keeps before.inner.now now.inner.now
  pub left : now.left ≡ before.left - 1
  pub passed : 0 < before.left
      → (now.refused ≡ before.refused)
      × Blames fault (of.faults before.inner.now) (of.faults now.inner.now)
  pub burnt : before.left ≡ 0
      → fault × (now.refused ≡ raised before.refused 1) × (now.inner.now ≡ before.inner.now)
