-- A file as its parent names it, and what the tests of its parent's record answer.
use Rattle.std.specs.Prelude.{◌≡◌, ◌⊎◌, Some, Result, Ok, Err}
use Rattle.icb_base.specs.KeyMetadata.{KeyRecord}
use Rattle.icb_table.specs.Listed.{Listed, listed}
use Rattle.icb_table.specs.Why.{Why}
use Rattle.icb_walk.specs.Causes.{refused_by}
use Rattle.icb_walk.specs.declared.fault.Cause.{Cause}
use Rattle.icb_walk.specs.declared.listing.Listing.{Listing}
use Rattle.icb_walk.specs.declared.trouble.Trouble.{Trouble}
use Rattle.icb_walk.specs.declared.trouble.Trouble.TheVariants as trouble

-- a file as its parent names it
abbrev pub listing : Listing → Listed
listing l = listed l.path l.key l.length

-- a call gives what the tests give, seen by `view`, or the cause of the first one that refuses
abbrev pub Judges : {A B : Type 0} → (A → B) → Result A Trouble → Result B Why → Type 0
Judges view (Ok x) r = r ≡ Ok (view x)
Judges view (Err (trouble.Cause c)) r = refused_by r ≡ Some c
Judges view (Err trouble.Store) r = ⊥
Judges view (Err trouble.NoMemory) r = Unit {0}

-- a call gives the file that the tests give
abbrev pub Lists : Result Listing Trouble → Result Listed Why → Type 0
Lists result r = Judges listing result r

-- a call gives the key metadata that the tests give
abbrev pub ReadsKey : Result KeyRecord Trouble → Result KeyRecord Why → Type 0
ReadsKey result r = Judges (λ key. key) result r

-- a cause is told, or no memory was left for that
abbrev pub IsTold : Cause → Trouble → Type 0
IsTold c t = (t ≡ trouble.Cause c) ⊎ (t ≡ trouble.NoMemory)
