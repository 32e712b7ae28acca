-- The command `keys`: a line for each sealed key of the table's current metadata.
use Rattle.icb_run.specs.Listing.{IsListing}
use Rattle.icb_run.specs.Outside.{Outside}
use Rattle.icb_run.specs.declared.listing.Listing.TheVariants as listing
use Rattle.icb_run.specs.declared.status.Status.{Status}

-- the lines of the current metadata's sealed keys are printed, or its refusal is answered
abbrev pub IsKeys : Outside → Outside → Status → Type 0
IsKeys = IsListing listing.Keys
