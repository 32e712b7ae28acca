-- The command `snapshots`: a line for each snapshot of the table's current metadata.
use Rattle.icb_run.specs.Listing.{IsListing}
use Rattle.icb_run.specs.Outside.{Outside}
use Rattle.icb_run.specs.declared.listing.Listing.TheVariants as listing
use Rattle.icb_run.specs.declared.status.Status.{Status}

-- the lines of the current metadata's snapshots are printed, or its refusal is answered
abbrev pub IsSnapshots : Outside → Outside → Status → Type 0
IsSnapshots = IsListing listing.Snapshots
