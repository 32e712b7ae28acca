-- The current metadata of a command's table.
use Rattle.icb_run.specs.declared.status.Status.{Status}
use Rattle.icb_run.specs.declared.status.Status.TheVariants as status
use Rattle.icb_tree.specs.declared.fault.CurrentFault.{CurrentFault}
use Rattle.icb_tree.specs.declared.fault.CurrentFault.TheVariants as fault

-- the status of why there is none
abbrev pub status_of_current : CurrentFault → Status
status_of_current fault.NoTable = status.NoTable
status_of_current (fault.Limit what number) = status.Limit what number
status_of_current (fault.BadMeta field) = status.BadMeta field
status_of_current fault.Store = status.StoreFault
status_of_current fault.NoMemory = status.NoMemory
