-- The status of why a job ended without a version of its own.
use Rattle.icb_run.specs.ScanStatus.{status_of_tree}
use Rattle.icb_run.specs.declared.status.Status.{Status}
use Rattle.icb_run.specs.declared.status.Status.TheVariants as status
use Rattle.icb_turns.specs.declared.fault.JobFault.{JobFault}
use Rattle.icb_turns.specs.declared.fault.JobFault.TheVariants as fault

-- each fault of a job has a status of its own, but for those of trees, which have theirs
abbrev pub status_of_job : JobFault → Status
status_of_job fault.NoTable = status.NoTable
status_of_job (fault.BadMeta field) = status.BadMeta field
status_of_job (fault.BadInput line row) = status.BadInput line
status_of_job (fault.Cannot what) = status.Cannot what
status_of_job (fault.SameKey id) = status.SameKey id
status_of_job (fault.KeyName id) = status.KeyName id
status_of_job (fault.Tree refused) = status_of_tree refused
status_of_job (fault.NameTaken path) = status.NameTaken path
status_of_job (fault.Contended versions) = status.Contended versions
status_of_job (fault.Limit what number) = status.Limit what number
status_of_job fault.Random = status.RandomFault
status_of_job fault.Store = status.StoreFault
status_of_job fault.NoMemory = status.NoMemory
