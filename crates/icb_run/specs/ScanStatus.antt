-- The status of what a scan answers.
use Rattle.std.specs.Prelude.{ℕ, List, Result, Ok, Err}
use Rattle.icb_base.specs.declared.limits.Limited.{Limited}
use Rattle.icb_base.specs.declared.limits.Limited.TheVariants as limit
use Rattle.icb_chain.specs.declared.fault.ChainFault.{ChainFault}
use Rattle.icb_chain.specs.declared.fault.ChainFault.TheVariants as chain
use Rattle.icb_scan.specs.declared.fault.ScanFault.{ScanFault}
use Rattle.icb_scan.specs.declared.fault.ScanFault.TheVariants as scan
use Rattle.icb_walk.specs.declared.fault.Cause.{Cause}
use Rattle.icb_walk.specs.declared.fault.Cause.TheVariants as cause
use Rattle.icb_walk.specs.declared.fault.HeaderFault as walk
use Rattle.icb_walk.specs.declared.fault.HeaderFault.TheVariants as found
use Rattle.icb_walk.specs.declared.fault.TreeFault.{TreeFault}
use Rattle.icb_walk.specs.declared.fault.TreeFault.TheVariants as tree
use Rattle.icb_run.specs.declared.status.HeaderFault.{HeaderFault}
use Rattle.icb_run.specs.declared.status.HeaderFault.TheVariants as header
use Rattle.icb_run.specs.declared.status.Status.{Status}
use Rattle.icb_run.specs.declared.status.Status.TheVariants as status

-- why an object doesn't begin as a stream does
abbrev pub header_fault_of : walk.HeaderFault → HeaderFault
header_fault_of (found.Magic bytes) = header.Magic bytes
header_fault_of (found.BlockLength length) = header.BlockLength length
header_fault_of (found.BadLength length) = header.BadLength length

-- the limit of an item of a file that goes beyond one: that of a container's header or of a block,
-- in bytes
abbrev pub limit_status : Limited → Status
limit_status limit.Header = status.Limit limit.Header 16777216
limit_status other = status.Limit limit.Block 134217728

-- the status of why a file isn't read further
abbrev pub status_of_cause : List ℕ → Cause → Status
status_of_cause path cause.Missing = status.Missing path
status_of_cause path (cause.Short size) = status.Short path size
status_of_cause path (cause.Header fault) = status.Header path (header_fault_of fault)
status_of_cause path (cause.Block number) = status.Block path number
status_of_cause path (cause.Malformed place what) = status.Malformed path place
status_of_cause path (cause.Codec name) = status.Codec path name
status_of_cause path (cause.PlainFile file) = status.PlainFile path file
status_of_cause path (cause.Unsupported file what) = status.Unsupported path file
status_of_cause path (cause.Large what place size) = limit_status what

-- the status of why a key isn't opened
abbrev pub status_of_chain : ChainFault → Status
status_of_chain (chain.NoKey id) = status.NoKey id
status_of_chain (chain.KeyRefused id) = status.KeyRefused id
status_of_chain chain.NoMemory = status.NoMemory

-- the status of why a tree isn't read further
abbrev pub status_of_tree : TreeFault → Status
status_of_tree (tree.NoSnapshot id) = status.NoSnapshot id
status_of_tree (tree.PlainList snapshot) = status.PlainList snapshot
status_of_tree (tree.Chain fault) = status_of_chain fault
status_of_tree (tree.BadList snapshot file what) = status.BadList snapshot file
status_of_tree (tree.At path c) = status_of_cause path c
status_of_tree tree.Store = status.StoreFault
status_of_tree tree.NoMemory = status.NoMemory

-- the status of what a scan answers
abbrev pub status_of_scan : Result ℕ ScanFault → Status
status_of_scan (Ok count) = status.Ok
status_of_scan (Err (scan.Tree fault)) = status_of_tree fault
status_of_scan (Err (scan.NoColumn name)) = status.NoColumn name
status_of_scan (Err (scan.BadRange name)) = status.BadRange name
status_of_scan (Err scan.Sink) = status.OutputFault
status_of_scan (Err scan.NoMemory) = status.NoMemory
