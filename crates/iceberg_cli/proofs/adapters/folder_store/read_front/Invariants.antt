-- What is filled is a front of the buffer.
use Rattle.std.proofs.Common.{◌≤◌, length}
use Rattle.iceberg_cli.proofs.adapters.folder_store.read_front.Given as goal

abbrev pub invariant-loop : goal.invariant-loop
invariant-loop l = l.filled ≤ length l.out
