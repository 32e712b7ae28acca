-- The exit number of each status (ours: docs/STATUSES.md).
use Rattle.std.specs.Prelude.{ℕ}
use Rattle.icb_run.specs.declared.status.Status.{Status}
use Rattle.icb_run.specs.declared.status.Status.TheVariants as status

-- the number that the program ends with
abbrev pub number_of_status : Status → ℕ
number_of_status status.Ok = 0
number_of_status (status.Usage word) = 2
number_of_status (status.BadKeyring line) = 3
number_of_status (status.BadInput line) = 4
number_of_status status.TableExists = 5
number_of_status status.NoTable = 6
number_of_status (status.BadMeta field) = 7
number_of_status (status.NoKey id) = 8
number_of_status (status.KeyRefused id) = 9
number_of_status (status.NoSnapshot id) = 10
number_of_status (status.NoColumn name) = 11
number_of_status (status.BadRange name) = 11
number_of_status (status.Missing path) = 12
number_of_status (status.Short path size) = 13
number_of_status (status.Header path fault) = 14
number_of_status (status.Block path number) = 15
number_of_status (status.Malformed path place) = 16
number_of_status (status.Unsupported path file) = 17
number_of_status (status.Codec path name) = 17
number_of_status (status.PlainFile path file) = 17
number_of_status (status.PlainList snapshot) = 17
number_of_status (status.BadList snapshot file) = 17
number_of_status (status.Contended versions) = 18
number_of_status (status.NameTaken path) = 19
number_of_status (status.SameKey id) = 20
number_of_status (status.KeyName id) = 20
number_of_status (status.Limit what number) = 21
number_of_status (status.Cannot what) = 22
number_of_status status.StoreFault = 30
number_of_status status.InputFault = 31
number_of_status status.OutputFault = 32
number_of_status status.RandomFault = 33
number_of_status status.NoMemory = 40
