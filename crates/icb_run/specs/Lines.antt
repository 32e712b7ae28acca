-- The line that a status writes (ours: docs/STATUSES.md).
use Rattle.std.specs.Prelude.{ℕ, ◌≡◌, ◌⊎◌, List, [], ◌++◌, codes, decimal, Option, Some, IfSome}
use Rattle.std.specs.List.{flat_map}
use Rattle.std.specs.Fmt.{signed_decimal}
use Rattle.hex.specs.Hex.{encode_lower}
use Rattle.json.specs.Print.{quoted}
use Rattle.icb_base.specs.Causes.{Rose}
use Rattle.icb_base.specs.Transfers.{WroteFront}
use Rattle.icb_base.specs.declared.limits.Limited.{Limited}
use Rattle.icb_base.specs.declared.limits.Limited.TheVariants as limit
use Rattle.icb_turns.specs.declared.fault.CannotWhat.{CannotWhat}
use Rattle.icb_turns.specs.declared.fault.CannotWhat.TheVariants as cannot
use Rattle.icb_run.specs.declared.status.HeaderFault.{HeaderFault}
use Rattle.icb_run.specs.declared.status.HeaderFault.TheVariants.{Magic, BlockLength, BadLength}
use Rattle.icb_run.specs.declared.status.Status.{Status}
use Rattle.icb_run.specs.declared.status.Status.TheVariants as status

-- a number, with a blank before it
abbrev pub number_value : ℕ → List ℕ
number_value n = codes " " ++ decimal n

-- a text as a JSON string text with its escapes (RFC 8259, 7), with a blank before it
abbrev pub text_value : List ℕ → List ℕ
text_value text = codes " " ++ quoted text

-- a path and a number
abbrev pub path_and_number : List ℕ → ℕ → List ℕ
path_and_number path n = text_value path ++ number_value n

-- a path and a text
abbrev pub path_and_text : List ℕ → List ℕ → List ℕ
path_and_text path text = text_value path ++ text_value text

-- a header's fault: its name, then what was found, four bytes as 8 hexadecimal digits
abbrev pub header_words : HeaderFault → List ℕ
header_words (Magic found) = codes "Magic " ++ encode_lower found
header_words (BlockLength found) = codes "BlockLength " ++ decimal found
header_words (BadLength file_length) = codes "BadLength " ++ decimal file_length

-- a limit's name
abbrev pub limit_name : Limited → List ℕ
limit_name limit.Keyring = codes "Keyring"
limit_name limit.Input = codes "Input"
limit_name limit.Metadata = codes "Metadata"
limit_name limit.Versions = codes "Versions"
limit_name limit.Snapshots = codes "Snapshots"
limit_name limit.Sequence = codes "Sequence"
limit_name limit.RowIds = codes "RowIds"
limit_name limit.Jobs = codes "Jobs"
limit_name limit.Header = codes "Header"
limit_name limit.Block = codes "Block"
limit_name limit.Columns = codes "Columns"
limit_name limit.Ids = codes "Ids"

-- the name of a form of a table
abbrev pub cannot_name : CannotWhat → List ℕ
cannot_name cannot.NotEncrypted = codes "NotEncrypted"
cannot_name cannot.Partitioned = codes "Partitioned"
cannot_name cannot.Sorted = codes "Sorted"
cannot_name cannot.ColumnName = codes "ColumnName"
cannot_name cannot.NoRowIds = codes "NoRowIds"

-- versions, each with a blank before it
abbrev pub version_values : List ℕ → List ℕ
version_values versions = flat_map number_value versions

-- a status's name
abbrev pub status_name : Status → List ℕ
status_name status.Ok = codes "Ok"
status_name (status.Usage word) = codes "Usage"
status_name (status.BadKeyring line) = codes "BadKeyring"
status_name (status.BadInput line) = codes "BadInput"
status_name status.TableExists = codes "TableExists"
status_name status.NoTable = codes "NoTable"
status_name (status.BadMeta field) = codes "BadMeta"
status_name (status.NoKey id) = codes "NoKey"
status_name (status.KeyRefused id) = codes "KeyRefused"
status_name (status.NoSnapshot id) = codes "NoSnapshot"
status_name (status.NoColumn name) = codes "NoColumn"
status_name (status.BadRange name) = codes "BadRange"
status_name (status.Missing path) = codes "Missing"
status_name (status.Short path size) = codes "Short"
status_name (status.Header path fault) = codes "Header"
status_name (status.Block path number) = codes "Block"
status_name (status.Malformed path place) = codes "Malformed"
status_name (status.Unsupported path file) = codes "Unsupported"
status_name (status.Codec path name) = codes "Codec"
status_name (status.PlainFile path file) = codes "PlainFile"
status_name (status.PlainList snapshot) = codes "PlainList"
status_name (status.BadList snapshot file) = codes "BadList"
status_name (status.Contended versions) = codes "Contended"
status_name (status.NameTaken path) = codes "NameTaken"
status_name (status.SameKey id) = codes "SameKey"
status_name (status.KeyName id) = codes "KeyName"
status_name (status.Limit what number) = codes "Limit"
status_name (status.Cannot what) = codes "Cannot"
status_name status.StoreFault = codes "StoreFault"
status_name status.InputFault = codes "InputFault"
status_name status.OutputFault = codes "OutputFault"
status_name status.RandomFault = codes "RandomFault"
status_name status.NoMemory = codes "NoMemory"

-- a status's values, each with a blank before it; a status without values has none
abbrev pub status_values : Status → List ℕ
status_values (status.Usage word) = number_value word
status_values (status.BadKeyring line) = number_value line
status_values (status.BadInput line) = number_value line
status_values (status.BadMeta field) = text_value field
status_values (status.NoKey id) = text_value id
status_values (status.KeyRefused id) = text_value id
status_values (status.NoSnapshot id) = codes " " ++ signed_decimal id
status_values (status.NoColumn name) = text_value name
status_values (status.BadRange name) = text_value name
status_values (status.Missing path) = text_value path
status_values (status.Short path size) = path_and_number path size
status_values (status.Header path fault) = text_value path ++ codes " " ++ header_words fault
status_values (status.Block path number) = path_and_number path number
status_values (status.Malformed path place) = path_and_number path place
status_values (status.Unsupported path file) = path_and_text path file
status_values (status.Codec path name) = path_and_text path name
status_values (status.PlainFile path file) = path_and_text path file
status_values (status.PlainList snapshot) = codes " " ++ signed_decimal snapshot
status_values (status.BadList snapshot file) =
    codes " " ++ signed_decimal snapshot ++ text_value file
status_values (status.Contended versions) = version_values versions
status_values (status.NameTaken path) = text_value path
status_values (status.SameKey id) = text_value id
status_values (status.KeyName id) = text_value id
status_values (status.Limit what number) =
    codes " " ++ limit_name what ++ codes " " ++ decimal number
status_values (status.Cannot what) = codes " " ++ cannot_name what
status_values other = []

-- a status's line: its name, its values and a line feed
abbrev pub line_of : Status → List ℕ
line_of s = status_name s ++ status_values s ++ codes "\n"

-- the line was written, and no write failed; or the write failed, and a front of the line was
abbrev pub TellsLine : Status → Option (List ℕ) → Option (List ℕ) → ℕ → ℕ → Type 0
TellsLine s before now faults faults_now =
    (IfSome before (λ bytes. now ≡ Some (bytes ++ line_of s)) × (faults_now ≡ faults))
    ⊎ (IfSome before (λ bytes. WroteFront now bytes (line_of s)) × Rose faults faults_now)

-- nothing was written, and no write failed
abbrev pub TellsNothing : Option (List ℕ) → Option (List ℕ) → ℕ → ℕ → Type 0
TellsNothing before now faults faults_now = (now ≡ before) × (faults_now ≡ faults)

-- what the error stream gets of a status where its line could be made: nothing of Ok, else the line
abbrev pub TellsStatus : Status → Option (List ℕ) → Option (List ℕ) → ℕ → ℕ → Type 0
TellsStatus status.Ok before now faults faults_now = TellsNothing before now faults faults_now
TellsStatus s before now faults faults_now = TellsLine s before now faults faults_now

-- what the error stream gets of a status: nothing of Ok, else the line, which is missing where
-- there was no memory to make it
abbrev pub WritesLine : Status → Option (List ℕ) → Option (List ℕ) → ℕ → ℕ → Type 0
WritesLine s before now faults faults_now =
    TellsStatus s before now faults faults_now ⊎ TellsNothing before now faults faults_now
