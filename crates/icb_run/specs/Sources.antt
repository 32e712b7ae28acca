-- Which sources a command reads to their end, and which it leaves unread.
use Rattle.std.specs.Prelude.{ℕ, ◌≡◌, List, Option, IfSome, Result, Ok, Err}
use Rattle.icb_chain.specs.Ring.{Ring}
use Rattle.icb_run.specs.Inputs.{LeavesOf, input_limit}
use Rattle.icb_run.specs.Keyrings.{keyring_limit, keyring_of}
use Rattle.icb_run.specs.Metadata.{LeavesTrusted}
use Rattle.icb_run.specs.Outside.{Outside}
use Rattle.icb_run.specs.declared.keyring_input.KeysFault.{KeysFault}
use Rattle.icb_run.specs.declared.status.Status.{Status}
use Rattle.icb_words.specs.declared.scan_words.Scan.{Scan}
use Rattle.icb_words.specs.declared.words.Command.{Command}
use Rattle.icb_words.specs.declared.words.Command.TheVariants as command

-- no source was read
pub record AreUnread (before now : Outside) (status : Status) : Type 0 where
  pub input : now.input ≡ before.input
  pub keys : now.keys ≡ before.keys
  pub trusted : now.trusted ≡ before.trusted

-- the input was read to its end, or to one byte past its limit, and no other source was read
pub record InputIsRead (before now : Outside) (status : Status) : Type 0 where
  pub input : LeavesOf input_limit before.input now.input status
  pub keys : now.keys ≡ before.keys
  pub trusted : now.trusted ≡ before.trusted

-- the keyring was read to its end, or to one byte past its limit, and no other source was read
pub record KeysAreRead (before now : Outside) (status : Status) : Type 0 where
  pub input : now.input ≡ before.input
  pub keys : LeavesOf keyring_limit before.keys now.keys status
  pub trusted : now.trusted ≡ before.trusted

-- what is left of an input that is read behind a keyring: all where the keyring is refused
abbrev pub LeavesBehind : Result Ring KeysFault → Option (List ℕ) → Option (List ℕ) → Status
    → Type 0
LeavesBehind (Err refused) before now status = now ≡ before
LeavesBehind (Ok ring) before now status = LeavesOf input_limit before now status

-- the keyring was read to its end, and then the input, or each to one byte past its limit
pub record AppendIsRead (before now : Outside) (status : Status) : Type 0 where
  pub input : IfSome before.keys (λ keyring.
      LeavesBehind (keyring_of keyring) before.input now.input status)
  pub keys : LeavesOf keyring_limit before.keys now.keys status
  pub trusted : now.trusted ≡ before.trusted

-- the keyring was, and then the metadata that was handed in, if it was
pub record ScanIsRead (words : Scan) (before now : Outside) (status : Status) : Type 0 where
  pub input : now.input ≡ before.input
  pub keys : LeavesOf keyring_limit before.keys now.keys status
  pub trusted : LeavesTrusted words.is_handed_in before.trusted now.trusted status

-- which sources a command has read by the status that it ended with
abbrev pub SourcesAreRead : Result Command ℕ → Outside → Outside → Status → Type 0
SourcesAreRead (Err word) = AreUnread
SourcesAreRead (Ok command.Help) = AreUnread
SourcesAreRead (Ok command.Version) = AreUnread
SourcesAreRead (Ok (command.CatFile words)) = AreUnread
SourcesAreRead (Ok (command.SealFile words)) = InputIsRead
SourcesAreRead (Ok (command.Create words)) = KeysAreRead
SourcesAreRead (Ok command.Append) = AppendIsRead
SourcesAreRead (Ok (command.Scan words)) = ScanIsRead words
SourcesAreRead (Ok (command.Rotate words)) = KeysAreRead
SourcesAreRead (Ok command.Snapshots) = AreUnread
SourcesAreRead (Ok command.Keys) = AreUnread
