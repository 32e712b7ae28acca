-- The keyring that a command is given (ours, docs/FORMATS.md).
use Rattle.std.specs.Prelude.{ℕ, ◌≡◌, ◌+◌, nat_lt, if◌then◌else◌, List, [], drop, length}
use Rattle.std.specs.Prelude.{Option, Some, Result, Ok, Err}
use Rattle.icb_base.specs.declared.limits.Limited.TheVariants as limit
use Rattle.icb_chain.specs.Ring.{Ring, ring_of}
use Rattle.icb_chain.specs.declared.fault.KeyringFault.{KeyringFault}
use Rattle.icb_chain.specs.declared.fault.KeyringFault.TheVariants as ring
use Rattle.icb_run.specs.declared.keyring_input.KeysFault.{KeysFault}
use Rattle.icb_run.specs.declared.keyring_input.KeysFault.TheVariants as keys
use Rattle.icb_run.specs.declared.status.Status.{Status}
use Rattle.icb_run.specs.declared.status.Status.TheVariants as status

-- the most bytes that a keyring may have: 1 MiB
abbrev pub keyring_limit : ℕ
keyring_limit = 1048576

-- the most keys that it may have
abbrev pub most_keys : ℕ
most_keys = 1000

-- the keyring, or why a text within the limit is none
abbrev pub from_ring : Result Ring KeyringFault → Result Ring KeysFault
from_ring (Ok read) = Ok read
from_ring (Err ring.Many) = Err (keys.Limit most_keys)
from_ring (Err (ring.BadKeyring line)) = Err (keys.BadKeyring line)
from_ring (Err ring.NoMemory) = Err keys.NoMemory

-- the keyring that a text is, or the first cause why it is none: it has too many bytes, too many
-- keys, or a line that isn't in the form
abbrev pub keyring_of : List ℕ → Result Ring KeysFault
keyring_of text =
    if nat_lt keyring_limit (length text) then Err (keys.Limit keyring_limit)
    else from_ring (ring_of text)

-- the keyring of a text, or its refusal: too many bytes were read to one byte past the limit, and
-- all else to the end
abbrev pub ReadsKeyring : List ℕ → Option (List ℕ) → Result Ring KeysFault → Type 0
ReadsKeyring text now (Err keys.Input) = Unit {0}
ReadsKeyring text now (Err keys.NoMemory) = Unit {0}
ReadsKeyring text now (Err (keys.Limit number)) =
    (keyring_of text ≡ Err (keys.Limit number)) × (now ≡ Some (drop (keyring_limit + 1) text))
ReadsKeyring text now read = (keyring_of text ≡ read) × (now ≡ Some [])

-- the status of why there is no keyring
abbrev pub status_of_keys : KeysFault → Status
status_of_keys keys.Input = status.InputFault
status_of_keys (keys.Limit number) = status.Limit limit.Keyring number
status_of_keys (keys.BadKeyring line) = status.BadKeyring line
status_of_keys keys.NoMemory = status.NoMemory
