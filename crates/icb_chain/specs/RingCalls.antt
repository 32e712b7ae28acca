-- What the keyring's calls answer, and what its parts are seen as.
use Rattle.std.specs.Prelude.{◌≡◌, ℕ, List, map, Option, Some, None, Result, Ok, Err}
use Rattle.icb_chain.specs.Ring.{Ring}
use Rattle.icb_chain.specs.declared.fault.KeyringFault.{KeyringFault}
use Rattle.icb_chain.specs.declared.fault.KeyringFault.TheVariants as fault
use Rattle.icb_chain.specs.declared.masters.Master.{Master}

-- an id and its key
abbrev pub pair_of : Master → List ℕ × List ℕ
pair_of master = (master.id, master.key)

-- ids and their keys
abbrev pub pairs_of : List Master → Ring
pairs_of masters = map pair_of masters

-- a call answers the ring or its fault, where no memory was wanting
abbrev pub ReadsRing : Result Ring KeyringFault → Result Ring KeyringFault → Type 0
ReadsRing (Ok ring) read = read ≡ Ok ring
ReadsRing (Err fault.Many) read = read ≡ Err fault.Many
ReadsRing (Err (fault.BadKeyring line)) read = read ≡ Err (fault.BadKeyring line)
ReadsRing (Err fault.NoMemory) read = Unit {0}

-- reading lines alone stops so, or memory was wanting
abbrev pub StopsAtLine : KeyringFault → Result Ring ℕ → Type 0
StopsAtLine fault.Many read = ⊥
StopsAtLine (fault.BadKeyring line) read = read ≡ Err line
StopsAtLine fault.NoMemory read = Unit {0}

-- a line was put behind the ring, or isn't in the form
abbrev pub AddsLine : ℕ → Result (Unit {0}) KeyringFault → Ring → Option Ring → Type 0
AddsLine number (Ok done) now with = with ≡ Some now
AddsLine number (Err fault.Many) now with = ⊥
AddsLine number (Err (fault.BadKeyring line)) now with = (line ≡ number) × (with ≡ None)
AddsLine number (Err fault.NoMemory) now with = Unit {0}
