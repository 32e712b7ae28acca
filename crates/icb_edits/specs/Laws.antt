-- The law of the definitions, which is the contract of `others_stay`.
use Rattle.std.specs.Prelude.{◌≡◌, ℕ, List}
use Rattle.serde_json.specs.Data as json
use Rattle.serde_json.specs.Data.{Members}
use Rattle.serde_json.specs.Find.{get}
use Rattle.icb_edits.specs.Sets.{Sets, set_all, value_after}

-- of an object whose members were set, a name has the value that was set, and each other its own
abbrev pub OthersStay : Type 0
OthersStay = (name : List ℕ) (sets : Sets) (ms : Members)
    → get name (json.object (set_all sets ms)) ≡ value_after name sets (get name (json.object ms))
