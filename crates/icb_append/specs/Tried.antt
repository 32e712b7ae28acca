-- What is answered where an append tries a version (ours).
use Rattle.std.specs.Prelude.{◌≡◌, ℕ, Result, Ok, Err}
use Rattle.icb_chain.specs.Ring.{Ring}
use Rattle.icb_meta.specs.Answers.{shown_of}
use Rattle.icb_meta.specs.declared.table.TableMeta.{TableMeta}
use Rattle.icb_append.specs.Committing.{next_sequence}
use Rattle.icb_append.specs.Reading.{IsNextId, wrapper_for}
use Rattle.icb_append.specs.declared.tried.Tried.{Tried}
use Rattle.icb_turns.specs.declared.fault.JobFault.{JobFault}
use Rattle.icb_turns.specs.declared.fault.JobFault.TheVariants as fault

-- the version is one to which rows may be added, or the first refusal
abbrev pub Tries : TableMeta → Ring → ℕ → ℕ → Result Tried JobFault → Type 0
Tries meta ring version rows (Ok tried) =
    (wrapper_for (shown_of meta) ring version rows ≡ Ok tried.wrapper)
    × IsNextId (shown_of meta).state.snapshots (next_sequence (shown_of meta)) tried.id
    × (tried.version ≡ version) × (tried.meta ≡ meta) × (tried.rows ≡ rows)
Tries meta ring version rows (Err fault.NoMemory) = Unit {0}
Tries meta ring version rows (Err e) = wrapper_for (shown_of meta) ring version rows ≡ Err e
