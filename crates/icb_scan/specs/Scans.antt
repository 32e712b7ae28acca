-- What a scan answers.
use Rattle.std.specs.Prelude.{◌≡◌, ◌⊎◌, ℕ, List, Option, Some, None, IfSome, Result, Ok, Err}
use Rattle.icb_base.specs.declared.storage.Store as store
use Rattle.icb_base.specs.declared.transfer.Sink as sink
use Rattle.icb_types.specs.declared.columns.Column.{Column}
use Rattle.icb_table.specs.Listed.{Listed}
use Rattle.icb_table.specs.Selection.{Selection}
use Rattle.icb_datafile.specs.Left.{all_of}
use Rattle.icb_scan.specs.Answers.{ShowsBelow}
use Rattle.icb_scan.specs.Start.{IsUnbegun, Start, Unbegun}
use Rattle.icb_scan.specs.declared.fault.ScanFault.{ScanFault}
use Rattle.icb_scan.specs.declared.fault.ScanFault.TheVariants as fault

-- the store and the sink are untouched
pub record IsUntouched {Self Out : Type 0} (x y : Self) (before after : Out) : Type 0 where
  pub same_store : y ≡ x
  pub same_sink : after ≡ before

-- the rows below a list were shown; where there is no snapshot there are none
abbrev pub ShowsListed : {Self Out : Type 0} → store.Ghosts Self → sink.Ghosts Out → List Column
    → List ℕ → Selection → Option Listed → Self → Self → Out → Out → Result ℕ ScanFault → Type 0
ShowsListed of out columns location s None x y before after result =
    ((result ≡ Ok 0) ⊎ (result ≡ Err fault.NoMemory)) × IsUntouched x y before after
ShowsListed of out columns location s (Some list) x y before after result =
    IfSome (of.held x) (λ files.
    ShowsBelow of out files (all_of columns) location s list x y before after result)

-- the first refusal is answered, before a file is opened; or the chosen rows were shown
abbrev pub Scans : {Self Out : Type 0} → store.Ghosts Self → sink.Ghosts Out → List Column → List ℕ
    → Result Start Unbegun → Self → Self → Out → Out → Result ℕ ScanFault → Type 0
Scans of out columns location (Err u) x y before after result =
    ((e : ScanFault) × (result ≡ Err e) × IsUnbegun u e) × IsUntouched x y before after
Scans of out columns location (Ok start) x y before after result =
    ShowsListed of out columns location start.selection start.list x y before after result
