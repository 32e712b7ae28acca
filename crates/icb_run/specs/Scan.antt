-- The command `scan`: the chosen rows of a table.
use Rattle.std.specs.Prelude.{ℕ, ◌≡◌, ◌⊎◌, List, Option, IfSome, option_map, Result, Ok, Err}
use Rattle.icb_base.specs.Objects.{Objects}
use Rattle.icb_chain.specs.Ring.{Ring}
use Rattle.icb_meta.specs.declared.fields.Fields.{Fields}
use Rattle.icb_run.specs.Answers.{EndsEarly}
use Rattle.icb_run.specs.Current.{status_of_current}
use Rattle.icb_run.specs.Keyrings.{keyring_of, status_of_keys}
use Rattle.icb_run.specs.Metadata.{metadata_told}
use Rattle.icb_run.specs.Outside.{Outside}
use Rattle.icb_run.specs.ScanComplete.{PrintsComplete}
use Rattle.icb_run.specs.ScanRows.{PrintsStart}
use Rattle.icb_run.specs.ScanStatus.{status_of_scan}
use Rattle.icb_run.specs.ScanTables.{PrintsCommitted, PrintsTable}
use Rattle.icb_run.specs.declared.keyring_input.KeysFault.{KeysFault}
use Rattle.icb_run.specs.declared.status.Status.{Status}
use Rattle.icb_scan.specs.Start.{start_of}
use Rattle.icb_scan.specs.declared.fault.ScanFault.{ScanFault}
use Rattle.icb_table.specs.Selection as asked
use Rattle.icb_table.specs.Table.{columns_asked}
use Rattle.icb_tree.specs.declared.fault.CurrentFault.{CurrentFault}
use Rattle.icb_words.specs.declared.scan_words.RangeWords.{RangeWords}
use Rattle.icb_words.specs.declared.scan_words.Scan.{Scan}

-- the range that the words give
abbrev pub range_asked : RangeWords → asked.RangeWords
range_asked words = record { column = words.column; low = words.low; high = words.high }

-- what the words ask for
abbrev pub query_of : Scan → asked.Query
query_of words = record {
  snapshot = words.snapshot;
  columns = words.columns;
  range = option_map range_asked words.range;
  skip = words.skip;
  most = words.take;
}

-- under metadata and a keyring the chosen rows are printed, and the status is that of the scan
pub record PrintsChosen (table : Option Objects) (meta : Fields) (ring : Ring)
    (query : asked.Query) (before now : Option (List ℕ)) (answer : Status) : Type 0 where
  pub result : Result ℕ ScanFault
  pub is_status : answer ≡ status_of_scan result
  pub start : PrintsStart table (columns_asked meta) meta.heading.location
      (start_of meta ring query) before now result
  pub table_rows : PrintsTable table meta ring query before now result
  pub committed : PrintsCommitted table meta ring query before now result
  pub complete : PrintsComplete table meta ring query before now result

-- this refusal is answered and nothing is printed
abbrev pub Refuses : Status → Option (List ℕ) → Option (List ℕ) → Status → Type 0
Refuses refusal before now answer =
    ((answer ≡ refusal) ⊎ EndsEarly answer) × (now ≡ before)

-- the keyring is refused, and then the metadata, and else the chosen rows are printed; a fault or
-- want of memory may end the command before
abbrev pub ScanAnswers : Option Objects → asked.Query → Result Ring KeysFault
    → Result Fields CurrentFault → Option (List ℕ) → Option (List ℕ) → Status → Type 0
ScanAnswers table query (Err fault) meta before now answer =
    Refuses (status_of_keys fault) before now answer
ScanAnswers table query (Ok ring) (Err fault) before now answer =
    Refuses (status_of_current fault) before now answer
ScanAnswers table query (Ok ring) (Ok meta) before now answer =
    PrintsChosen table meta ring query before now answer
    ⊎ (EndsEarly answer × (now ≡ before))

-- nothing but the keyring, the metadata that was handed in, the output and counts was changed
abbrev pub LeavesTheRest : Outside → Outside → Type 0
LeavesTheRest before now = now ≡ record before {
  keys = now.keys;
  trusted = now.trusted;
  out = now.out;
  faults = record before.faults {
    table = now.faults.table;
    keys = now.faults.keys;
    trusted = now.faults.trusted;
    out = now.faults.out;
  };
}

-- this is answered over a keyring and metadata that tell of themselves
pub record IsScan (words : Scan) (before now : Outside) (answer : Status) : Type 0 where
  pub answered : IfSome before.keys (λ keyring.
      IfSome (metadata_told words.is_handed_in before.table before.trusted) (λ meta.
      ScanAnswers before.table (query_of words) (keyring_of keyring) meta
      before.out now.out answer))
  pub rest : LeavesTheRest before now
