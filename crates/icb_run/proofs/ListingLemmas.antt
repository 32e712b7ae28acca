-- How commands that only read the table and write the output end.
use Rattle.std.proofs.Common.{◌≡◌, ◌≢◌, ℕ, List, Option, refl, ap}
use Rattle.std.specs.Prelude.{IfSome}
use Rattle.icb_base.specs.Causes.{Blames}
use Rattle.icb_base.specs.Objects.{Objects}
use Rattle.icb_run.specs.Answers.{Gives, LeavesAllButOutAndTable, Prints}
use Rattle.icb_run.specs.CatFile.{IsCatFile, cat_file_answer}
use Rattle.icb_run.specs.Listing.{IsListing, listed}
use Rattle.icb_run.specs.Outside.{FaultsEnd, Outside}
use Rattle.icb_run.specs.Sources.{AreUnread}
use Rattle.icb_run.specs.declared.listing.Listing.{Listing}
use Rattle.icb_run.specs.declared.status.Status.{Status}
use Rattle.icb_run.specs.declared.status.Status.TheVariants as status
use Rattle.icb_tree.specs.Versions.{current_of}
use Rattle.icb_words.specs.declared.words.CatFile.{CatFile}
use Rattle.icb_run.proofs.EndLemmas.{four_end, unblamed}

-- the outside after calls of the table and the output
abbrev pub after : Outside → Option Objects → Option (List ℕ) → ℕ → ℕ → Outside
after before table out table_count out_count = record before {
  table = table;
  out = out;
  faults = record before.faults { table = table_count; out = out_count };
}

-- where the table holds what it held nothing else was changed
rest_same : (before : Outside) (table : Option Objects) (out : Option (List ℕ)) (table_count out_count : ℕ)
    → table ≡ before.table → LeavesAllButOutAndTable before (after before table out table_count out_count)
rest_same before table out table_count out_count same =
    ap (λ (held : Option Objects). after before held out table_count out_count) same

-- the counts say how such a command ended
counts_end : (before : Outside) (table : Option Objects) (out : Option (List ℕ)) (table_count out_count : ℕ) (s : Status)
    → Blames (s ≡ status.StoreFault) before.faults.table table_count
    → Blames (s ≡ status.OutputFault) before.faults.out out_count
    → s ≢ status.InputFault → s ≢ status.RandomFault
    → FaultsEnd before (after before table out table_count out_count) s
counts_end before table out table_count out_count s store output no_input no_random =
    four_end before (after before table out table_count out_count) s store
    (unblamed before.faults.input before.faults.input refl no_input)
    (unblamed before.faults.draws before.faults.draws refl no_random)
    output refl refl refl

-- an end of such a command, in its own words, those of its sources, and those of the counts
pub record Ends (means : Outside → Outside → Status → Type 0) (before now : Outside) (s : Status) : Type 0 where
  pub meets : means before now s
  pub read : AreUnread before now s
  pub ends : FaultsEnd before now s

-- a command that prints what metadata says
pub list_ends : (which : Listing) (before : Outside) (table : Option Objects) (out : Option (List ℕ))
    (table_count out_count : ℕ) (s : Status)
    → table ≡ before.table
    → IfSome before.table (λ files. Prints (listed which (current_of files)) before.out out s)
    → Blames (s ≡ status.StoreFault) before.faults.table table_count
    → Blames (s ≡ status.OutputFault) before.faults.out out_count
    → s ≢ status.InputFault → s ≢ status.RandomFault
    → Ends (IsListing which) before (after before table out table_count out_count) s
list_ends which before table out table_count out_count s same prints store output no_input no_random = record {
  meets = record {
    answered = prints;
    rest = rest_same before table out table_count out_count same;
  };
  read = record { input = refl; keys = refl; trusted = refl };
  ends = counts_end before table out table_count out_count s store output no_input no_random;
}

-- a command that writes a plaintext
pub copy_ends : (words : CatFile) (before : Outside) (table : Option Objects) (out : Option (List ℕ))
    (table_count out_count : ℕ) (s : Status)
    → table ≡ before.table
    → IfSome before.table (λ files. Gives (cat_file_answer files words) before.out out s)
    → Blames (s ≡ status.StoreFault) before.faults.table table_count
    → Blames (s ≡ status.OutputFault) before.faults.out out_count
    → s ≢ status.InputFault → s ≢ status.RandomFault
    → Ends (IsCatFile words) before (after before table out table_count out_count) s
copy_ends words before table out table_count out_count s same gives store output no_input no_random = record {
  meets = record {
    answered = gives;
    rest = rest_same before table out table_count out_count same;
  };
  read = record { input = refl; keys = refl; trusted = refl };
  ends = counts_end before table out table_count out_count s store output no_input no_random;
}
