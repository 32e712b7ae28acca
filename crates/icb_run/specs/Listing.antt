-- The commands that print what a table's current metadata says.
use Rattle.std.specs.Prelude.{ℕ, List, [], IfSome, Result, Ok, Err}
use Rattle.serde_json.specs.Data.{Data}
use Rattle.icb_listing.specs.Lines.{keys_text, snapshots_text}
use Rattle.icb_meta.specs.declared.fields.Fields.{Fields}
use Rattle.icb_run.specs.Answers.{Answer, LeavesAllButOutAndTable, Prints}
use Rattle.icb_run.specs.Current.{status_of_current}
use Rattle.icb_run.specs.Outside.{Outside}
use Rattle.icb_run.specs.declared.listing.Listing.{Listing}
use Rattle.icb_run.specs.declared.listing.Listing.TheVariants as listing
use Rattle.icb_run.specs.declared.status.Status.{Status}
use Rattle.icb_run.specs.declared.status.Status.TheVariants as status
use Rattle.icb_tree.specs.Versions.{current_of}
use Rattle.icb_tree.specs.declared.fault.CurrentFault.{CurrentFault}

-- what is printed of metadata
abbrev pub text_of : Listing → Fields → List ℕ
text_of listing.Snapshots = snapshots_text
text_of listing.Keys = keys_text

-- the text of the current metadata, or the status of why there is none
abbrev pub listed : Listing → Result (ℕ × (Data × Fields)) CurrentFault → Answer
listed which (Ok current) = record { status = status.Ok; text = text_of which current.1.1 }
listed which (Err fault) = record { status = status_of_current fault; text = [] }

-- this answer is given over a table that tells its objects, and nothing but the output was changed
pub record IsListing (which : Listing) (before now : Outside) (answer : Status) : Type 0 where
  pub answered : IfSome before.table (λ files.
      Prints (listed which (current_of files)) before.out now.out answer)
  pub rest : LeavesAllButOutAndTable before now
