-- What a scan answers, by where it begins and what it shows below a list.
use Rattle.std.specs.Prelude.{◌≡◌, ℕ, List, [], Option, Some, None, IfSome, Result, Ok, Err}
use Rattle.std.proofs.Common.{refl, sym, subst, inl, inr}
use Rattle.icb_base.proofs.CallLemmas.{writes_at_rest}
use Rattle.icb_base.specs.Objects.{Objects}
use Rattle.icb_base.specs.declared.storage.Store as store
use Rattle.icb_base.specs.declared.transfer.Sink as sink
use Rattle.icb_types.specs.declared.columns.Column.{Column}
use Rattle.icb_datafile.specs.Left.{all_of}
use Rattle.icb_datafile.specs.Plans.{selection_by}
use Rattle.icb_table.specs.Contents.{contents_of}
use Rattle.icb_table.specs.Listed.{Listed}
use Rattle.icb_table.specs.Selection.{Selection, chosen}
use Rattle.icb_table.specs.Snapshots.{Refused}
use Rattle.icb_table.specs.Tree.{tree_below}
use Rattle.icb_walk.specs.Judged.{listing}
use Rattle.icb_walk.specs.declared.walk.Walk.{Walk}
use Rattle.icb_scan.proofs.ScanLemmas.{asks_nothing}
use Rattle.icb_scan.specs.Answers.{ShowsBelow, rows_read}
use Rattle.icb_scan.specs.Leaves.{IsSink}
use Rattle.icb_scan.specs.Scans.{IsUntouched, Scans, ShowsListed}
use Rattle.icb_scan.specs.Start.{Begins, Start, StandsAt, Unbegun}
use Rattle.icb_scan.specs.declared.begin.Begun.{Begun}
use Rattle.icb_scan.specs.declared.fault.ScanFault.{ScanFault}
use Rattle.icb_scan.specs.declared.fault.ScanFault.TheVariants as fault

-- nothing was shown, as no memory was left
shows_nothing : {Self Out : Type 0} (of : store.Ghosts Self) (out : sink.Ghosts Out) (files : Objects) (columns : List Column) (location : List ℕ) (s : Selection) (list : Listed) (x : Self) (before : Out)
    → ShowsBelow of out files (all_of columns) location s list x x before before (Err fault.NoMemory)
shows_nothing of out files columns location s list x before plain allows has = record {
  shown = [];
  unshown = chosen s (rows_read (contents_of (all_of columns) plain) s (tree_below location (contents_of (all_of columns) plain) list)).items;
  are_chosen = refl;
  writes = writes_at_rest out (IsSink (let r : Result ℕ ScanFault = Err fault.NoMemory in r)) before (λ e. let never : ⊥ = cc in never);
  answer = tt;
  asks = asks_nothing _ (of.asked x);
  moves = asks_nothing _ (of.moved x);
}

untouched : {Self Out : Type 0} (x : Self) (before : Out) → IsUntouched x x before before
untouched x before = record { same_store = refl; same_sink = refl }

if_any : {A : Type 0} (o : Option A) (P : A → Type 0) → ((a : A) → P a) → IfSome o P
if_any None P all = tt
if_any (Some a) P all = all a

-- it didn't begin
pub scans_unbegun : {Self Out : Type 0} (of : store.Ghosts Self) (out : sink.Ghosts Out) (columns : List Column) (location : List ℕ) (r : Result Start Unbegun) (e : ScanFault) (x : Self) (before : Out)
    → Begins columns location r (Err e) → Scans of out columns location r x x before before (Err e)
scans_unbegun {Self} {Out} of out columns location (Ok start) e x before h =
    subst (λ (d : ScanFault). ShowsListed of out columns location start.selection start.list x x before before (Err d)) (sym h) (by_list start.list)
  where
    by_list : (list : Option Listed) → ShowsListed of out columns location start.selection list x x before before (Err fault.NoMemory)
    by_list None = (inr refl, untouched x before)
    by_list (Some f) = if_any (of.held x) _ (λ files. shows_nothing of out files columns location start.selection f x before)
scans_unbegun of out columns location (Err u) e x before h = ((e, refl, h), untouched x before)

-- there is no snapshot
pub scans_none : {Self Out : Type 0} (of : store.Ghosts Self) (out : sink.Ghosts Out) (columns : List Column) (location : List ℕ) (r : Result Start Unbegun) (b : Begun) (x : Self) (before : Out)
    → Begins columns location r (Ok b) → b.walk ≡ None → Scans of out columns location r x x before before (Ok 0)
scans_none of out columns location (Err u) b x before h none = absurd h
scans_none of out columns location (Ok start) b x before h none = by_list start.list (subst (StandsAt location start.list) none h.walk)
  where
    by_list : (list : Option Listed) → StandsAt location list None → ShowsListed of out columns location start.selection list x x before before (Ok 0)
    by_list None s = (inl refl, untouched x before)
    by_list (Some f) s = absurd s

-- the rows below a list are shown
pub scans_below : {Self Out : Type 0} (of : store.Ghosts Self) (out : sink.Ghosts Out) (columns : List Column) (location : List ℕ) (r : Result Start Unbegun) (b : Begun) (w : Walk) (x y : Self) (before after : Out)
    (result : Result ℕ ScanFault) → Begins columns location r (Ok b) → b.walk ≡ Some w
    → IfSome (of.held x) (λ files. ShowsBelow of out files (all_of columns) w.location (selection_by columns b.plan) (listing w.list) x y before after result)
    → Scans of out columns location r x y before after result
scans_below of out columns location (Err u) b w x y before after result h is shows = absurd h
scans_below of out columns location (Ok start) b w x y before after result h is shows =
    by_list start.list (subst (StandsAt location start.list) is h.walk)
  where
    by_list : (list : Option Listed) → StandsAt location list (Some w) → ShowsListed of out columns location start.selection list x y before after result
    by_list None s = absurd s
    by_list (Some f) s =
        let same : listing w.list ≡ f = the_same (listing w.list) f (sym s.is_list) in
        subst (λ (g : Listed). IfSome (of.held x) (λ files. ShowsBelow of out files (all_of columns) location start.selection g x y before after result)) same
        (subst (λ (l : List ℕ). IfSome (of.held x) (λ files. ShowsBelow of out files (all_of columns) l start.selection (listing w.list) x y before after result)) s.same_location
        (subst (λ (t : Selection). IfSome (of.held x) (λ files. ShowsBelow of out files (all_of columns) w.location t (listing w.list) x y before after result)) (sym h.plan.chooses) shows))
      where
        the_same : (f g : Listed) → (let a : Result Listed Refused = Ok f in a) ≡ Ok g → f ≡ g
        the_same f g e = cc
