-- Where a scan begins, by what its tests find.
use Rattle.std.specs.Prelude.{◌≡◌, ℕ, ℤ, List, Option, Some, None, Result, Ok, Err}
use Rattle.std.proofs.Common.{refl, ap, sym, subst}
use Rattle.icb_chain.specs.declared.fault.ChainFault.TheVariants as chain
use Rattle.icb_rows.specs.declared.fault.RangeFault.{RangeFault}
use Rattle.icb_rows.specs.declared.fault.RangeFault.TheVariants as words
use Rattle.icb_types.specs.declared.columns.Column.{Column}
use Rattle.icb_datafile.specs.declared.plan.Plan.{Plan}
use Rattle.icb_table.specs.Listed.{Listed}
use Rattle.icb_table.specs.Selection.{Selection}
use Rattle.icb_table.specs.Snapshots.{Refused, list_of}
use Rattle.icb_table.specs.Snapshots as refused
use Rattle.icb_walk.specs.Judged.{listing}
use Rattle.icb_walk.specs.Start.{IsFirst, StandsBefore}
use Rattle.icb_walk.specs.declared.fault.TreeFault.{TreeFault}
use Rattle.icb_walk.specs.declared.fault.TreeFault.TheVariants as tree
use Rattle.icb_walk.specs.declared.walk.Walk.{Walk}
use Rattle.icb_scan.specs.Planning.{IsPlanFor}
use Rattle.icb_scan.specs.Planning as planning
use Rattle.icb_scan.specs.Start.{Begins, IsUnbegun, Start, Unbegun, ◌>>=◌, bad_words, list_found, no_list, of_tree, of_words, words_found}
use Rattle.icb_scan.specs.declared.begin.Begun.{Begun}
use Rattle.icb_scan.specs.declared.fault.ScanFault.{ScanFault}
use Rattle.icb_scan.specs.declared.fault.ScanFault.TheVariants as fault

-- where a scan begins, by the three tests
abbrev pub start_from : Result (Unit {0}) Unbegun → Result Selection RangeFault → Result (Option Listed) Unbegun → Result Start Unbegun
start_from found selection list = found >>= (λ _. words_found selection >>= (λ s. list >>= (λ l. Ok (record { list = l; selection = s }))))

-- by equal tests it begins so too
pub begins_with : (columns : List Column) (location : List ℕ) (found found2 : Result (Unit {0}) Unbegun) (sel sel2 : Result Selection RangeFault) (list list2 : Result (Option Listed) Unbegun)
    (r : Result Begun ScanFault) → found ≡ found2 → sel ≡ sel2 → list ≡ list2 → Begins columns location (start_from found2 sel2 list2) r → Begins columns location (start_from found sel list) r
begins_with columns location found found2 sel sel2 list list2 r a b c h =
    subst (λ (x : Result (Unit {0}) Unbegun). Begins columns location (start_from x sel list) r) (sym a)
    (subst (λ (x : Result Selection RangeFault). Begins columns location (start_from found2 x list) r) (sym b)
    (subst (λ (x : Result (Option Listed) Unbegun). Begins columns location (start_from found2 sel2 x) r) (sym c) h))

-- want of memory may come always
pub begins_memory : (columns : List Column) (location : List ℕ) (r : Result Start Unbegun) → Begins columns location r (Err fault.NoMemory)
begins_memory columns location (Ok start) = refl
begins_memory columns location (Err u) = memory u
  where
    memory : (u : Unbegun) → IsUnbegun u fault.NoMemory
    memory (bad_words e) = tt
    memory (no_list e) = tt

-- the snapshot isn't there
pub begins_missing : (columns : List Column) (location : List ℕ) (found : Result (Unit {0}) Unbegun) (sel : Result Selection RangeFault) (list : Result (Option Listed) Unbegun) (id : ℤ)
    → found ≡ Err (no_list (refused.no_snapshot id)) → Begins columns location (start_from found sel list) (Err (fault.Tree (tree.NoSnapshot id)))
begins_missing columns location found sel list id e = begins_with columns location found _ sel sel list list _ e refl refl refl

-- a query's words are refused
pub begins_words : (columns : List Column) (location : List ℕ) (found : Result (Unit {0}) Unbegun) (sel : Result Selection RangeFault) (list : Result (Option Listed) Unbegun) (e : RangeFault)
    → found ≡ Ok tt → planning.IsFirst sel e → Begins columns location (start_from found sel list) (Err (of_words e))
begins_words columns location found sel list (words.NoColumn name) a h = begins_with columns location found (Ok tt) sel (Err (words.NoColumn name)) list list _ a h refl refl
begins_words columns location found sel list (words.BadRange name) a h = begins_with columns location found (Ok tt) sel (Err (words.BadRange name)) list list _ a h refl refl
begins_words columns location found sel list words.NoMemory a h = begins_memory columns location (start_from found sel list)

-- the list is refused
pub begins_list : (columns : List Column) (location : List ℕ) (found : Result (Unit {0}) Unbegun) (sel : Result Selection RangeFault) (s : Selection) (list : Result Listed Refused) (e : TreeFault)
    → found ≡ Ok tt → sel ≡ Ok s → IsFirst list e → Begins columns location (start_from found sel (list_found list)) (Err (of_tree e))
begins_list columns location found sel s list e a b h = by_fault e h
  where
    refuses : (e : TreeFault) (w : Refused) → list ≡ Err w → Begins columns location (Err (no_list w)) (Err (of_tree e)) → Begins columns location (start_from found sel (list_found list)) (Err (of_tree e))
    refuses e w is h = begins_with columns location found (Ok tt) sel (Ok s) (list_found list) (Err (no_list w)) _ a b (ap list_found is) h

    by_fault : (e : TreeFault) → IsFirst list e → Begins columns location (start_from found sel (list_found list)) (Err (of_tree e))
    by_fault (tree.NoSnapshot id) h = refuses (tree.NoSnapshot id) (refused.no_snapshot id) h refl
    by_fault (tree.PlainList id) h = refuses (tree.PlainList id) (refused.plain_list id) h refl
    by_fault (tree.Chain (chain.NoKey id)) h = refuses (tree.Chain (chain.NoKey id)) (refused.no_key (chain.NoKey id)) h refl
    by_fault (tree.Chain (chain.KeyRefused id)) h = refuses (tree.Chain (chain.KeyRefused id)) (refused.no_key (chain.KeyRefused id)) h refl
    by_fault (tree.Chain chain.NoMemory) h = absurd h
    by_fault (tree.BadList id file what) (u, is, same) = refuses (tree.BadList id file what) (refused.bad_list id file u) is (u, refl, same)
    by_fault (tree.At path c) h = absurd h
    by_fault tree.Store h = absurd h
    by_fault tree.NoMemory h = begins_memory columns location (start_from found sel (list_found list))

-- it begins, with a walk or without
pub begins_none : (columns : List Column) (location : List ℕ) (found : Result (Unit {0}) Unbegun) (sel : Result Selection RangeFault) (s : Selection) (list : Result (Option Listed) Unbegun) (p : Plan)
    → found ≡ Ok tt → sel ≡ Ok s → list ≡ Ok None → IsPlanFor columns s p → Begins columns location (start_from found sel list) (Ok (record { plan = p; walk = None }))
begins_none columns location found sel s list p a b c plan =
    begins_with columns location found (Ok tt) sel (Ok s) list (Ok None) _ a b c (record { plan = plan; walk = tt })

pub begins_walk : (columns : List Column) (location : List ℕ) (found : Result (Unit {0}) Unbegun) (sel : Result Selection RangeFault) (s : Selection) (list : Result Listed Refused) (p : Plan) (w : Walk)
    → found ≡ Ok tt → sel ≡ Ok s → IsPlanFor columns s p → StandsBefore location list w
    → Begins columns location (start_from found sel (list_found list)) (Ok (record { plan = p; walk = Some w }))
begins_walk columns location found sel s list p w a b plan stands =
    begins_with columns location found (Ok tt) sel (Ok s) (list_found list) (Ok (Some (listing w.list))) _ a b (ap list_found stands.is_list)
    (record { plan = plan; walk = record { same_location = stands.same_location; is_list = refl; unopened = stands.unopened; none_open = stands.none_open } })
