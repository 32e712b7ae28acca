use Rattle.std.proofs.Common.{◌≡◌, IfSome}
use Rattle.icb_base.specs.Causes.{Blames}
use Rattle.icb_datafile.specs.Plans.{KeepsWords}
use Rattle.icb_walk.specs.Judged.{listing}
use Rattle.icb_walk.specs.Steps.{ReadsStore}
use Rattle.icb_scan.proofs.TurnLemmas.{Stands}
use Rattle.icb_scan.proofs.below.scan_below.Given as goal

abbrev pub invariant-files : goal.invariant-files
invariant-files g l = record {
  shows : IfSome (g.S.Store.held l.initial.store) (Stands g.S.Store g.O.Sink l.schema.columns l.initial.walk.location (listing l.initial.walk.list) l.initial.plan
      l.plan l.walk l.initial.store l.store l.initial.sink l.sink);
  words : KeepsWords l.initial.plan l.plan;
  same_list : l.walk.list ≡ l.initial.walk.list;
  reads : ReadsStore g.S.Store ⊥ l.initial.store l.store;
  count : Blames ⊥ (g.O.Sink.faults l.initial.sink) (g.O.Sink.faults l.sink);
}
