-- Each piece goes on where the last one ended.
use Rattle.std.proofs.Common.{◌≡◌, ◌-◌, ◌≤◌}
use Rattle.std.specs.Prelude.{IfSome}
use Rattle.icb_stream.specs.Belongs.{BelongsTo}
use Rattle.icb_run.proofs.CopyLemmas.{HasCopied}
use Rattle.icb_run.specs.CatFile.{held_object}
use Rattle.icb_run.proofs.cat_file.copy_pieces.Given as goal

abbrev pub invariant-loop-at : goal.invariant-loop-at
invariant-loop-at g l = record {
  layout : l.stream.layout ≡ l.initial.stream.layout;
  path : l.stream.path ≡ l.initial.stream.path;
  after : l.start ≤ l.at;
  reached : l.at ≤ l.end;
  same_table : g.S.Store.held l.table ≡ g.S.Store.held l.initial.table;
  table_count : g.S.Store.faults l.table ≡ g.S.Store.faults l.initial.table;
  out_count : g.O.Sink.faults l.out ≡ g.O.Sink.faults l.initial.out;
  belongs : IfSome (g.S.Store.held l.initial.table) (λ files.
      BelongsTo l.initial.stream files → BelongsTo l.stream files);
  copied : IfSome (g.S.Store.held l.initial.table) (λ files. BelongsTo l.initial.stream files
      → HasCopied (held_object files l.initial.stream.path) l.initial.stream.layout l.start (l.at - l.start)
      (g.O.Sink.written l.initial.out) (g.O.Sink.written l.out));
}

abbrev pub decreases-loop-at : goal.decreases-loop-at
decreases-loop-at g l = l.end - l.at
