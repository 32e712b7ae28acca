-- Each piece goes on from the last one, and the first fault ends copying.
use Rattle.std.proofs.Common.{◌≡◌, ◌∙◌, ◌≤◌, ◌+◌, length, take, length-take, refl, arith, rules}
use Rattle.std.proofs.lemmas.Result.{err_from_is_err_and}
use Rattle.icb_run.proofs.ToldLemmas.{unless_told, where_both_told, where_three_told}
use Rattle.icb_run.proofs.CopyLemmas.{copied_nothing, piece_last, piece_more}
use Rattle.icb_run.proofs.cat_file.copy_pieces.Goals as goal

pub loop-at-init : goal.loop-at-init
loop-at-init g c = record {
  layout = refl;
  path = refl;
  after = omega arith;
  reached = omega arith;
  same_table = refl;
  table_count = refl;
  out_count = refl;
  belongs = unless_told (g.S.Store.held c.args.table.now) (λ files belongs. belongs);
  copied = unless_told (g.S.Store.held c.args.table.now)
      (λ files belongs. copied_nothing _ _ _ _ _ (omega arith));
}

pub loop-at-preserved : goal.loop-at-preserved
loop-at-preserved g c =
    let kept = c.loop-at.invariant in
    let did = c.in_ok-copy_piece.ensures in
    let size : length (take c.min-piece.result c.loop-at.buffer) ≡ c.min-piece.result =
    simp length-take (omega arith) in
    let near : c.loop-at.at + c.min-piece.result ≤ c.args.end = omega arith in
    record {
      layout = did.same_layout ∙ kept.layout;
      path = did.same_path ∙ kept.path;
      after = omega (arith, kept.after);
      reached = near;
      same_table = did.reads.same ∙ kept.same_table;
      table_count = did.reads.count.stays (search rules) ∙ kept.table_count;
      out_count = did.writes.stays (search rules) ∙ kept.out_count;
      belongs = where_both_told (g.S.Store.held c.args.table.now) (λ files before after belongs. after (before belongs))
          kept.belongs (rw kept.same_table at did.belongs);
      copied = where_three_told (g.S.Store.held c.args.table.now)
          (λ files stays copied gives. piece_more files c.args.stream.now c.loop-at.stream c.args.start
          c.loop-at.at c.min-piece.result _ _ _ _ size kept.layout kept.path kept.after
          (omega (arith, near, c.requires.range.1)) stays copied gives)
          kept.belongs kept.copied
          (rw kept.same_table at did.gives);
    }

pub returns-in_err-copy_piece-clause-gives : goal.returns-in_err-copy_piece-clause-gives
returns-in_err-copy_piece-clause-gives g c =
    let kept = c.loop-at.invariant in
    let did = c.in_err-copy_piece.ensures in
    let p = err_from_is_err_and c.from_residual.result c.from_residual.ensures.1 in
    let size : length (take c.min-piece.result c.loop-at.buffer) ≡ c.min-piece.result =
    simp length-take (omega arith) in
    let near : c.loop-at.at + c.min-piece.result ≤ c.args.end = omega arith in
    rw (p.1, p.2) (where_three_told (g.S.Store.held c.args.table.now)
    (λ files stays copied gives. piece_last files c.args.stream.now c.loop-at.stream c.args.start c.loop-at.at
    c.min-piece.result c.args.end _ c.in_err-copy_piece.field-0.0 _ _ _ size kept.layout kept.path
    kept.after near c.requires.range.1 stays copied gives)
    kept.belongs kept.copied
    (rw kept.same_table at did.gives))
