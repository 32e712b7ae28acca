-- A piece is read to its end, or up to a block that is refused, or not read.
use Rattle.std.proofs.Common.{length, Err}
use Rattle.icb_run.proofs.ToldLemmas.{where_told}
use Rattle.icb_run.proofs.CopyLemmas.{open_object, piece_ended, size_before}
use Rattle.icb_run.proofs.CopyLemmas.{slice_of_held}
use Rattle.icb_run.proofs.cat_file.copy_piece.Goals as goal

pub returns-in-Err-clause-gives : goal.returns-in-Err-clause-gives
returns-in-Err-clause-gives g c =
    where_told (g.S.Store.held c.args.table.now)
    (λ files reads belongs.
    let front = slice_of_held files c.args.stream.now c.args.at (length c.args.piece.now) c.read_at.new.out
    (Err c.in-Err.fault) c.read_at.auto.out belongs (reads belongs) in
    piece_ended c.args.stream.now.path _ c.read_at.new.out c.in-Err.fault c.end_copy.result _ _ _ _ front
    (λ number refused. size_before _ c.args.stream.now.layout c.read_at.new.self.layout _ _ number _
    c.block_length.ensures.block_length c.read_at.ensures.after.same_layout
    (open_object files c.args.stream.now belongs) c.requires refused)
    c.end_copy.ensures.ends)
    c.in-Err.ensures.slice
