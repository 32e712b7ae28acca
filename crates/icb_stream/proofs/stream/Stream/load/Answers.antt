-- What the room has is the part of its block.
use Rattle.std.proofs.Common.{◌≤◌, length, take, drop, None, Err, refl, subst, ◌∙◌}
use Rattle.std.specs.Prelude.{IfSome}
use Rattle.std.proofs.lemmas.Result.{err_from_is_err_and}
use Rattle.icb_base.specs.Objects.{object_at}
use Rattle.icb_stream.specs.Belongs.{StreamValue}
use Rattle.icb_stream.specs.Cut.{part_size}
use Rattle.icb_stream.specs.Progress.{Loads}
use Rattle.icb_stream.proofs.LoadLemmas.{load_refused, loaded}
use Rattle.icb_stream.proofs.stream.Stream.load.Goals as goal

pub returns-in_err-open_in-clause-loads : goal.returns-in_err-open_in-clause-loads
returns-in_err-open_in-clause-loads g c =
    let p = err_from_is_err_and c.from_residual.result c.from_residual.ensures.1 in
    let P : StreamValue → Type 0 = λ s. IfSome (g.S.Store.held c.args.store.now)
    (λ files. IfSome (object_at files s.path) (λ object. s.layout.recorded ≤ length object
    → Loads object s.layout c.args.number None (Err c.in_err-open_in.field-0.0))) in
    rw (p.1, p.2) (subst P c.self.view_is (load_refused (g.S.Store.held c.args.store.now) c.self.inside.path
    (record {
      key = c.self.inside.opener.key;
      prefix = c.self.inside.opener.prefix;
      recorded = c.self.inside.cut.recorded;
      block_length = c.self.inside.cut.block_length;
    })
    c.args.number (take (part_size c.self.inside.cut.block_length c.self.inside.cut.recorded c.args.number)
    (drop 12 c.open_in.new.room)) None c.in_err-open_in.field-0.0 (rw (← c.self.view_is) at c.requires) c.in_err-open_in.ensures.opens))

pub returns-clause-loads : goal.returns-clause-loads
returns-clause-loads g c =
    rw (← c.self.view_is) (loaded (g.S.Store.held c.args.store.now) c.self.inside.path _ c.args.number
    c.open_in.new.room _ _ c.self.inside.room.len (rw (← c.self.view_is) at c.requires) refl
    (c.open_in.auto.room ∙ c.as_mut_slice-room.ensures.len) c.in_ok-open_in.ensures.opens)
