-- The range is read up to the end of its blocks, or to the first that has no part.
use Rattle.std.proofs.Common.{◌≡◌, ℕ, ◌+◌, ◌*◌, ◌≤◌, List, length, true, false, refl, sym, subst, ◌∙◌, arith}
use Rattle.std.proofs.lemmas.Bool.{eqb-false, eqb-true}
use Rattle.std.proofs.lemmas.Result.{err_from_is_err_and}
use Rattle.icb_base.proofs.CallLemmas.{reads_at_rest}
use Rattle.icb_stream.specs.Asking.{has_number}
use Rattle.icb_stream.specs.Layout.{blocks, plain_length}
use Rattle.icb_stream.proofs.AskingLemmas.{asks_not, asks_touched, holds_first, holds_last, holds_more, holds_nothing, holds_same, number_is, reads_ended, reads_more, reads_same, reads_well}
use Rattle.icb_stream.proofs.FrontLemmas.{Touches}
use Rattle.icb_stream.proofs.ReadLemmas.{IsEnd, Reading, next_touched, of_belonging, reading_begins, reading_ends, reading_more, reading_nothing, reading_skips, reading_whole, of_parts, stops, untouched_after, untouched_before}
use Rattle.icb_stream.proofs.stream.Stream.read_at.Goals as goal

pub returns-then-is_empty-clause-slice : goal.returns-then-is_empty-clause-slice
returns-then-is_empty-clause-slice g c = reading_nothing (g.S.Store.held c.args.store.now) c.args.self.now c.args.at
    c.fill.new.self (eqb-true _ _ (sym c.is_empty.ensures ∙ c.if-is_empty.true))

pub returns-then-is_empty-clause-after : goal.returns-then-is_empty-clause-after
returns-then-is_empty-clause-after g c = record {
  same_path = refl;
  same_layout = refl;
  fault = tt;
  holds = holds_nothing c.args.self.now c.args.at (length c.args.out.now)
      (let none = eqb-true _ _ (sym c.is_empty.ensures ∙ c.if-is_empty.true) in omega (arith, none, c.fill.ensures.len));
  holds_none = tt;
}

pub loop-number-init : goal.loop-number-init
loop-number-init g c =
    let P : List ℕ → Type 0 = λ out. Reading (g.S.Store.held c.args.store.now) c.args.self.now c.args.self.now
    c.args.at out c.block_of_place-first.result in
    record {
      same_path = refl;
      same_layout = refl;
      holds = holds_first c.args.self.now c.args.at _ c.block_of_place-first.result
          (untouched_before c.args.self.now.layout c.args.at _ c.block_of_place-first.result
          (rw (← c.self.view_is) c.block_of_place-first.ensures.number)
          (rw (← c.self.view_is) c.block_of_place-first.ensures.begins));
      read = subst P (sym c.copy_block.ensures) (reading_begins (g.S.Store.held c.args.store.now) c.args.self.now
          c.args.at (length c.args.out.now) c.block_of_place-first.result c.fill.new.self
          (rw (← c.self.view_is) c.block_of_place-first.ensures.number)
          (rw (← c.self.view_is) c.block_of_place-first.ensures.begins)
          (omega (arith, c.requires, c.fill.ensures.len)) (c.fill.ensures.after (λ y h. h)));
      reads = reads_at_rest g.S.Store c.args.self.now.path _ _ ⊥ c.args.store.now
          (g.met.S.Store.kept_at_rest c.args.store.now) (λ f. f);
    }

pub loop-number-preserved-then-eq : goal.loop-number-preserved-then-eq
loop-number-preserved-then-eq g c =
    let held : has_number c.args.self.now.block c.loop-number.number ≡ true =
    rw (← c.self.view_is) (number_is c.self.inside.held _ c.loop-number.number
    ∙ sym c.eq.ensures ∙ c.if-eq.true) in
    record {
      same_path = c.loop-number.invariant.same_path;
      same_layout = c.loop-number.invariant.same_layout;
      holds = c.loop-number.invariant.holds ∙ holds_same c.args.self.now c.args.at (length c.loop-number.out)
          c.loop-number.number (asks_not c.args.self.now c.args.at (length c.loop-number.out)
          c.loop-number.number held);
      read = reading_skips (g.S.Store.held c.args.store.now) c.args.self.now c.loop-number.self c.args.at
          c.loop-number.out c.loop-number.number held c.loop-number.invariant.read;
      reads = reads_same g.S.Store c.args.self.now c.args.at (length c.loop-number.out) c.loop-number.number
          c.args.store.now c.loop-number.store (asks_not c.args.self.now c.args.at (length c.loop-number.out)
          c.loop-number.number held) c.loop-number.invariant.reads;
    }

pub loop-number-preserved : goal.loop-number-preserved
loop-number-preserved g c =
    let some = eqb-false _ _ (sym c.is_empty.ensures ∙ c.if-is_empty.false) in
    let touched : Touches c.args.self.now.layout c.args.at (length c.loop-number.out) c.loop-number.number =
    rw (← c.self.view_is) (next_touched
    (of_parts c.self.inside.opener.key c.self.inside.opener.prefix c.self.inside.cut.recorded c.self.inside.cut.block_length)
    c.args.at (length c.loop-number.out) _ c.block_of_place-first.result
    c.touched_end-end.result c.loop-number.number (omega (arith, some, c.loop-number.auto.out))
    (omega (arith, c.loop-number.auto.out)) c.block_of_place-first.ensures.ends c.touched_end-end.ensures.touched
    c.loop-number.auto.number c.loop-number-test.true) in
    let other : has_number c.args.self.now.block c.loop-number.number ≡ false =
    rw (← c.self.view_is) (number_is c.self.inside.held _ c.loop-number.number
    ∙ sym c.eq.ensures ∙ c.if-eq.false) in
    record {
      same_path = c.in_ok-read_block.ensures.after.same_path ∙ c.loop-number.invariant.same_path;
      same_layout = c.in_ok-read_block.ensures.after.same_layout ∙ c.loop-number.invariant.same_layout;
      holds = c.in_ok-read_block.ensures.after.holds ∙ holds_more c.args.self.now c.args.at (length c.loop-number.out)
          (length c.read_block.new.out) c.loop-number.number c.read_block.auto.out
          (asks_touched c.args.self.now c.args.at (length c.loop-number.out) c.loop-number.number touched other);
      read = reading_more (g.S.Store.held c.args.store.now) (g.S.Store.held c.loop-number.store) c.args.self.now
          c.loop-number.self c.read_block.new.self c.args.at c.loop-number.out c.read_block.new.out c.loop-number.number
          c.loop-number.invariant.reads.same c.loop-number.invariant.same_path c.loop-number.invariant.same_layout
          c.in_ok-read_block.ensures.after.same_path c.in_ok-read_block.ensures.after.same_layout
          (omega (arith, c.requires, c.loop-number.auto.out, c.fill.ensures.len)) c.in_ok-read_block.ensures.part
          c.in_ok-read_block.ensures.loads c.loop-number.invariant.read;
      reads = reads_well g.S.Store c.args.self.now.path _ _ _ c.args.store.now c.read_block.new.store
          (λ e. let f : ⊥ = cc in f)
          (reads_more g.S.Store c.args.self.now c.loop-number.self c.args.at (length c.loop-number.out)
          (length c.read_block.new.out) c.loop-number.number _ c.args.store.now c.loop-number.store c.read_block.new.store
          (g.met.S.Store.kept_twice _ _ _) c.read_block.auto.out c.loop-number.invariant.same_path
          c.loop-number.invariant.same_layout (asks_touched c.args.self.now c.args.at (length c.loop-number.out)
          c.loop-number.number touched other) c.loop-number.invariant.reads c.in_ok-read_block.ensures.reads);
    }

pub returns-in_err-read_block : goal.returns-in_err-read_block
returns-in_err-read_block g c =
    let p = err_from_is_err_and c.from_residual.result c.from_residual.ensures.1 in
    let some = eqb-false _ _ (sym c.is_empty.ensures ∙ c.if-is_empty.false) in
    let touched : Touches c.args.self.now.layout c.args.at (length c.loop-number.out) c.loop-number.number =
    rw (← c.self.view_is) (next_touched
    (of_parts c.self.inside.opener.key c.self.inside.opener.prefix c.self.inside.cut.recorded c.self.inside.cut.block_length)
    c.args.at (length c.loop-number.out) _ c.block_of_place-first.result
    c.touched_end-end.result c.loop-number.number (omega (arith, some, c.loop-number.auto.out))
    (omega (arith, c.loop-number.auto.out)) c.block_of_place-first.ensures.ends c.touched_end-end.ensures.touched
    c.loop-number.auto.number c.loop-number-test.true) in
    let most : c.touched_end-end.result ≤ blocks c.args.self.now.layout =
    rw (← c.self.view_is) c.touched_end-end.ensures.number in
    let ends = reading_ends (g.S.Store.held c.args.store.now) (g.S.Store.held c.loop-number.store) c.args.self.now
    c.loop-number.self c.read_block.new.self c.args.at c.loop-number.out c.read_block.new.out c.loop-number.number
    c.in_err-read_block.field-0.0
    c.loop-number.invariant.reads.same c.loop-number.invariant.same_path c.loop-number.invariant.same_layout
    c.in_err-read_block.ensures.after.same_path c.in_err-read_block.ensures.after.same_layout
    c.in_err-read_block.ensures.after.holds_none
    (omega (arith, c.requires, c.loop-number.auto.out, c.fill.ensures.len))
    (omega (arith, most, c.loop-number-test.true)) touched c.in_err-read_block.ensures.part
    c.loop-number.invariant.read in
    let other : has_number c.args.self.now.block c.loop-number.number ≡ false =
    rw (← c.self.view_is) (number_is c.self.inside.held _ c.loop-number.number
    ∙ sym c.eq.ensures ∙ c.if-eq.false) in
    record {
      slice = rw (p.1, p.2) (of_belonging (g.S.Store.held c.args.store.now) c.args.self.now _ _
          (λ files belongs h. h.1.slice) ends);
      only_known = of_belonging (g.S.Store.held c.args.store.now) c.args.self.now _ _ (λ files belongs h. h.1.zeros) ends;
      belongs = of_belonging (g.S.Store.held c.args.store.now) c.args.self.now _ _ (λ files belongs h. h.0) ends;
      after = rw (p.1, p.2) (record {
        same_path = c.in_err-read_block.ensures.after.same_path ∙ c.loop-number.invariant.same_path;
        same_layout = c.in_err-read_block.ensures.after.same_layout ∙ c.loop-number.invariant.same_layout;
        fault = c.in_err-read_block.ensures.after.fault;
        holds = tt;
        holds_none = c.in_err-read_block.ensures.after.holds_none;
      });
      reads = rw (p.1, p.2) (reads_ended g.S.Store c.args.self.now c.args.at (length c.loop-number.out) (length c.args.out.now)
          (c.loop-number.number + 1) _ _ c.args.store.now c.read_block.new.store
          (omega (arith, c.loop-number.auto.out, c.fill.ensures.len)) (omega (arith, most, c.loop-number-test.true))
          (λ e. e) (λ e. e)
          (reads_more g.S.Store c.args.self.now c.loop-number.self c.args.at (length c.loop-number.out)
          (length c.loop-number.out) c.loop-number.number _ c.args.store.now c.loop-number.store c.read_block.new.store
          (g.met.S.Store.kept_twice _ _ _) refl c.loop-number.invariant.same_path
          c.loop-number.invariant.same_layout (asks_touched c.args.self.now c.args.at (length c.loop-number.out)
          c.loop-number.number touched other) c.loop-number.invariant.reads c.in_err-read_block.ensures.reads));
    }

pub returns : goal.returns
returns g c =
    let some = eqb-false _ _ (sym c.is_empty.ensures ∙ c.if-is_empty.false) in
    let ends : IsEnd c.args.self.now.layout c.args.at (c.args.at + length c.fill.new.self)
    c.block_of_place-first.result c.touched_end-end.result =
    rw (← c.self.view_is) (record {
      begins = c.block_of_place-first.ensures.begins;
      reaches = c.touched_end-end.ensures.reaches;
      most = c.touched_end-end.ensures.number;
      last = c.touched_end-end.ensures.last;
    }) in
    let whole = reading_whole (g.S.Store.held c.args.store.now) c.args.self.now c.loop-number.self c.args.at
    c.loop-number.out (c.args.at + length c.fill.new.self) c.block_of_place-first.result c.touched_end-end.result
    c.loop-number.number ends (omega (arith, some, c.loop-number.auto.out)) (omega (arith, c.loop-number.auto.out))
    c.loop-number.auto.number-end c.loop-number-test.false c.loop-number.invariant.read in
    let most : c.touched_end-end.result ≤ blocks c.args.self.now.layout =
    rw (← c.self.view_is) c.touched_end-end.ensures.number in
    let stopped : c.loop-number.number ≤ c.touched_end-end.result =
    stops (c.args.self.now.layout) c.args.at (length c.loop-number.out) (c.args.at + length c.fill.new.self)
    c.block_of_place-first.result c.touched_end-end.result c.loop-number.number ends
    (omega (arith, some, c.loop-number.auto.out)) (omega (arith, c.loop-number.auto.out)) c.loop-number.auto.number-end in
    let stood : c.touched_end-end.result ≡ c.loop-number.number = omega (arith, stopped, c.loop-number-test.false) in
    let place : c.args.at + length c.loop-number.out ≡ c.args.at + length c.fill.new.self =
    omega (arith, c.loop-number.auto.out) in
    let reaches : c.args.at + length c.loop-number.out
    ≤ c.loop-number.number * c.args.self.now.layout.block_length = rw (place, ← stood) ends.reaches in
    let last : c.args.at + length c.loop-number.out ≡ plain_length c.args.self.now.layout
    → c.loop-number.number ≡ blocks c.args.self.now.layout = λ e. sym stood ∙ ends.last (sym place ∙ e) in
    record {
      slice = of_belonging (g.S.Store.held c.args.store.now) c.args.self.now _ _ (λ files belongs h. h.1) whole;
      only_known = of_belonging (g.S.Store.held c.args.store.now) c.args.self.now _ _ (λ files belongs h. h.2) whole;
      belongs = of_belonging (g.S.Store.held c.args.store.now) c.args.self.now _ _ (λ files belongs h. h.0) whole;
      after = record {
        same_path = c.loop-number.invariant.same_path;
        same_layout = c.loop-number.invariant.same_layout;
        fault = tt;
        holds = c.loop-number.invariant.holds ∙ holds_last c.args.self.now c.args.at (length c.loop-number.out)
            (length c.args.out.now) c.loop-number.number
            (omega (arith, c.loop-number.auto.out, c.fill.ensures.len)) (omega (arith, most, stopped))
            (untouched_after c.args.self.now.layout c.args.at (length c.loop-number.out) c.loop-number.number
            reaches last);
        holds_none = tt;
      };
      reads = reads_ended g.S.Store c.args.self.now c.args.at (length c.loop-number.out) (length c.args.out.now)
          c.loop-number.number _ _ c.args.store.now c.loop-number.store
          (omega (arith, c.loop-number.auto.out, c.fill.ensures.len)) (omega (arith, most, stopped))
          (λ f. absurd f) (λ e. let f : ⊥ = cc in f) c.loop-number.invariant.reads;
    }
