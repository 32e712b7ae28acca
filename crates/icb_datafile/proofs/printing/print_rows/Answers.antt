use Rattle.std.proofs.Common.{◌≡◌, ◌∙◌, ◌+◌, ◌-◌, ℕ, suc, length, map, Ok, Err, ap, sym, subst, refl, arith}
use Rattle.icb_avro.specs.Cursor.{Input, unread}
use Rattle.icb_container.specs.Wrong as wrong
use Rattle.icb_reader.specs.Records as refusal
use Rattle.icb_reader.specs.declared.fault.RecordsFault.TheVariants as told
use Rattle.icb_rows.specs.Records.{row_by_ids}
use Rattle.icb_rows.specs.Views.{passed, record_at}
use Rattle.icb_table.specs.Trace.{stopped}
use Rattle.icb_table.specs.Why as why
use Rattle.icb_datafile.specs.Left.{refusal_of}
use Rattle.icb_datafile.specs.Plans.{IsPlanOf, IsViewOf}
use Rattle.icb_datafile.proofs.BlockLemmas.{all_passed, enough_passed, is_not_taken, is_taken, next_row, no_row, one_more, refused_row, rows_at, rows_at_first, stopped_anywhere, stopped_there}
use Rattle.icb_datafile.proofs.ChoosingLemmas.{kept_words, plan_stays}
use Rattle.icb_datafile.proofs.DatumLemmas.{when_err, when_ok}
use Rattle.icb_datafile.proofs.printing.print_rows.Goals as goal

pub returns-in-Err-clause-prints : goal.returns-in-Err-clause-prints
returns-in-Err-clause-prints g c = λ columns fs f projection plan.
    let inv = c.loop-passed.invariant in
    let t = is_not_taken (map passed c.args.projection.now.fields) c.in-Err.fault c.loop-passed.cursor c.take.new.cursor c.in-Err.ensures.takes in
    let is = subst (λ ps. record_at ps (unread c.loop-passed.cursor) ≡ Err t.refused) projection.fields t.is in
    let end : ℕ = c.args.block.now.place + length c.args.block.now.bytes in
    let n : ℕ = c.args.block.now.count - (c.loop-passed.passed + 1) in
    let left : c.args.block.now.count - c.loop-passed.passed ≡ suc n = omega (arith, c.loop-passed-test.true) in
    let place : end - t.refused.left ≡ c.args.block.now.place + c.in-Err.fault.place = omega (arith, t.place, ap length inv.whole) in
    let row = ap (λ (k : ℕ). rows_at columns f fs end k (unread c.loop-passed.cursor)) left ∙ refused_row columns f fs end n (unread c.loop-passed.cursor) t.refused is
    ∙ ap (λ (k : ℕ). stopped f (why.no_container (wrong.avro k t.refused.cause))) place
    ∙ ap (λ z. stopped f (why.no_container (wrong.avro (c.args.block.now.place + c.in-Err.fault.place) z))) (sym t.same_cause) in
    stopped_there columns f c.args.plan.now c.loop-passed.plan (rows_at columns f fs end c.args.block.now.count c.args.block.now.bytes)
    (rows_at columns f fs end (c.args.block.now.count - c.loop-passed.passed) (unread c.loop-passed.cursor)) c.refused.result
    (refusal.container (wrong.avro (c.args.block.now.place + c.in-Err.fault.place) c.in-Err.fault.cause)) (ap refusal_of c.refused.ensures) (sym c.is_done.ensures ∙ c.if-is_done.false) (inv.rows columns fs f projection plan) row

pub returns-then-is_err-clause-prints : goal.returns-then-is_err-clause-prints
returns-then-is_err-clause-prints g c = λ columns fs f projection plan.
    let inv = c.loop-passed.invariant in
    let end : ℕ = c.args.block.now.place + length c.args.block.now.bytes in
    let put = when_err c.pass_row.result _ (sym c.is_err.ensures.value ∙ c.if-is_err.true) c.pass_row.ensures.stays in
    stopped_anywhere columns f c.args.plan.now c.loop-passed.plan c.pass_row.new.self (rows_at columns f fs end c.args.block.now.count c.args.block.now.bytes)
    (rows_at columns f fs end (c.args.block.now.count - c.loop-passed.passed) (unread c.loop-passed.cursor)) told.NoMemory refl inv.words c.pass_row.ensures.words put (sym c.is_done.ensures ∙ c.if-is_done.false) (inv.rows columns fs f projection plan)

pub loop-passed-preserved : goal.loop-passed-preserved
loop-passed-preserved g c =
    let inv = c.loop-passed.invariant in
    let t = is_taken (map passed c.args.projection.now.fields) c.in-Ok.view c.loop-passed.cursor c.take.new.cursor c.in-Ok.ensures.takes in
    record {
      whole = t.same ∙ inv.whole;
      words = kept_words c.args.plan.now c.loop-passed.plan c.pass_row.new.self inv.words c.pass_row.ensures.words;
      rows = λ columns fs f projection plan.
          let is = subst (λ ps. record_at ps (unread c.loop-passed.cursor) ≡ Ok (t.values, unread c.take.new.cursor)) projection.fields t.is in
          let inside : IsViewOf columns c.args.projection.now fs t.values c.in-Ok.view =
          record { is_projection = projection; is_record = c.in-Ok.ensures.again columns fs projection t.values (unread c.take.new.cursor) is } in
          let here : IsPlanOf columns c.loop-passed.plan = plan_stays columns c.args.plan.now c.loop-passed.plan inv.words plan in
          let passes = when_ok c.pass_row.result _ (sym c.is_err.ensures.value ∙ c.if-is_err.false) c.pass_row.ensures.passes columns fs t.values inside here in
          let end : ℕ = c.args.block.now.place + length c.args.block.now.bytes in
          let n : ℕ = c.args.block.now.count - (c.loop-passed.passed + 1) in
          let left : c.args.block.now.count - c.loop-passed.passed ≡ suc n = omega (arith, c.loop-passed-test.true) in
          let next = ap (λ (k : ℕ). rows_at columns f fs end k (unread c.loop-passed.cursor)) left
          ∙ next_row columns f fs end n (unread c.loop-passed.cursor) (unread c.take.new.cursor) t.values is in
          one_more columns c.args.plan.now c.loop-passed.plan c.pass_row.new.self (rows_at columns f fs end c.args.block.now.count c.args.block.now.bytes)
          (rows_at columns f fs end (c.args.block.now.count - c.loop-passed.passed) (unread c.loop-passed.cursor)) (rows_at columns f fs end n (unread c.take.new.cursor))
          (row_by_ids columns fs t.values) inv.words (inv.rows columns fs f projection plan) next passes;
    }

pub returns-clause-prints : goal.returns-clause-prints
returns-clause-prints g c = λ columns fs f projection plan.
    let inv = c.loop-passed.invariant in
    let end : ℕ = c.args.block.now.place + length c.args.block.now.bytes in
    let none : c.args.block.now.count - c.loop-passed.passed ≡ 0 = omega (arith, c.loop-passed-test.false) in
    all_passed columns c.args.plan.now c.loop-passed.plan (rows_at columns f fs end c.args.block.now.count c.args.block.now.bytes)
    (rows_at columns f fs end (c.args.block.now.count - c.loop-passed.passed) (unread c.loop-passed.cursor)) (inv.rows columns fs f projection plan)
    (no_row columns f fs end (c.args.block.now.count - c.loop-passed.passed) (unread c.loop-passed.cursor) none)

pub loop-passed-init : goal.loop-passed-init
loop-passed-init g c =
    let whole : c.new-cursor.result.whole ≡ c.args.block.now.bytes = ap (λ (i : Input). i.whole) c.new-cursor.ensures ∙ c.as_slice.ensures in
    let all : c.args.block.now.bytes ≡ unread c.new-cursor.result = sym c.as_slice.ensures ∙ ap unread (sym c.new-cursor.ensures) in
    let none : c.args.block.now.count ≡ c.args.block.now.count - 0 = omega arith in
    record {
      whole = whole;
      words = record { same_columns = refl; same_range = refl };
      rows = λ columns fs f projection plan.
          let end : ℕ = c.args.block.now.place + length c.args.block.now.bytes in
          rows_at_first columns f c.args.plan.now (rows_at columns f fs end c.args.block.now.count c.args.block.now.bytes)
          (rows_at columns f fs end (c.args.block.now.count - 0) (unread c.new-cursor.result))
          (ap (λ (k : ℕ). rows_at columns f fs end k c.args.block.now.bytes) none ∙ ap (rows_at columns f fs end (c.args.block.now.count - 0)) all);
    }

pub returns-then-is_done-clause-prints : goal.returns-then-is_done-clause-prints
returns-then-is_done-clause-prints g c = λ columns fs f projection plan.
    let inv = c.loop-passed.invariant in
    let end : ℕ = c.args.block.now.place + length c.args.block.now.bytes in
    enough_passed columns c.args.plan.now c.loop-passed.plan (rows_at columns f fs end c.args.block.now.count c.args.block.now.bytes)
    (rows_at columns f fs end (c.args.block.now.count - c.loop-passed.passed) (unread c.loop-passed.cursor)) (inv.rows columns fs f projection plan) (sym c.is_done.ensures ∙ c.if-is_done.true)
