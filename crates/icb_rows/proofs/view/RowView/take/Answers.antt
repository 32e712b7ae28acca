use Rattle.std.proofs.Common.{◌∙◌, ◌-◌, ap, subst, map, take, length, Ok, arith}
use Rattle.icb_avro.specs.Cursor.{unread}
use Rattle.icb_rows.specs.Views.{Passes, passed, record_at}
use Rattle.icb_rows.proofs.ViewLemmas.{rest_fits, taken_again}
use Rattle.icb_rows.proofs.view.RowView.take.Goals as goal

pub overflow_sub-all : goal.overflow_sub-all
overflow_sub-all c =
    omega (arith, rest_fits (map passed c.as_slice.result.now) c.in-Ok.rest c.args.cursor.now c.pass_fields.new.cursor c.in-Ok.ensures, ap length c.rest-all.ensures.bytes)

pub returns-in-Ok-clause-again : goal.returns-in-Ok-clause-again
returns-in-Ok-clause-again c =
    taken_again c.args.projection.now c.in-Ok.rest c.split_at.result.0.now c.args.cursor.now c.pass_fields.new.cursor
    (subst (λ fs. Passes (Ok c.in-Ok.rest) c.args.cursor.now c.pass_fields.new.cursor (record_at (map passed fs) (unread c.args.cursor.now))) c.as_slice.ensures c.in-Ok.ensures)
    (c.split_at.ensures.front ∙ ap (λ bytes. take (length bytes - length c.in-Ok.rest.now) bytes) c.rest-all.ensures.bytes)
