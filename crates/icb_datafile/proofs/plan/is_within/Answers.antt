use Rattle.std.proofs.Common.{◌∙◌, ap, sym, subst}
use Rattle.icb_types.specs.Data.{seen}
use Rattle.icb_rows.specs.Records.{row_by_ids}
use Rattle.icb_table.specs.Selection.{is_within}
use Rattle.icb_datafile.specs.Plans.{IsRangeIn, range_at}
use Rattle.icb_datafile.proofs.DatumLemmas.{within_is}
use Rattle.icb_datafile.proofs.plan.is_within.Goals as goal

pub returns-in-Some : goal.returns-in-Some
returns-in-Some c = λ columns fs vs inside own range_in.
    let within = subst (IsRangeIn columns) c.in-Some.is range_in in
    c.holds.ensures
    ∙ within_is columns fs vs c.in-Some.asked (seen c.datum.result) own within (λ col e. c.datum.ensures columns fs inside.is_projection vs inside.is_record col e)
    ∙ ap (λ r. is_within (range_at columns r) (row_by_ids columns fs vs)) (sym c.in-Some.is)
