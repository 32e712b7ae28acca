use Rattle.std.proofs.Common.{refl, subst}
use Rattle.std.specs.Prelude.{List, Ok}
use Rattle.icb_rows.specs.Views.{chosen}
use Rattle.icb_types.specs.declared.columns.Column.{Column}
use Rattle.icb_datafile.specs.Plans.{range_at}
use Rattle.icb_table.specs.Selection.{columns_shown}
use Rattle.icb_scan.specs.Planning.{FindsColumns, IsFirst}
use Rattle.icb_scan.specs.Words.{meant}
use Rattle.icb_scan.proofs.PlanLemmas.{plan_columns, plan_is, plan_range}
use Rattle.icb_scan.proofs.plan.plan_of.Goals as goal

pub returns-in-Err : goal.returns-in-Err
returns-in-Err c = plan_columns c.args.schema.now.columns (meant c.args.query.now) c.in-Err.fault
    (subst (λ (cs : List Column). IsFirst (columns_shown cs c.args.query.now.columns) c.in-Err.fault) c.as_slice.ensures c.in-Err.ensures)

pub returns-in-Err-range_meant : goal.returns-in-Err-range_meant
returns-in-Err-range_meant c =
    let found = subst (λ (cs : List Column). FindsColumns cs (columns_shown cs c.args.query.now.columns) (Ok c.in-Ok.columns)) c.as_slice.ensures c.in-Ok.ensures in
    plan_range c.args.schema.now.columns (chosen c.args.schema.now.columns c.in-Ok.columns) (meant c.args.query.now) c.in-Err-range_meant.fault found.0 c.in-Err-range_meant.ensures

pub returns : goal.returns
returns c =
    let found = subst (λ (cs : List Column). FindsColumns cs (columns_shown cs c.args.query.now.columns) (Ok c.in-Ok.columns)) c.as_slice.ensures c.in-Ok.ensures in (
      record {
        columns = chosen c.args.schema.now.columns c.in-Ok.columns;
        range = range_at c.args.schema.now.columns c.in-Ok-range_meant.range;
        skip = c.args.query.now.skip;
        most = c.args.query.now.take;
      },
      plan_is c.args.schema.now.columns (chosen c.args.schema.now.columns c.in-Ok.columns) (meant c.args.query.now) (range_at c.args.schema.now.columns c.in-Ok-range_meant.range)
          found.0 c.in-Ok-range_meant.ensures.0,
      record {
        chooses = refl;
        is_plan = record { own_ids = c.requires.ids; shown = found.1; range_in = c.in-Ok-range_meant.ensures.1 };
        none = refl;
      },
    )
