use Rattle.std.proofs.Common.{◌≡◌, ◌≤◌, ap, ◌∙◌, sym, subst, arith}
use Rattle.serde_json.specs.Data as json
use Rattle.serde_json.specs.Data.{depth}
use Rattle.serde_json.specs.View.{members_view, view}
use Rattle.serde_json.proofs.Views.{view-Object}
use Rattle.icb_meta.specs.Shown.{fields_of}
use Rattle.icb_edits.specs.Sets.{set_all}
use Rattle.icb_edits.specs.Tables.{heading_sets, layout_sets, new_json, state_sets}
use Rattle.icb_edits.proofs.NewLemmas.{new_shown}
use Rattle.icb_edits.proofs.TableLemmas.{new_plain}
use Rattle.icb_edits.proofs.tables.new_json.Goals as goal

pub returns-clause-json : goal.returns-clause-json
unfolding new_json
returns-clause-json c =
    let none : members_view c.new-members.result.entries ≡ json.no_members = ap members_view c.new-members.ensures.empty in
    view-Object c.put_heading.new.members ∙ ap json.object (c.in_ok-put_heading.ensures.sets
    ∙ ap (set_all (heading_sets c.args.table.now c.args.uuid c.args.now_ms)) (c.in_ok-put_layout.ensures.sets
    ∙ ap (set_all (layout_sets c.args.table.now)) (c.in_ok-put_state.ensures.sets ∙ ap (set_all (state_sets c.args.table.now c.args.entry.now)) none)))

pub returns-clause-shown : goal.returns-clause-shown
returns-clause-shown c =
    ap fields_of (returns-clause-json c) ∙ new_shown c.args.table.now c.args.uuid c.args.entry.now c.args.now_ms c.requires.table c.requires.time
    c.in_ok-put_heading.ensures.uuid c.in_ok-put_heading.ensures.last c.in_ok-put_layout.ensures.id c.in_ok-put_state.ensures.entry

pub returns-clause-shallow : goal.returns-clause-shallow
returns-clause-shallow c =
    let few = (new_plain c.args.table.now c.args.uuid c.args.entry.now c.args.now_ms).levels in
    subst (λ n. n ≤ 127) (sym (ap depth (returns-clause-json c))) (omega arith)
