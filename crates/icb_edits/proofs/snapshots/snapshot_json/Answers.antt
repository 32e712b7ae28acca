use Rattle.std.proofs.Common.{◌≡◌, ap, ◌∙◌}
use Rattle.serde_json.specs.Data as json
use Rattle.serde_json.specs.View.{members_view, view}
use Rattle.serde_json.proofs.Views.{view-Object}
use Rattle.icb_edits.specs.Sets.{set_all}
use Rattle.icb_edits.specs.Snapshots.{needed_members, other_members, snapshot_json}
use Rattle.icb_edits.proofs.SnapshotLemmas.{snapshot_back}
use Rattle.icb_edits.proofs.snapshots.snapshot_json.Goals as goal

pub returns-clause-json : goal.returns-clause-json
unfolding snapshot_json
returns-clause-json c =
    let none : members_view c.new-members.result.entries ≡ json.no_members = ap members_view c.new-members.ensures.empty in
    view-Object c.put_needed.new.members ∙ ap json.object (c.in_ok-put_needed.ensures.sets
    ∙ ap (set_all (needed_members c.args.snapshot.now)) (c.in_ok-put_others.ensures.sets ∙ ap (set_all (other_members c.args.snapshot.now)) none))

pub returns-clause-reads : goal.returns-clause-reads
returns-clause-reads c =
    let o = c.in_ok-put_others.ensures in let n = c.in_ok-put_needed.ensures in
    snapshot_back c.args.snapshot.now (record { id = n.id; sequence = n.sequence; ms = n.ms; parent = o.parent; schema = o.schema; first_row = o.first_row; added = o.added })
