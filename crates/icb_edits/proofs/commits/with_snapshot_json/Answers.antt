use Rattle.std.proofs.Common.{◌≤◌, sym, ap, ◌∙◌, subst}
use Rattle.serde_json.specs.Data as json
use Rattle.serde_json.specs.Data.{depth}
use Rattle.serde_json.proofs.Views.{view-Object}
use Rattle.icb_meta.specs.Answers.{json_of, shown_of}
use Rattle.icb_meta.specs.Shown.{fields_of}
use Rattle.icb_edits.specs.Sets.{set_all}
use Rattle.icb_edits.specs.Snapshots.{element_sets, number_sets}
use Rattle.icb_edits.proofs.SnapshotLemmas.{snapshot_shown}
use Rattle.icb_edits.proofs.commits.with_snapshot_json.Goals as goal

pub returns-clause-json : goal.returns-clause-json
returns-clause-json c =
    view-Object c.put_elements.new.members ∙ ap json.object (c.in_ok-put_elements.ensures.sets
    ∙ ap (set_all (element_sets (json_of c.args.meta.now) (shown_of c.args.meta.now) c.args.snapshot.now c.args.entry.now c.args.previous.now c.args.now_ms))
    (c.in_ok-put_numbers.ensures.sets ∙ ap (set_all (number_sets (shown_of c.args.meta.now) c.args.snapshot.now c.args.now_ms)) c.in_ok-members.ensures))

pub returns-clause-shown : goal.returns-clause-shown
returns-clause-shown c =
    ap fields_of (returns-clause-json c) ∙ (snapshot_shown (json_of c.args.meta.now) (shown_of c.args.meta.now) c.args.snapshot.now c.args.entry.now c.args.previous.now c.args.now_ms
    c.args.meta.now.shown c.args.meta.now.shallow c.requires.time c.requires.next
    (record { snapshot = c.in_ok-put_elements.ensures.snapshot; key = c.in_ok-put_elements.ensures.entry; id = c.in_ok-put_numbers.ensures.id; sequence = c.in_ok-put_numbers.ensures.sequence; next = c.in_ok-put_numbers.ensures.next })).0

pub returns-clause-shallow : goal.returns-clause-shallow
returns-clause-shallow c =
    subst (λ n. n ≤ 127) (sym (ap depth (returns-clause-json c)))
    (snapshot_shown (json_of c.args.meta.now) (shown_of c.args.meta.now) c.args.snapshot.now c.args.entry.now c.args.previous.now c.args.now_ms
    c.args.meta.now.shown c.args.meta.now.shallow c.requires.time c.requires.next
    (record { snapshot = c.in_ok-put_elements.ensures.snapshot; key = c.in_ok-put_elements.ensures.entry; id = c.in_ok-put_numbers.ensures.id; sequence = c.in_ok-put_numbers.ensures.sequence; next = c.in_ok-put_numbers.ensures.next })).1
