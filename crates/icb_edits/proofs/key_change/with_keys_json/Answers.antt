use Rattle.std.proofs.Common.{◌≤◌, refl, sym, ap, ◌∙◌, subst}
use Rattle.serde_json.specs.Data.{depth}
use Rattle.serde_json.proofs.Views.{view-Array, view-Object}
use Rattle.icb_meta.specs.Answers.{json_of, shown_of}
use Rattle.icb_meta.specs.Shown.{fields_of}
use Rattle.icb_edits.proofs.KeyLemmas.{keys_shown}
use Rattle.icb_edits.proofs.key_change.with_keys_json.Goals as goal

pub returns-clause-json : goal.returns-clause-json
returns-clause-json c =
    rw (
      view-Object c.put-3.new.members,
      c.in_ok-put-3.ensures,
      c.in_ok-put_time.ensures,
      c.in_ok-put-2.ensures,
      c.in_ok-put.ensures,
      c.in_ok-members.ensures,
      c.in_ok-log.ensures,
      view-Array c.in_ok-keys.keys,
      c.in_ok-keys.ensures.json,
      view-Object c.put_str.new.members,
      c.in_ok-put_str.ensures,
      c.in_ok-properties.ensures,
      c.json-json.ensures,
      c.as_str.ensures,
    ) refl

pub returns-clause-shown : goal.returns-clause-shown
returns-clause-shown c =
    ap fields_of (returns-clause-json c) ∙ (keys_shown (json_of c.args.meta.now) (shown_of c.args.meta.now) c.args.entries.now c.args.master.now c.args.previous.now c.args.now_ms
    c.args.meta.now.shown c.args.meta.now.shallow c.requires.time c.in_ok-keys.ensures.reads c.requires.distinct).0

pub returns-clause-shallow : goal.returns-clause-shallow
returns-clause-shallow c =
    subst (λ n. n ≤ 127) (sym (ap depth (returns-clause-json c))) (keys_shown (json_of c.args.meta.now) (shown_of c.args.meta.now) c.args.entries.now c.args.master.now
    c.args.previous.now c.args.now_ms c.args.meta.now.shown c.args.meta.now.shallow c.requires.time c.in_ok-keys.ensures.reads c.requires.distinct).1
