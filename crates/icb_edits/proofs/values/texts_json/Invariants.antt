use Rattle.std.proofs.Common.{◌≡◌, fold, take}
use Rattle.serde_json.specs.Data as json
use Rattle.serde_json.specs.View.{members_view}
use Rattle.icb_edits.specs.Values.{put_text}
use Rattle.icb_edits.proofs.values.texts_json.Given as goal

abbrev pub invariant-loop-name : goal.invariant-loop-name
invariant-loop-name l = members_view l.members.entries ≡ fold put_text json.no_members (take l.name-index l.texts)
