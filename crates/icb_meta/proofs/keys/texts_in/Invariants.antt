use Rattle.std.proofs.Common.{◌≡◌, ◌++◌, option_map}
use Rattle.serde_json.specs.View.{members_view}
use Rattle.icb_meta.specs.Forms.{texts_of}
use Rattle.icb_meta.proofs.keys.texts_in.Given as goal

abbrev pub invariant-loop-name : goal.invariant-loop-name
invariant-loop-name l =
    texts_of (members_view l.members.entries) ≡ option_map (λ more. l.texts ++ more) (texts_of (members_view l.name-iterator))
