-- The keys that are sealed again have the ids of the old ones; and a refusal of keys is one of the draft.
use Rattle.icb_meta.specs.Answers.{json_of, shown_of}
use Rattle.icb_rotate.proofs.DraftLemmas.{distinct_kept}
use Rattle.icb_rotate.proofs.reading.draft_of.Goals as goal

pub next_text-requires-clause-distinct : goal.next_text-requires-clause-distinct
next_text-requires-clause-distinct g c =
    distinct_kept (json_of c.args.meta.now) (shown_of c.args.meta.now) c.args.ring.now c.args.version c.args.id.now c.in-Ok.ensures.drawn
    c.in-Ok.entries c.args.meta.now.shown c.in-Ok.ensures.answers
