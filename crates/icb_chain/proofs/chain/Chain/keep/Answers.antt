-- A key that is put goes first.
use Rattle.std.proofs.Common.{◌≡◌, ◌∙◌, string_bytes}
use Rattle.icb_chain.proofs.KeptLemmas.{put_kept}
use Rattle.icb_chain.proofs.chain.Chain.keep.Goals as goal
use Rattle.icb_chain.proofs.chain.Chain.keep.Goals.{in-Ok-put, in-Err}

pub returns-clause-kept : goal.returns-clause-kept
returns-clause-kept c = elim c.match-put.branch [
  | in-Ok-put w ↦ rw w.result-is (put_kept string_bytes c.self.inside.keys c.put.new.self c.in-Ok.id c.args.id.now c.args.key c.args.self.now
      c.self.view_is (c.in-Ok.ensures.ok ∙ c.as_str.ensures) c.len-count.ensures.valid.1 c.len-count.ensures.valid.2 w.in-Ok-put.ensures.entries)
  | in-Err w ↦ rw w.result-is tt
]
