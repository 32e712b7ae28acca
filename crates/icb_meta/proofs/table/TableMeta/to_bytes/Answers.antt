use Rattle.std.proofs.Common.{◌∙◌}
use Rattle.icb_meta.proofs.ShownLemmas.{meta_back, no_float}
use Rattle.icb_meta.proofs.table.TableMeta.to_bytes.Goals as goal

pub returns-clause-text : goal.returns-clause-text
returns-clause-text c = c.from_vec.ensures ∙ c.in_ok-bytes.ensures.text (no_float _ _ c.args.self.now.shown)

pub returns-clause-reads_back : goal.returns-clause-reads_back
returns-clause-reads_back c =
    rw c.from_vec.ensures (meta_back _ _ _ c.in_ok-bytes.ensures.utf8 (c.in_ok-bytes.ensures.reads_back c.args.self.now.shallow) c.args.self.now.shown)
