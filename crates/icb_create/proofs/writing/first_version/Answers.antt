-- The text of the new table's metadata is what it is to be.
use Rattle.icb_meta.specs.Answers.{json_of, shown_of}
use Rattle.icb_create.proofs.OpensLemmas.{first_is}
use Rattle.icb_create.proofs.writing.first_version.Goals as goal

pub returns : goal.returns
returns c =
    first_is c.args.words c.args.master.now c.args.drawn.now c.args.now_ms c.in_ok-entry.entry c.in_ok-table.table
    c.uuid.result (json_of c.in_ok-meta.meta) (shown_of c.in_ok-meta.meta) c.to_bytes.result
    c.in_ok-entry.ensures c.in_ok-table.ensures c.uuid.ensures c.in_ok-meta.ensures.json c.in_ok-meta.ensures.shown
    c.to_bytes.ensures.text c.to_bytes.ensures.reads_back
