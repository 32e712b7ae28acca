-- What was read decides, and nothing else asks the store.
use Rattle.std.proofs.Common.{[]}
use Rattle.icb_base.proofs.CallLemmas.{draws_at_rest}
use Rattle.icb_meta.specs.Answers.{json_of, shown_of}
use Rattle.icb_rotate.specs.declared.draft.Draft.{Draft}
use Rattle.icb_meta.specs.declared.table.TableMeta.{TableMeta}
use Rattle.icb_rotate.proofs.DraftLemmas.{current_only, draft_from, draft_only, reads_as, store_from, store_to, told_draft, told_unread, unread_not_random}
use Rattle.icb_rotate.proofs.reading.read_draft.Goals as goal

pub returns-in-Ok : goal.returns-in-Ok
returns-in-Ok g c =
    let d = c.draft_of.ensures in
    let json = json_of c.in-Ok.meta in
    let meta = shown_of c.in-Ok.meta in
    record {
      bytes = d.drawn;
      answers = told_draft (g.S.Store.held c.args.store.now) c.args.ring.now c.args.version c.args.id.now c.args.now_ms d.drawn (json, meta) c.draft_of.result c.in-Ok.ensures.version d.answers;
      from = draft_from (json, meta) c.args.ring.now c.args.version c.args.id.now c.args.now_ms d.drawn c.draft_of.result d.answers;
      only = draft_only json meta c.args.ring.now c.args.version c.args.id.now c.args.now_ms d.drawn c.draft_of.result d.answers;
      reads = reads_as g.S.Store _ _ c.args.store.now c.read_version.new.store (λ h. cc) (λ h. absurd (d.reads_none h)) c.in-Ok.ensures.reads;
      draws = d.draws;
    }

pub returns-in-Err : goal.returns-in-Err
returns-in-Err g c = rw c.current_fault.ensures (record {
  bytes = [];
  answers = told_unread (g.S.Store.held c.args.store.now) c.args.ring.now c.args.version c.args.id.now c.args.now_ms c.in-Err.fault c.in-Err.ensures.version;
  from = tt;
  only = current_only c.in-Err.fault;
  reads = reads_as g.S.Store _ _ c.args.store.now c.read_version.new.store (store_to TableMeta Draft c.in-Err.fault) (store_from TableMeta Draft c.in-Err.fault) c.in-Err.ensures.reads;
  draws = draws_at_rest g.D.Draws _ c.args.draws.now (unread_not_random Draft c.in-Err.fault);
})
