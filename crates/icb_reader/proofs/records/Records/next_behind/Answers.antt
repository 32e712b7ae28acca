use Rattle.std.proofs.Common.{rules, ◌≡◌, ◌+◌, length, Err, refl, ap, ◌∙◌}
use Rattle.icb_schema.specs.Nodes.{tree_of}
use Rattle.std.proofs.lemmas.Result.{err_from_is_err_and}
use Rattle.icb_container.specs.Opened.{state_of}
use Rattle.icb_reader.specs.Answers.{reading_of}
use Rattle.icb_reader.proofs.StepLemmas.{block_refuses, first_gives, first_refuses, no_block}
use Rattle.icb_reader.proofs.records.Records.next_behind.Goals as goal

pub returns-in_err-block-clause-reads : goal.returns-in_err-block-clause-reads
returns-in_err-block-clause-reads g c = λ known is file fills.
    let p = err_from_is_err_and c.from_residual.result c.from_residual.ensures.1 in
    let r = c.in_err-block.ensures.finds known is file fills in
    record { gives = rw (p.1, p.2) (block_refuses g.T.FromRecord.made (reading_of c.args.self.now) file c.in_err-block.field-0.0 r.gives); there = rw p.1 tt }

pub returns-in_default-clause-reads : goal.returns-in_default-clause-reads
returns-in_default-clause-reads g c = λ known is file fills.
    let r = rw c.in_default.is at (c.in_ok-block.ensures.finds known is file fills) in
    record { gives = no_block g.T.FromRecord.made (reading_of c.args.self.now) file (state_of c.next_filled.new.container) r.gives; there = r.there }

pub returns-in_err-record-clause-reads : goal.returns-in_err-record-clause-reads
returns-in_err-record-clause-reads g c = λ known is file fills.
    let e : c.from_residual-in_err-record.result ≡ Err c.in_err-record.field-0.0 = search rules in
    let r = rw c.in-Some.is at (c.in_ok-block.ensures.finds known is file fills) in
    let schema : tree_of c.root-node.result.now ≡ tree_of c.next_filled.new.container.schema = ap tree_of (c.root-node.ensures.root ∙ c.schema.ensures) in
    let bytes : c.as_slice-bytes.result.now ≡ r.gives.0.bytes = c.as_slice-bytes.ensures ∙ r.gives.2.same_bytes in
    let ends : c.in-Some.block.place + length c.as_slice-bytes.result.now ≡ r.gives.0.place + length r.gives.0.bytes = rw (r.gives.2.same_place, bytes) refl in
    record {
      gives = rw e (first_refuses g.T.FromRecord.made (reading_of c.args.self.now) file (state_of c.next_filled.new.container) r.gives.0 (tree_of c.root-node.result.now)
          (c.in-Some.block.place + length c.as_slice-bytes.result.now) c.as_slice-bytes.result.now c.in_err-record.field-0.0 r.gives.1 schema bytes ends c.in_err-record.ensures.reads);
      there = rw e tt;
    }

pub returns-clause-reads : goal.returns-clause-reads
returns-clause-reads g c = λ known is file fills.
    let r = rw c.in-Some.is at (c.in_ok-block.ensures.finds known is file fills) in
    let schema : tree_of c.root-node.result.now ≡ tree_of c.next_filled.new.container.schema = ap tree_of (c.root-node.ensures.root ∙ c.schema.ensures) in
    let bytes : c.as_slice-bytes.result.now ≡ r.gives.0.bytes = c.as_slice-bytes.ensures ∙ r.gives.2.same_bytes in
    let ends : c.in-Some.block.place + length c.as_slice-bytes.result.now ≡ r.gives.0.place + length r.gives.0.bytes = rw (r.gives.2.same_place, bytes) refl in
    record {
      gives = first_gives g.T.FromRecord.made (reading_of c.args.self.now) file (state_of c.next_filled.new.container) r.gives.0 (tree_of c.root-node.result.now)
          (c.in-Some.block.place + length c.as_slice-bytes.result.now) c.in-Some.block.place c.in-Some.block.count c.in_ok-record.count c.as_slice-bytes.result.now c.in-Some.block.bytes c.in_ok-record.record
          r.gives.1 schema bytes r.gives.2.same_bytes ends r.gives.2.same_place r.gives.2.same_count c.in_ok-record.ensures.reads;
      there = r.there;
    }
