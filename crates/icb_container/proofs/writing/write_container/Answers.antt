use Rattle.std.proofs.Common.{◌≡◌, true, arith, rules, sym, ap, ◌∙◌}
use Rattle.icb_schema.specs.Nodes.{tree_of}
use Rattle.icb_schema.specs.Printing.{text_of}
use Rattle.icb_schema.specs.Reading.{schema_of}
use Rattle.icb_schema.specs.Rules.{has_distinct_names}
use Rattle.icb_container.specs.Content.{content_of}
use Rattle.icb_container.specs.Written.{written_container}
use Rattle.icb_container.proofs.ContentAgain.{content_again}
use Rattle.icb_container.proofs.writing.write_container.Goals as goal

pub returns-clause-content : goal.returns-clause-content
returns-clause-content c =
    let bytes : c.put_blocks.new.out ≡ written_container (text_of (tree_of c.args.schema.now)) c.args.extra.now c.args.sync.now c.args.blocks.now = search rules in
    let reads = λ (distinct : has_distinct_names (tree_of c.args.schema.now) ≡ true). ap schema_of (sym c.in_ok-text.ensures.text) ∙ c.in_ok-text.ensures.reads_back distinct in
    λ records is. ap content_of bytes
    ∙ content_again (tree_of c.args.schema.now) c.args.extra.now c.args.sync.now c.args.blocks.now records reads c.root-node.ensures.arrays c.in_ok-properties.ensures.texts (omega arith) is
