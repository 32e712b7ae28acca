use Rattle.std.proofs.Common.{rules}
use Rattle.std.proofs.lemmas.Int.{to_z-of_z}
use mir.Val.{SFits}
use mir.Syntax.{w32}
use Rattle.icb_manifest.proofs.WrittenLemmas.{entry_is_schema}
use Rattle.icb_manifest.proofs.InputLemmas.{content_is_given}
use Rattle.icb_manifest.proofs.writing.write_manifest.Goals as goal

pub new-avro-requires : goal.new-avro-requires
new-avro-requires c = rw c.in_ok-entry_node.ensures entry_is_schema

pub returns-clause-bytes : goal.returns-clause-bytes
returns-clause-bytes c =
    let f : SFits w32 c.args.spec = search rules in
    rw (
      c.new-avro.ensures,
      c.in_ok-entry_node.ensures,
      c.as_slice-2.ensures,
      c.in_ok-properties.ensures,
      to_z-of_z w32 c.args.spec f,
      c.as_slice-3.ensures.value,
      c.in_ok-blocks.ensures,
      c.as_slice.ensures.value,
      c.in_ok-values.ensures,
    ) at c.write_container.ensures.bytes

pub returns-clause-content : goal.returns-clause-content
returns-clause-content c =
    let f : SFits w32 c.args.spec = search rules in
    content_is_given c.write_container.result c.args.schema.now c.args.spec c.args.entries.now c.args.sync.now (rw (
      c.new-avro.ensures,
      c.in_ok-entry_node.ensures,
      c.as_slice-2.ensures,
      c.in_ok-properties.ensures,
      to_z-of_z w32 c.args.spec f,
      c.as_slice-3.ensures.value,
      c.in_ok-blocks.ensures,
      c.as_slice.ensures.value,
      c.in_ok-values.ensures,
    ) at c.write_container.ensures.content)
