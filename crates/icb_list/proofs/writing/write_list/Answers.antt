use Rattle.icb_list.proofs.WrittenLemmas.{row_is_schema}
use Rattle.icb_list.proofs.InputLemmas.{content_is_given}
use Rattle.icb_list.proofs.writing.write_list.Goals as goal

pub new-schema-requires : goal.new-schema-requires
new-schema-requires c = rw c.in_ok-row_node.ensures row_is_schema

pub returns-clause-bytes : goal.returns-clause-bytes
returns-clause-bytes c = rw (
  c.new-schema.ensures,
  c.in_ok-row_node.ensures,
  c.in_ok-from_str.ensures,
  c.in_ok-from_slice.ensures,
  c.as_slice-2.ensures.value,
  c.in_ok-blocks.ensures,
  c.as_slice.ensures.value,
  c.in_ok-values.ensures,
) at c.write_container.ensures.bytes

pub returns-clause-content : goal.returns-clause-content
returns-clause-content c =
    content_is_given c.write_container.result c.args.rows.now c.args.sync.now (rw (
      c.new-schema.ensures,
      c.in_ok-row_node.ensures,
      c.in_ok-from_str.ensures,
      c.in_ok-from_slice.ensures,
      c.as_slice-2.ensures.value,
      c.in_ok-blocks.ensures,
      c.as_slice.ensures.value,
      c.in_ok-values.ensures,
    ) at c.write_container.ensures.content)
