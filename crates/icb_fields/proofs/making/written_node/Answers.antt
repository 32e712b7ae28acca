use Rattle.icb_schema.proofs.TreeLemmas.{form_of_long, form_of_bytes}
use Rattle.icb_fields.proofs.making.written_node.Goals as goal

pub returns-in_ok-pairs_node-in-LongsByInt : goal.returns-in_ok-pairs_node-in-LongsByInt
returns-in_ok-pairs_node-in-LongsByInt c = rw (c.in-LongsByInt.is)
    (rw (c.in_ok-pairs_node-in-LongsByInt.ensures, c.bare-in-LongsByInt.ensures, form_of_long) at c.or_null-in-LongsByInt.ensures)

pub returns-in_ok-pairs_node-in-BytesByInt : goal.returns-in_ok-pairs_node-in-BytesByInt
returns-in_ok-pairs_node-in-BytesByInt c = rw (c.in-BytesByInt.is)
    (rw (c.in_ok-pairs_node-in-BytesByInt.ensures, c.bare-in-BytesByInt.ensures, form_of_bytes) at c.or_null-in-BytesByInt.ensures)
