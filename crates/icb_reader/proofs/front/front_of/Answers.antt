use Rattle.std.proofs.Common.{rules, ◌≡◌, ◌-◌, length}
use Rattle.std.proofs.lemmas.Int.{to_z-of_z}
use mir.Val.{SFits}
use mir.Syntax.{w32}
use Rattle.icb_schema.specs.Nodes.{tree_of}
use Rattle.icb_schema.proofs.TreeLemmas.{tree_of_node}
use Rattle.icb_avro.specs.declared.value.Value.{out-Value}
use Rattle.icb_fields.specs.Answers.{row}
use Rattle.icb_fields.specs.Fields.{record_of}
use Rattle.icb_schema.specs.Tree.{root_form}
use Rattle.icb_reader.proofs.FrontLemmas.{front_fails, front_gives, front_refuses}
use Rattle.icb_reader.proofs.front.front_of.Goals as goal

pub returns-in-Err-Avro-clause-reads : goal.returns-in-Err-Avro-clause-reads
returns-in-Err-Avro-clause-reads g c =
    let h = rw (c.new-cursor.ensures, c.in-Err-Avro.is, c.in-Err-Avro.field-0-is) at c.value.ensures in
    rw (c.refused.ensures, c.in-Err-Avro.field-0-is) (front_refuses g.T.FromRecord.made (tree_of c.args.node.now) c.args.end c.args.rest.now c.in-Err-Avro.fault c.value.new.self h)

pub returns-in-Ok-from_record-clause-reads : goal.returns-in-Ok-from_record-clause-reads
returns-in-Ok-from_record-clause-reads g c =
    let h = rw (c.new-cursor.ensures, c.in-Ok.is) at c.value.ensures in
    let same : row c.new.result ≡ record_of (root_form (tree_of c.args.node.now)) (out-Value c.in-Ok.value) = rw (tree_of_node c.args.node.now) c.new.ensures in
    let m = rw same at c.in-Ok-from_record.ensures in
    rw c.place.ensures (front_gives g.T.FromRecord.made (tree_of c.args.node.now) c.args.end c.args.rest.now c.in-Ok.value c.value.new.self c.in-Ok-from_record.made h m)

pub returns-in-Err-Field-clause-reads : goal.returns-in-Err-Field-clause-reads
returns-in-Err-Field-clause-reads g c =
    let h = rw (c.new-cursor.ensures, c.in-Ok.is) at c.value.ensures in
    let same : row c.new.result ≡ record_of (root_form (tree_of c.args.node.now)) (out-Value c.in-Ok.value) = rw (tree_of_node c.args.node.now) c.new.ensures in
    let m = rw (same, c.in-Err-Field.field-0-is) at c.in-Err-Field.ensures in
    let f : SFits w32 c.in-Err-Field.field.id = search rules in
    let place : c.saturating_sub.result ≡ c.args.end - length c.args.rest.now = search rules in
    rw (place, c.in-Err-Field.field-0-is, to_z-of_z w32 c.in-Err-Field.field.id f) (front_fails g.T.FromRecord.made (tree_of c.args.node.now) c.args.end c.args.rest.now c.in-Ok.value c.value.new.self c.in-Err-Field.field.id h m)
