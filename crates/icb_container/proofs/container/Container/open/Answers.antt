-- A container is opened.
use Rattle.std.proofs.Common.{rules, ◌≡◌, ◌≤◌, ◌+◌, None, length, drop, arith, Err}
use Rattle.icb_schema.specs.Nodes.{tree_of}
use Rattle.icb_container.proofs.HeaderIs.{header_marker_refuses, magic_refuses, map_refuses, opened_is, schema_refuses}
use Rattle.icb_container.proofs.Knowledge.{file_size, known_through}
use Rattle.icb_container.proofs.Reading.{reads_twice}
use Rattle.icb_container.proofs.container.Container.open.Goals as goal

pub returns-in_err-check_magic-clause-opens : goal.returns-in_err-check_magic-clause-opens
returns-in_err-check_magic-clause-opens g c = λ known is file fills.
    let e : c.from_residual.result ≡ Err c.in_err-check_magic.field-0.0 = search rules in
    let m = c.in_err-check_magic.ensures.checks known is file fills in
    record { gives = rw e (magic_refuses file c.in_err-check_magic.field-0.0 m.gives); there = rw e tt }

pub returns-in_err-found-clause-opens : goal.returns-in_err-found-clause-opens
returns-in_err-found-clause-opens g c = λ known is file fills.
    let e : c.from_residual-in_err-found.result ≡ Err c.in_err-found.field-0.0 = search rules in
    let m = c.in_ok-check_magic.ensures.checks known is file fills in
    let r = c.in_err-found.ensures.reads known (c.in_ok-check_magic.ensures.reader.same known is) file fills in
    record { gives = rw e (map_refuses file c.in_err-found.field-0.0 m.gives r.gives); there = rw e tt }

pub returns-in_err-marker-clause-opens : goal.returns-in_err-marker-clause-opens
returns-in_err-marker-clause-opens g c = λ known is file fills.
    let e : c.from_residual-in_err-marker.result ≡ Err c.in_err-marker.field-0.0 = search rules in
    let m = c.in_ok-check_magic.ensures.checks known is file fills in
    let mid = c.in_ok-check_magic.ensures.reader.same known is in
    let r = c.in_ok-found.ensures.reads known mid file fills in
    let k = c.in_err-marker.ensures.reads known (c.in_ok-found.ensures.reader.same known mid) file fills in
    record { gives = rw e (header_marker_refuses file (drop c.in_ok-found.place file) r.gives.0 c.in_err-marker.field-0.0 m.gives r.gives.1 k.gives); there = rw e tt }

pub returns-in_err-marker-clause-reader : goal.returns-in_err-marker-clause-reader
returns-in_err-marker-clause-reader g c =
    let law = g.met.R.ReadAt in
    let e : c.from_residual-in_err-marker.result ≡ Err c.in_err-marker.field-0.0 = search rules in
    let two = reads_twice g.R.ReadAt None c.args.reader.now c.check_magic.new.reader c.map_at.new.reader (law.kept_twice _ _ _) (law.calm_twice _ _ _) (λ f. law.blamed_since _ _ _ f) c.in_ok-check_magic.ensures.reader c.in_ok-found.ensures.reader in
    rw e (reads_twice g.R.ReadAt _ c.args.reader.now c.map_at.new.reader c.marker_at.new.reader (law.kept_twice _ _ _) (law.calm_twice _ _ _) (λ f. law.blamed_since _ _ _ f) two c.in_err-marker.ensures.reader)

pub returns-in_err-schema-clause-opens : goal.returns-in_err-schema-clause-opens
returns-in_err-schema-clause-opens g c = λ known is file fills.
    let e : c.from_residual-in_err-schema.result ≡ Err c.in_err-schema.field-0.0 = search rules in
    let m = c.in_ok-check_magic.ensures.checks known is file fills in
    let mid = c.in_ok-check_magic.ensures.reader.same known is in
    let r = c.in_ok-found.ensures.reads known mid file fills in
    let k = c.in_ok-marker.ensures.reads known (c.in_ok-found.ensures.reader.same known mid) file fills in
    let said = c.in_err-schema.ensures.gives r.gives.0 r.gives.2 in
    record {
      gives = rw e (schema_refuses file (drop c.in_ok-found.place file) (c.in_ok-marker.marker, drop (c.in_ok-found.place + 16) file) r.gives.0 c.in_err-schema.field-0.0 m.gives r.gives.1 k.gives said);
      there = rw e tt;
    }

pub returns-clause-opens : goal.returns-clause-opens
returns-clause-opens g c = λ known is file fills.
    let size = file_size known file _ fills (g.met.R.ReadAt.known_size c.args.reader.now known is) in
    let m = c.in_ok-check_magic.ensures.checks known is file fills in
    let mid = c.in_ok-check_magic.ensures.reader.same known is in
    let r = c.in_ok-found.ensures.reads known mid file fills in
    let k = c.in_ok-marker.ensures.reads known (c.in_ok-found.ensures.reader.same known mid) file fills in
    let said = c.in_ok-schema.ensures.gives r.gives.0 r.gives.2 in
    let inside : c.in_ok-found.place + 16 ≤ length file = omega (arith, size, c.in_ok-marker.ensures.within, c.in_ok-found.ensures.reader.same_size, c.in_ok-check_magic.ensures.reader.same_size) in
    let to_marker = known_through known 0 4 c.in_ok-found.place m.there r.there in
    record {
      gives = opened_is file c.in_ok-marker.marker c.in_ok-found.place r.gives.0 (tree_of c.in_ok-schema.schema) inside m.gives r.gives.1 k.gives said;
      there = known_through known 0 c.in_ok-found.place (c.in_ok-found.place + 16) to_marker k.there;
    }
