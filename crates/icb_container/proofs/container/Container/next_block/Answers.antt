-- The next block is read.
use Rattle.std.proofs.Common.{rules, ◌≡◌, ◌+◌, ◌≤◌, ℕ, length, drop, take, arith, Err, None, refl, sym, ap, ◌∙◌}
use Rattle.icb_base.proofs.LawLemmas.{part_is_filled}
use Rattle.icb_container.specs.declared.block.Block.{Block}
use Rattle.icb_container.specs.Blocks.{Head, State, behind, next_of, part_of}
use Rattle.icb_container.specs.Items.{head_of}
use Rattle.icb_container.specs.Opened.{Opened, state_of}
use Rattle.icb_container.proofs.Heads.{state_behind}
use Rattle.icb_container.proofs.Knowledge.{file_size, known_none, known_part, known_through}
use Rattle.icb_container.proofs.NextBlock.{block_is_part, marker_refuses, next_is, next_none, next_refuses, records_refuse}
use Rattle.icb_container.proofs.Reading.{reads_twice}
use Rattle.icb_container.proofs.Refused.{of_reader}
use Rattle.icb_container.proofs.container.Container.next_block.Goals as goal

pub returns-in_err-head-clause-reads : goal.returns-in_err-head-clause-reads
returns-in_err-head-clause-reads g c = λ known is file fills.
    let e : c.from_residual.result ≡ Err c.in_err-head.field-0.0 = search rules in
    let at : c.self.inside.place ≡ c.args.self.now.place = ap (λ (o : Opened). o.place) c.self.view_is in
    let r = rw at at (c.in_err-head.ensures.reads known is file fills) in
    record { gives = rw e (next_refuses (state_of c.args.self.now) file c.in_err-head.field-0.0 r.gives); there = rw e tt }

pub returns-in_default-clause-reads : goal.returns-in_default-clause-reads
returns-in_default-clause-reads g c = λ known is file fills.
    let at : c.self.inside.place ≡ c.args.self.now.place = ap (λ (o : Opened). o.place) c.self.view_is in
    let r = rw (at, c.in_default.is) at (c.in_ok-head.ensures.reads known is file fills) in
    record { gives = next_none (state_of c.args.self.now) file r.gives; there = known_none known c.args.self.now.place }

pub returns-in_err-bytes-clause-reads : goal.returns-in_err-bytes-clause-reads
returns-in_err-bytes-clause-reads g c = λ known is file fills.
    let e : c.from_residual-in_err-bytes.result ≡ Err c.in_err-bytes.field-0.0 = search rules in
    let r = of_reader c.in_err-bytes.field-0.0 (next_of (state_of c.args.self.now) file) c.in_err-bytes.ensures.refused in
    record { gives = rw e r; there = rw e tt }

pub returns-in_err-check_records-clause-reads : goal.returns-in_err-check_records-clause-reads
returns-in_err-check_records-clause-reads g c = λ known is file fills.
    let e : c.from_residual-in_err-check_records.result ≡ Err c.in_err-check_records.field-0.0 = search rules in
    let at : c.self.inside.place ≡ c.args.self.now.place = ap (λ (o : Opened). o.place) c.self.view_is in
    let schema : c.root.result.now ≡ c.args.self.now.schema = c.root.ensures.root ∙ ap (λ (o : Opened). o.schema) c.self.view_is in
    let r = rw (at, c.in-Some.is) at (c.in_ok-head.ensures.reads known is file fills) in
    let within = rw c.in-Some.is at c.in_ok-head.ensures.within in
    let size = file_size known file _ fills (g.met.R.ReadAt.known_size c.args.reader.now known is) in
    let bytes : c.as_slice.result.now ≡ c.in_ok-bytes.bytes = search rules in
    let part = c.in_ok-bytes.ensures.bytes known (c.in_ok-head.ensures.reader.same known is) in
    let is_part : c.as_slice.result.now ≡ take c.in-Some.head.size (drop c.in-Some.head.place file) =
    bytes ∙ part_is_filled known file c.in_ok-bytes.bytes c.in-Some.head.place fills part ∙ ap (λ (n : ℕ). take n (drop c.in-Some.head.place file)) c.in_ok-bytes.ensures.size in
    let refused = rw schema at (c.in_err-check_records.ensures.checks file (omega (arith, size, within.in_file)) is_part) in
    record { gives = rw e (records_refuse (state_of c.args.self.now) file (head_of file c.in-Some.head) c.in_err-check_records.field-0.0 r.gives refused); there = rw e tt }

pub returns-in_err-check_marker-clause-reads : goal.returns-in_err-check_marker-clause-reads
returns-in_err-check_marker-clause-reads g c = λ known is file fills.
    let e : c.from_residual-in_err-check_marker.result ≡ Err c.in_err-check_marker.field-0.0 = search rules in
    let at : c.self.inside.place ≡ c.args.self.now.place = ap (λ (o : Opened). o.place) c.self.view_is in
    let marker : c.self.inside.marker ≡ c.args.self.now.marker = ap (λ (o : Opened). o.marker) c.self.view_is in
    let block : c.self.inside.block ≡ c.args.self.now.block = ap (λ (o : Opened). o.block) c.self.view_is in
    let schema : c.root.result.now ≡ c.args.self.now.schema = c.root.ensures.root ∙ ap (λ (o : Opened). o.schema) c.self.view_is in
    let r = rw (at, c.in-Some.is) at (c.in_ok-head.ensures.reads known is file fills) in
    let within = rw c.in-Some.is at c.in_ok-head.ensures.within in
    let size = file_size known file _ fills (g.met.R.ReadAt.known_size c.args.reader.now known is) in
    let bytes : c.as_slice.result.now ≡ c.in_ok-bytes.bytes = search rules in
    let mid = c.in_ok-head.ensures.reader.same known is in
    let part = c.in_ok-bytes.ensures.bytes known mid in
    let is_part : c.as_slice.result.now ≡ take c.in-Some.head.size (drop c.in-Some.head.place file) =
    bytes ∙ part_is_filled known file c.in_ok-bytes.bytes c.in-Some.head.place fills part ∙ ap (λ (n : ℕ). take n (drop c.in-Some.head.place file)) c.in_ok-bytes.ensures.size in
    let records = rw schema at (c.in_ok-check_records.ensures.checks file (omega (arith, size, within.in_file)) is_part) in
    let m = rw (marker, block) at (c.in_err-check_marker.ensures.checks known (c.in_ok-bytes.ensures.reader.same known mid) file fills) in
    record { gives = rw e (marker_refuses (state_of c.args.self.now) file (head_of file c.in-Some.head) records.0 c.in_err-check_marker.field-0.0 r.gives records.1 m.gives); there = rw e tt }

pub returns-clause-reads : goal.returns-clause-reads
returns-clause-reads g c = λ known is file fills.
    let at : c.self.inside.place ≡ c.args.self.now.place = ap (λ (o : Opened). o.place) c.self.view_is in
    let marker : c.self.inside.marker ≡ c.args.self.now.marker = ap (λ (o : Opened). o.marker) c.self.view_is in
    let block : c.self.inside.block ≡ c.args.self.now.block = ap (λ (o : Opened). o.block) c.self.view_is in
    let first : c.self.inside.first ≡ c.args.self.now.first = ap (λ (o : Opened). o.first) c.self.view_is in
    let schema : c.root.result.now ≡ c.args.self.now.schema = c.root.ensures.root ∙ ap (λ (o : Opened). o.schema) c.self.view_is in
    let s : State = state_of c.args.self.now in
    let head : Head = head_of file c.in-Some.head in
    let r = rw (at, c.in-Some.is) at (c.in_ok-head.ensures.reads known is file fills) in
    let within = rw c.in-Some.is at c.in_ok-head.ensures.within in
    let size = file_size known file _ fills (g.met.R.ReadAt.known_size c.args.reader.now known is) in
    let inside : c.in-Some.head.place ≤ length file = omega (arith, size, within.in_file) in
    let bytes : c.as_slice.result.now ≡ c.in_ok-bytes.bytes = search rules in
    let mid = c.in_ok-head.ensures.reader.same known is in
    let part = c.in_ok-bytes.ensures.bytes known mid in
    let is_part : c.as_slice.result.now ≡ take c.in-Some.head.size (drop c.in-Some.head.place file) =
    bytes ∙ part_is_filled known file c.in_ok-bytes.bytes c.in-Some.head.place fills part ∙ ap (λ (n : ℕ). take n (drop c.in-Some.head.place file)) c.in_ok-bytes.ensures.size in
    let records = rw schema at (c.in_ok-check_records.ensures.checks file (omega (arith, size, within.in_file)) is_part) in
    let m = rw (marker, block) at (c.in_ok-check_marker.ensures.checks known (c.in_ok-bytes.ensures.reader.same known mid) file fills) in
    let new : behind s (length file) head ≡ state_of c.pass.new.self = state_behind c.args.self.now file c.in-Some.head inside ∙ ap state_of (sym c.pass.ensures) in
    let next = next_is s file head records.0 r.gives records.1 m.gives in
    let answer : Block = record { first = c.self.inside.first; count = c.in-Some.head.count; place = c.in-Some.head.place; bytes = c.in_ok-bytes.bytes } in
    let data_known = known_part known c.in-Some.head.place (c.in-Some.head.place + c.in-Some.head.size) c.in_ok-bytes.bytes part (omega (arith, c.in_ok-bytes.ensures.size)) in
    let to_marker = known_through known c.args.self.now.place c.in-Some.head.place (c.in-Some.head.place + c.in-Some.head.size) r.there data_known in
    let all_known = known_through known c.args.self.now.place (c.in-Some.head.place + c.in-Some.head.size) (c.in-Some.head.place + c.in-Some.head.size + 16) to_marker m.there in
    record {
      gives = (
        part_of s (length file) head records.0,
        next ∙ rw new refl,
        block_is_part known file c.in_ok-bytes.bytes s c.in-Some.head records.0 answer fills inside part c.in_ok-bytes.ensures.size first refl refl refl,
      );
      there = rw c.pass.ensures all_known;
    }

pub returns-in_err-check_marker-clause-reader : goal.returns-in_err-check_marker-clause-reader
returns-in_err-check_marker-clause-reader g c =
    let law = g.met.R.ReadAt in
    let e : c.from_residual-in_err-check_marker.result ≡ Err c.in_err-check_marker.field-0.0 = search rules in
    let two = reads_twice g.R.ReadAt None _ _ _ (law.kept_twice _ _ _) (law.calm_twice _ _ _) (λ f. law.blamed_since _ _ _ f) c.in_ok-head.ensures.reader c.in_ok-bytes.ensures.reader in
    rw e (reads_twice g.R.ReadAt _ _ _ _ (law.kept_twice _ _ _) (law.calm_twice _ _ _) (λ f. law.blamed_since _ _ _ f) two c.in_err-check_marker.ensures.reader)

pub returns-clause-reader : goal.returns-clause-reader
returns-clause-reader g c =
    let law = g.met.R.ReadAt in
    let two = reads_twice g.R.ReadAt None _ _ _ (law.kept_twice _ _ _) (law.calm_twice _ _ _) (λ f. law.blamed_since _ _ _ f) c.in_ok-head.ensures.reader c.in_ok-bytes.ensures.reader in
    reads_twice g.R.ReadAt None _ _ _ (law.kept_twice _ _ _) (law.calm_twice _ _ _) (λ f. law.blamed_since _ _ _ f) two c.in_ok-check_marker.ensures.reader
