-- The marker behind a block's records.
use Rattle.std.proofs.Common.{rules, ◌≡◌, length, Err, arith}
use Rattle.icb_container.specs.Items.{head_of, marker_checked}
use Rattle.icb_container.proofs.Heads.{marker_is}
use Rattle.icb_container.proofs.Knowledge.{known_part}
use Rattle.icb_container.proofs.Refused.{of_reader}
use Rattle.icb_container.proofs.container.check_marker.Goals as goal

pub returns-then-ne-clause-checks : goal.returns-then-ne-clause-checks
returns-then-ne-clause-checks g c = λ known is file fills.
    let size : length c.read.new.out ≡ 16 = search rules in
    record {
      gives = marker_is known file c.read.new.out c.args.marker.now c.args.block c.args.head _ fills (c.in_ok-read.ensures.bytes known is) size c.if-ne.ensures;
      there = search rules;
    }

pub returns-clause-checks : goal.returns-clause-checks
returns-clause-checks g c = λ known is file fills.
    let size : length c.read.new.out ≡ 16 = search rules in
    record {
      gives = marker_is known file c.read.new.out c.args.marker.now c.args.block c.args.head _ fills (c.in_ok-read.ensures.bytes known is) size c.if-ne.ensures;
      there = known_part known _ _ c.read.new.out (c.in_ok-read.ensures.bytes known is) (omega (arith, size));
    }

pub returns-in_err-read-clause-checks : goal.returns-in_err-read-clause-checks
returns-in_err-read-clause-checks g c = λ known is file fills.
    let e : c.from_residual.result ≡ Err c.in_err-read.field-0.0 = search rules in
    let r = of_reader c.in_err-read.field-0.0 (marker_checked c.args.marker.now c.args.block (head_of file c.args.head)) c.in_err-read.ensures.refused in
    record { gives = rw e r; there = rw e tt }
