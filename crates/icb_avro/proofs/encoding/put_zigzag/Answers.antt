use Rattle.std.proofs.Common.{arith, sym, ◌+◌, ◌*◌, ◌/◌, ◌%◌, [], ◌∷◌}
use Rattle.icb_avro.specs.Writing.{shortest}
use Rattle.icb_avro.proofs.WriteLemmas.{starts_small, starts_large, appends_push, appends_after}
use Rattle.icb_avro.proofs.encoding.put_zigzag.Goals as goal

pub returns-then-half-lt64 : goal.returns-then-half-lt64
returns-then-half-lt64 c =
    rw (starts_small c.args.half c.args.sign (omega arith) c.requires) (appends_push c.push.result c.args.out.now _ c.push.new.self c.push.ensures.ok c.push.ensures.err)

pub returns : goal.returns
returns c =
    appends_after c.put_rest.result c.args.out.now ((128 + (2 * (c.args.half % 64) + c.args.sign)) ∷ []) c.push-2.new.self (shortest 8 (c.args.half / 64)) (shortest 9 (2 * c.args.half + c.args.sign)) c.put_rest.new.out
    c.in_ok-push.ensures.ok (sym (starts_large c.args.half c.args.sign (omega arith) c.requires)) c.put_rest.ensures
