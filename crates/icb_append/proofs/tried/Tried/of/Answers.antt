-- What was tested of the version is known of it.
use Rattle.std.proofs.Common.{◌≡◌, rules, subst, sym, to_z, of_z, w64}
use Rattle.icb_append.specs.Ready.{IsReady}
use Rattle.icb_append.proofs.CommitLemmas.{ready_of}
use Rattle.icb_append.proofs.tried.Tried.of.Goals as goal

pub invariant_of-result : goal.invariant_of-result
invariant_of-result c =
    let same : to_z w64 (of_z w64 c.in-Some.id) ≡ c.in-Some.id = search rules in
    record {
      ready = subst (λ id. IsReady c.args.version c.args.meta id c.args.rows) (sym same)
          (ready_of c.args.meta c.args.ring.now c.args.version c.args.rows c.in-Ok.wrapper c.in-Some.id c.requires c.in-Ok.ensures c.in-Some.ensures.least c.in-Some.ensures.above);
    }
