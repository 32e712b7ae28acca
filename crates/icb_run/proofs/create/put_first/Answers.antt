-- What the put answers is what is answered of a first version that isn't too long.
use Rattle.std.proofs.Common.{◌≤◌, arith, length}
use Rattle.icb_run.proofs.CreateLemmas.{first_prints}
use Rattle.icb_run.proofs.ToldLemmas.{where_told}
use Rattle.icb_run.proofs.create.put_first.Goals as goal

pub returns-clause-prints : goal.returns-clause-prints
returns-clause-prints g c =
    let short : length c.args.text.now ≤ 67108864 = omega (arith, c.if-text-gt-METADATA_LIMIT.false) in
    let printed = rw c.in-Ok.ensures at c.put.ensures.prints in
    rw c.exists_where_taken.ensures (where_told (g.S.Store.held c.args.table.now) (λ files put.
    first_prints files c.args.text.now (g.O.Sink.written c.args.out.now) (g.O.Sink.written c.put.new.out) c.put.result
    short put) printed)
