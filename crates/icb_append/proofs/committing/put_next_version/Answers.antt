-- The put is made up of the nonce, the text and the put of a version.
use Rattle.std.proofs.Common.{refl}
use Rattle.icb_append.proofs.CommitLemmas.{bytes_put, no_nonce}
use Rattle.icb_append.proofs.committing.put_next_version.Goals as goal

pub returns-in_default : goal.returns-in_default
returns-in_default g c =
    no_nonce g.S.Store g.D.Draws _ _ c.args.store.now c.args.draws.now c.draw_nonce.new.draws _ _ refl
    (g.met.S.Store.kept_at_rest c.args.store.now) c.in_default.ensures

pub returns : goal.returns
returns g c =
    bytes_put g.S.Store g.D.Draws _ _ c.args.store.now c.put_version.new.store c.args.draws.now c.draw_nonce.new.draws
    c.in-Ok.nonce c.in-Ok-next_version.text c.as_slice.result.now c.put_version.result _ c.as_slice.ensures (λ h. let g : ⊥ = cc in g)
    c.in-Ok.ensures c.in-Ok-next_version.ensures c.put_version.ensures.answer c.put_version.ensures.puts
