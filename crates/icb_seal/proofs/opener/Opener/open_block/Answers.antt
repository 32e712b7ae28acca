-- An opened cipher block is what the definition says, and the opener stays as it is.
use Rattle.std.proofs.Common.{◌≡◌, ◌-◌, List, ℕ, length, take, ap, ◌∙◌}
use Rattle.icb_seal.specs.Keys.{OpenerValue}
use Rattle.icb_seal.proofs.OpenerLemmas.{same_prefix, room_for_number}
use Rattle.icb_seal.proofs.opener.Opener.open_block.Goals as goal

pub invariant_of-self : goal.invariant_of-self
invariant_of-self c = rw c.set_number.ensures (room_for_number _ _)

pub returns-clause-opened : goal.returns-clause-opened
returns-clause-opened c =
    rw (← c.self.view_is, ← c.set_number.ensures, ← c.as_slice.ensures.value) c.open_cipher_block.ensures.opened

pub returns-clause-same : goal.returns-clause-same
returns-clause-same c =
    let prefix : take (length c.set_number.new.aad.items - 4) c.set_number.new.aad.items
    ≡ take (length c.self.inside.aad.items - 4) c.self.inside.aad.items =
    rw c.set_number.ensures (same_prefix c.self.inside.aad.items c.args.number c.self.invariant) in
    let view : List ℕ → OpenerValue = λ p. record { key = c.self.inside.key; prefix = p } in
    ap view prefix ∙ c.self.view_is
