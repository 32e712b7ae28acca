-- What opens is what the definition says, and nothing else is refused.
use Rattle.std.proofs.Common.{rules, ◌≡◌, ◌-◌, ◌≤◌, length, take, drop, Some, ap, sym, ◌∙◌, arith}
use Rattle.std.proofs.lemmas.List.{take_at}
use Rattle.icb_seal.proofs.BlockLemmas.{unwrapped_too_short, unwrapped_too_long}
use Rattle.icb_seal.proofs.WrappingLemmas.{unwrapped_parts}
use Rattle.icb_seal.proofs.wrapping.unwrap_key.Goals as goal
use Rattle.icb_seal.proofs.wrapping.unwrap_key.Goals.{then-sealed_key-via-then-sealed_key, then-sealed_key-via-else-sealed_key+then-sealed_key-gt-LONGEST}

pub returns-then-sealed_key-clause-not_authentic : goal.returns-then-sealed_key-clause-not_authentic
returns-then-sealed_key-clause-not_authentic c = λ _. elim c.then-sealed_key.branch [
  | then-sealed_key-via-then-sealed_key w ↦
      unwrapped_too_short c.args.key.now c.args.aad.now c.args.sealed_key.now (omega (arith, w.if-sealed_key))
  | then-sealed_key-via-else-sealed_key+then-sealed_key-gt-LONGEST w ↦
      unwrapped_too_long c.args.key.now c.args.aad.now c.args.sealed_key.now (omega (arith, w.if-sealed_key-gt-LONGEST))
]

pub returns-in-Ok-open_in_place-clause-opened : goal.returns-in-Ok-open_in_place-clause-opened
returns-in-Ok-open_in_place-clause-opened c =
    let room : 28 ≤ length c.args.sealed_key.now = omega (arith, c.if-sealed_key.false) in
    let middle : c.as_mut_slice.result.now
    ≡ take (length c.args.sealed_key.now - 16 - 12) (drop 12 c.args.sealed_key.now) = search rules in
    let size : length c.open_in_place.new.text ≡ c.into_vec-text.result.len = search rules in
    let text : c.from_vec.result ≡ c.open_in_place.new.text =
    c.from_vec.ensures ∙ take_at c.open_in_place.new.text _ _ size in
    unwrapped_parts c.args.key.now c.args.aad.now c.args.sealed_key.now c.nonce_and_tag.result.0
    c.nonce_and_tag.result.1 c.as_mut_slice.result.now room c.nonce_and_tag.ensures.nonce
    c.nonce_and_tag.ensures.tag middle
    ∙ c.in-Ok-open_in_place.ensures.ok ∙ ap Some (sym text)

pub returns-in-Err-clause-not_authentic : goal.returns-in-Err-clause-not_authentic
returns-in-Err-clause-not_authentic c = λ _.
    let room : 28 ≤ length c.args.sealed_key.now = omega (arith, c.if-sealed_key.false) in
    let middle : c.as_mut_slice.result.now
    ≡ take (length c.args.sealed_key.now - 16 - 12) (drop 12 c.args.sealed_key.now) = search rules in
    unwrapped_parts c.args.key.now c.args.aad.now c.args.sealed_key.now c.nonce_and_tag.result.0
    c.nonce_and_tag.result.1 c.as_mut_slice.result.now room c.nonce_and_tag.ensures.nonce
    c.nonce_and_tag.ensures.tag middle
    ∙ c.in-Err.ensures.not_authentic
