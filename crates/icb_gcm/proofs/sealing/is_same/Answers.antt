-- A difference that is 0 has no byte that differs.
use Rattle.std.proofs.Common.{◌≡◌, ℕ, List, get_or, refl, ap, ◌∙◌, arith, below_more, eqb-true, eq-eqb}
use Rattle.std.proofs.lemmas.List.{ext_get_or}
use Rattle.std.specs.Prelude.{bit_xor}
use Rattle.std.specs.Int.Bits.{xor_self}
use Rattle.icb_gcm.proofs.BytesLemmas.{parts_of_or, same_from_sum}
use Rattle.icb_gcm.proofs.sealing.is_same.Goals as goal

pub loop-i-preserved : goal.loop-i-preserved
loop-i-preserved c = record {
  only = λ none.
      let parts = parts_of_or c.loop-i.difference _ none in
      below_more _ _ (c.loop-i.invariant.only parts.0) (same_from_sum _ _ parts.1);
  same = λ e.
      let before : c.loop-i.difference ≡ 0 = c.loop-i.invariant.same e in
      let here : bit_xor (get_or c.args.tag.now c.loop-i.i 0) (get_or c.args.other.now c.loop-i.i 0) ≡ 0 =
      ap (λ (bs : List ℕ). bit_xor (get_or bs c.loop-i.i 0) (get_or c.args.other.now c.loop-i.i 0)) e
      ∙ xor_self (get_or c.args.other.now c.loop-i.i 0) in
      rw (before, here) refl;
}

pub returns : goal.returns
returns c = (
  (λ test. ext_get_or 0 c.args.tag.now c.args.other.now (omega arith)
      (λ k h. c.loop-i.invariant.only (eqb-true _ _ test) k (omega (arith, h)))),
  (λ e. eq-eqb _ _ (c.loop-i.invariant.same e)),
)
