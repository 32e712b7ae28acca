-- The sealer keeps its key, prefix and drawn bytes, its number rises, and no nonce comes twice.
use Rattle.std.proofs.Common.{rules, ◌≡◌, ℕ, ◌+◌, List, [], ◌∷◌, ◌++◌, Some, length, take, ap, sym, ◌∙◌, arith}
use Rattle.std.proofs.lemmas.List.FromFn.{map-range_with_len_more}
use Rattle.icb_seal.specs.Block.{nonce_of}
use Rattle.icb_seal.proofs.BlockLemmas.{length-nonce_of, nonce_of_sealed, nonces_distinct}
use Rattle.icb_seal.specs.Keys.{SealerValue, nonces_of, prefix_inside}
use Rattle.icb_seal.proofs.OpenerLemmas.{room_for_number, same_prefix}
use Rattle.icb_seal.proofs.sealer.Sealer.seal_block.Goals as goal

pub invariant_of-self : goal.invariant_of-self
invariant_of-self c =
    let aad = c.self.inside.aad.items in
    let number = c.self.inside.next_number in
    record {
      room = rw c.set_number.ensures (room_for_number (prefix_inside aad) number);
      same_key = c.self.invariant.same_key;
      same_prefix = c.self.invariant.same_prefix
          ∙ ap Some (sym (same_prefix aad number c.self.invariant.room) ∙ ap prefix_inside (sym c.set_number.ensures));
    }

pub returns-clause-rises : goal.returns-clause-rises
returns-clause-rises c =
    let prefix : prefix_inside c.set_number.new.aad.items ≡ prefix_inside c.self.inside.aad.items =
    rw c.set_number.ensures (same_prefix c.self.inside.aad.items c.self.inside.next_number c.self.invariant.room) in
    let with : List ℕ → SealerValue = λ p. record {
      key = c.self.inside.key;
      prefix = p;
      seed = c.self.inside.seed;
      next = c.self.inside.next_number + 1;
    } in
    let rise : SealerValue → SealerValue = λ v. record v { next = v.next + 1 } in
    ap with prefix ∙ ap rise c.self.view_is

pub returns-clause-nonces : goal.returns-clause-nonces
returns-clause-nonces c =
    let n = c.self.inside.next_number in
    let f = nonce_of c.self.inside.seed in
    let size : length c.self.inside.seed ≡ 8 = search rules in
    let nonce : take 12 c.seal_cipher_block.new.block ≡ f n =
    nonce_of_sealed c.self.inside.key c.nonce_of-nonce.result c.as_slice.result.now c.args.plain.now
    c.seal_cipher_block.new.block
    (ap length c.nonce_of-nonce.ensures ∙ length-nonce_of c.self.inside.seed n size) c.seal_cipher_block.ensures ∙ c.nonce_of-nonce.ensures in
    map-range_with_len_more f 0 n n (omega arith)
    ∙ ap (λ (nonces : List (List ℕ)). nonces ++ f n ∷ []) (ap nonces_of c.self.view_is)
    ∙ ap (λ (nonce : List ℕ). nonces_of c.args.self.now ++ nonce ∷ []) (sym nonce)

pub returns-clause-no_nonce_twice : goal.returns-clause-no_nonce_twice
returns-clause-no_nonce_twice c =
    let next : c.self.inside.next_number ≡ c.args.self.now.next = ap (λ (v : SealerValue). v.next) c.self.view_is in
    nonces_distinct c.self.inside.seed (c.self.inside.next_number + 1) 0 (omega (arith, next, c.requires.number))
