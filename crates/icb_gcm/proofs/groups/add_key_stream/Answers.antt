-- The first blocks, the groups, and the rest.
use Rattle.std.proofs.Common.{◌≡◌, ◌∙◌, refl, ap, ℕ, ◌+◌, ◌-◌, List, arith}
use Rattle.icb_aes.specs.Fips197.{cipher}
use Rattle.icb_gcm.specs.Gcm.{counter_block, crypted_front, key_stream}
use Rattle.icb_gcm.proofs.BytesLemmas.{front_beyond}
use Rattle.icb_gcm.proofs.groups.add_key_stream.Goals as goal

-- the text before any block is done
start : (key nonce text : List ℕ) → text ≡ crypted_front key nonce 0 text
unfolding key_stream
start key nonce text = refl

-- the pad of block b
of_block : (key nonce pad : List ℕ) (b : ℕ) → pad ≡ cipher key (counter_block nonce (b + 2))
    → pad ≡ cipher key (counter_block nonce (0 + b + 2))
of_block key nonce pad b is =
    let counter : b + 2 ≡ 0 + b + 2 = omega arith in
    is ∙ ap (λ (n : ℕ). cipher key (counter_block nonce n)) counter

-- the blocks behind none
behind_none : (key nonce text now : List ℕ) (n : ℕ) → now ≡ crypted_front key nonce (0 + n) text
    → now ≡ crypted_front key nonce n text
behind_none key nonce text now n is =
    let same : 0 + n ≡ n = omega arith in
    is ∙ ap (λ (m : ℕ). crypted_front key nonce m text) same

pub returns-then-done-text : goal.returns-then-done-text
returns-then-done-text c =
    let key = c.args.key.now in
    let nonce = c.args.nonce.now in
    let text = c.args.text.now in
    let done = c.add_to_groups-done.result in
    let first : c.add_some_pads.new.text ≡ crypted_front key nonce (8 - c.args.first) text =
    behind_none key nonce text _ (8 - c.args.first)
    (c.add_some_pads.ensures key nonce text refl (start key nonce text) (λ b h. of_block key nonce _ b (c.requires.pads b h))) in
    let groups : c.add_to_groups-done.new.text ≡ crypted_front key nonce done text =
    c.add_to_groups-done.ensures.done text (omega arith) first in
    c.add_some_pads-then-done-text.ensures key nonce text (omega arith) groups (λ b h.
    let counter : done + 2 + (0 + b) ≡ done + b + 2 = omega arith in
    c.pads_of-pads.ensures (0 + b) h ∙ ap (λ (n : ℕ). cipher key (counter_block nonce n)) counter)
    ∙ front_beyond key nonce text (done + 8) (omega arith)

pub returns-else-done-text : goal.returns-else-done-text
returns-else-done-text c =
    let key = c.args.key.now in
    let nonce = c.args.nonce.now in
    let text = c.args.text.now in
    let done = c.add_to_groups-done.result in
    let first : c.add_some_pads.new.text ≡ crypted_front key nonce (8 - c.args.first) text =
    behind_none key nonce text _ (8 - c.args.first)
    (c.add_some_pads.ensures key nonce text refl (start key nonce text) (λ b h. of_block key nonce _ b (c.requires.pads b h))) in
    c.add_to_groups-done.ensures.done text (omega arith) first
    ∙ front_beyond key nonce text done (omega arith)
