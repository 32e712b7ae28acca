-- The laws that determine the definitions of sealing and opening.
use Rattle.std.specs.Prelude.{◌≡◌, ℕ, ◌^◌, ◌≤◌, ◌-◌, ◌↔◌, List, length, Some, None}
use Rattle.icb_gcm.specs.Gcm.{SealsTo, opened}

-- `opened` is the text that seals to the ciphertext and the tag, and none where no text does
abbrev pub OpensExactlySealed : Type 0
OpensExactlySealed = (key nonce aad ciphertext tag text : List ℕ)
    → (opened key nonce aad ciphertext tag ≡ Some text) ↔ SealsTo key nonce aad text ciphertext tag

-- it is none exactly where no text seals to them
abbrev pub OpensNoneExactly : Type 0
OpensNoneExactly = (key nonce aad ciphertext tag : List ℕ)
    → (opened key nonce aad ciphertext tag ≡ None)
    ↔ ((text : List ℕ) → SealsTo key nonce aad text ciphertext tag → ⊥)

-- two pairs of a ciphertext and a tag that open to one text are one pair
abbrev pub OpensOnePairAlone : Type 0
OpensOnePairAlone = (key nonce aad ciphertext tag other_ciphertext other_tag text : List ℕ)
    → opened key nonce aad ciphertext tag ≡ Some text
    → opened key nonce aad other_ciphertext other_tag ≡ Some text
    → (ciphertext ≡ other_ciphertext) × (tag ≡ other_tag)

-- every text that isn't too long seals to something, and what it seals to opens to it
abbrev pub SealedOpens : Type 0
SealedOpens = (key nonce aad text : List ℕ) → length text ≤ 2 ^ 36 - 32
    → (ciphertext : List ℕ) × ((tag : List ℕ) × (SealsTo key nonce aad text ciphertext tag
    × (opened key nonce aad ciphertext tag ≡ Some text)))
